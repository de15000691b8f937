use Rattle.std.proofs.Common.{◌≡◌, ◌∙◌, ap, arith, inl, inr, length, refl, subst, sym}
use Rattle.std.proofs.lemmas.Bool.Decides.{nat_tests}
use Rattle.mdf_log.specs.Tally.{IsNone}
use Rattle.mdf_log.specs.Tap.{tap_states}
use Rattle.mdf_log.proofs.Starting.{gone_none, ruled_first, taps_count, wide_for}
use Rattle.mdf_log.proofs.Whole.{runs, unbegun_runs}
use Rattle.mdf_log.proofs.log.log_plan.Goals as goal

pub returns-then-sources-from : goal.returns-then-sources-from
returns-then-sources-from g c =
    let k = c.unbegun.ensures in
    unbegun_runs _ _ _ _ _ _ _ _ _ _ _ _ k.end (record {
      plan = c.args.log.now.plan.now;
      says = refl;
      sources_is = refl;
      differs = λ same. grind (arith, nat_tests, c.if-sources-from.true, c.len-sources.ensures, c.from.ensures, same, taps_count g.S.Source g.K.Sink c.args.taps.items);
      none = refl;
      same = ap (λ taps. tap_states g.S.Source g.K.Sink taps.items) k.taps;
    }) (g.met.D.Disks.serves_none _) k.printed

pub returns-in_default : goal.returns-in_default
returns-in_default g c =
    let k = c.unbegun-in_default.ensures in
    let count : length c.args.taps.items ≡ c.args.log.now.plan.now.sources = grind (arith, nat_tests, c.if-sources-from.false, c.len-sources.ensures, c.from.ensures) in
    unbegun_runs _ _ _ _ _ _ _ _ _ _ _ _ k.end (record { comes = inr (refl, c.args.log.now.plan.now, refl, taps_count g.S.Source g.K.Sink c.args.taps.items ∙ count); none = refl; same = inl (ap (λ taps. tap_states g.S.Source g.K.Sink taps.items) k.taps) }) (g.met.D.Disks.serves_none _) k.printed

pub returns-in_default-room_for : goal.returns-in_default-room_for
returns-in_default-room_for g c =
    let k = c.unbegun-in_default-room_for.ensures in
    let count : length c.args.taps.items ≡ c.args.log.now.plan.now.sources = grind (arith, nat_tests, c.if-sources-from.false, c.len-sources.ensures, c.from.ensures) in
    unbegun_runs _ _ _ _ _ _ _ _ _ _ _ _ k.end (record { comes = inr (refl, c.args.log.now.plan.now, refl, taps_count g.S.Source g.K.Sink c.args.taps.items ∙ count); none = refl; same = inl (ap (λ taps. tap_states g.S.Source g.K.Sink taps.items) k.taps) }) (g.met.D.Disks.serves_none _) k.printed

pub returns-in_default-feeds_for : goal.returns-in_default-feeds_for
returns-in_default-feeds_for g c =
    let k = c.unbegun-in_default-feeds_for.ensures in
    let count : length c.args.taps.items ≡ c.args.log.now.plan.now.sources = grind (arith, nat_tests, c.if-sources-from.false, c.len-sources.ensures, c.from.ensures) in
    unbegun_runs _ _ _ _ _ _ _ _ _ _ _ _ k.end (record {
      comes = inr (refl, c.args.log.now.plan.now, refl, taps_count g.S.Source g.K.Sink c.args.taps.items ∙ count);
      none = refl;
      same = inr (refl, ap (λ taps. tap_states g.S.Source g.K.Sink taps.items) k.taps ∙ ap (tap_states g.S.Source g.K.Sink) c.in-Ok-room_for.ensures.empty.1);
    }) (g.met.D.Disks.serves_none _) k.printed

pub log_parts-course-requires-clause-sources : goal.log_parts-course-requires-clause-sources
log_parts-course-requires-clause-sources g c κs within = grind (arith, nat_tests, c.in-Ok-feeds_for.ensures.count, c.if-sources-from.false, c.len-sources.ensures, c.from.ensures)

pub log_parts-course-requires-clause-ruled : goal.log_parts-course-requires-clause-ruled
log_parts-course-requires-clause-ruled g c κs within =
    ruled_first g.K.Sink c.args.log.now.plan.now c.rules_of.result c.rules_of.ensures c.args.taps.items c.in-Ok-feeds_for.feeds.items c.in-Ok-feeds_for.ensures.fresh c.in-Ok-feeds_for.ensures.count

pub log_parts-course-requires-clause-begins : goal.log_parts-course-requires-clause-begins
log_parts-course-requires-clause-begins g c κs within =
    let count : c.len-sources.result ≡ length c.args.taps.items = omega (arith, c.len-sources.ensures, c.args.taps.ok.0) in
    gone_none g.K.Sink c.args.log.now.plan.now c.rules_of.result c.rules_of.ensures c.args.taps.items c.in-Ok-feeds_for.feeds.items c.in-Ok-feeds_for.ensures.fresh c.in-Ok-feeds_for.ensures.count
    _ _ _ (g.met.D.Disks.serves_none _) _ _ refl (subst (λ n. IsNone n c.in-Ok-room_for.room.tally) count c.in-Ok-room_for.ensures.tally) refl

pub finish-requires-clause-few : goal.finish-requires-clause-few
finish-requires-clause-few g c =
    grind (arith, nat_tests, c.log_parts-course.ensures.come.count, c.in-Ok-feeds_for.ensures.count, c.if-sources-from.false, c.len-sources.ensures, c.from.ensures, c.requires.plan.few_sources)

pub finish-requires-clause-room : goal.finish-requires-clause-room
finish-requires-clause-room g c =
    let wide = c.in-Ok-room_for.ensures.wide in
    let sources_is : c.len-sources.result ≡ length c.args.taps.items = omega (arith, c.len-sources.ensures, c.args.taps.ok.0) in
    let count = c.log_parts-course.ensures.come.count ∙ c.in-Ok-feeds_for.ensures.count ∙ sym sources_is in
    (wide_for _ _ _ count wide.0, wide_for _ _ _ count wide.1)

pub returns : goal.returns
returns g c =
    runs g.K.Sink c.args.log.now.plan.now c.args.log.now.output.now c.args.log.now.now_ns _ _ _ _ c.rules_of.result c.rules_of.ensures c.args.taps.items c.in-Ok-feeds_for.feeds.items
    c.in-Ok-feeds_for.ensures.fresh c.in-Ok-feeds_for.ensures.count (grind (arith, nat_tests, c.if-sources-from.false, c.len-sources.ensures, c.from.ensures))
    c.log_parts-course.result c.log_parts-course.ensures c.finish.result c.finish.ensures (λ problem. ⊥)
