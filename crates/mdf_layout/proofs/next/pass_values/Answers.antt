use Rattle.std.proofs.Common.{◌<◌, ◌∙◌, ◌++◌, ◌+◌, ap, sym, refl, arith, ℕ, length, take, drop}
use Rattle.std.specs.Prelude.{if◌then◌else◌}
use Rattle.std.proofs.lemmas.List.{drop_all}
use Rattle.std.proofs.lemmas.Option.{get_or_from_slice_get}
use Rattle.mdf_layout.specs.Rule.{is_variable}
use Rattle.mdf_layout.specs.Record.{long_values}
use Rattle.mdf_layout.specs.Next.{added, value_sizes}
use Rattle.mdf_layout.proofs.Entered.{few_more}
use Rattle.mdf_layout.proofs.Longs.{long_values-drop, variables-drop}
use Rattle.mdf_layout.proofs.Nexts.{passed_more, small_more, small_at, all_passed}
use Rattle.mdf_layout.proofs.next.pass_values.Goals as goal

pub loop-channel-init : goal.loop-channel-init
loop-channel-init c = record {
  passed = refl;
  left = omega (arith, c.requires.offsets);
  few = omega arith;
  small = λ j over. small_at c.args.offsets.now c.requires.small j;
}

pub pass_value-requires-clause-there : goal.pass_value-requires-clause-there
pass_value-requires-clause-there c = λ variable.
    let rows = c.args.rows.now in
    let i = c.loop-channel.channel in
    let row = c.row_at-row.result in
    let ids = variables-drop rows i row c.loop-channel-test.true (sym (get_or_from_slice_get rows i row row c.row_at-row.ensures)) in
    omega (arith, ids, ap {B = ℕ} (λ b. if b then 1 else 0) variable, c.loop-channel.invariant.left)

pub loop-channel-preserved : goal.loop-channel-preserved
loop-channel-preserved c =
    let rows = c.args.rows.now in
    let entries = c.args.entries.now in
    let i = c.loop-channel.channel in
    let row = c.row_at-row.result in
    let entry = c.index-entries-channel.result in
    let row_is = sym (get_or_from_slice_get rows i row row c.row_at-row.ensures) in
    let inside : i < length entries = omega (arith, c.requires.count, c.loop-channel-test.true) in
    let ids = variables-drop rows i row c.loop-channel-test.true row_is in
    let values = long_values-drop rows entries i row entry c.loop-channel-test.true inside row_is c.index-entries-channel.is in
    let old = c.loop-channel.offsets in
    let new = c.pass_value.new.offsets in
    let stream = c.loop-channel.stream in
    let next = c.streams_with-stream.ensures in
    let rest = long_values (drop (i + 1) rows) (drop (i + 1) entries) in
    let passed = passed_more row entry _ old new stream rest
    (λ variable. omega (arith, ids, ap {B = ℕ} (λ b. if b then 1 else 0) variable, c.loop-channel.invariant.left))
    c.pass_value.ensures.passed c.pass_value.ensures.same
    (c.loop-channel.invariant.passed ∙ ap (λ vs. take stream old ++ added (drop stream old) (value_sizes vs)) values) in
    record {
      passed = passed ∙ ap (λ n. take n new ++ added (drop n new) (value_sizes rest)) (sym next);
      left = omega (arith, ids, c.loop-channel.invariant.left, next, c.pass_value.auto.offsets);
      few = omega (arith, next, few_more (is_variable row) stream i c.loop-channel.invariant.few);
      small = λ j over. small_more row _ old new stream c.pass_value.ensures.passed c.pass_value.ensures.same c.loop-channel.invariant.small j (omega (arith, next, over));
    }

pub returns : goal.returns
returns c =
    let rows = c.args.rows.now in
    let i = c.loop-channel.channel in
    all_passed _ c.loop-channel.offsets c.loop-channel.stream (drop i rows) (drop i c.args.entries.now) (drop_all i rows (omega (arith, c.loop-channel-test.false))) c.loop-channel.invariant.passed
