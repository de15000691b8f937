use Rattle.std.proofs.Common.{◌+◌, ◌<◌, ◌≤◌, length, suc, sym, ◌∙◌, subst, arith, drop}
use Rattle.std.proofs.lemmas.List.{take_all}
use Rattle.std.specs.Io.KnownBytes.{Appends}
use Rattle.std.proofs.lemmas.Result.{err_from_is_err_and}
use Rattle.mdf_port.proofs.Streams.{appends_more, appends_none}
use Rattle.mdf_paged.specs.Groups.{shown_groups}
use Rattle.mdf_inspect.proofs.Groups.{shown_many}
use Rattle.mdf_inspect.specs.Info.{group_line}
use Rattle.mdf_command.specs.Texts.{numbered}
use Rattle.mdf_command.proofs.Pieces.{gives_behind, gives_failed, gives_same, numbered_more, numbered_around, first_of}
use Rattle.mdf_inspect.proofs.info.give_groups.Goals as goal

pub loop-group-init : goal.loop-group-init
loop-group-init g c = record { given = appends_none (g.K.Sink.held c.args.sink.now); later = omega arith }

pub returns-in_err-give_group : goal.returns-in_err-give_group
returns-in_err-give_group g c =
    let xs = shown_groups c.args.found.now in
    let same = shown_many c.args.found.now (sym c.groups-group-end.ensures.rows ∙ c.groups-group-end.ensures.groups) in
    let i = c.loop-group.group in
    let within : i < length xs = omega (arith, c.loop-group-test.true, c.groups-group-end.ensures.groups, same) in
    let d = first_of xs i within in
    let p = err_from_is_err_and c.from_residual.result c.from_residual.ensures.1 in
    let here = gives_failed _ (numbered group_line (0 + suc i) (drop (suc i) xs)) _ _ _ _ (c.in_err-give_group.ensures d) in
    rw (p.1) (gives_same _ _ _ _ _ (sym (numbered_around group_line xs i d within))
    (gives_behind _ _ _ _ _ _ c.loop-group.invariant.given c.loop-group.invariant.later here))

pub loop-group-preserved : goal.loop-group-preserved
loop-group-preserved g c =
    let xs = shown_groups c.args.found.now in
    let same = shown_many c.args.found.now (sym c.groups-group-end.ensures.rows ∙ c.groups-group-end.ensures.groups) in
    let i = c.loop-group.group in
    let within : i < length xs = omega (arith, c.loop-group-test.true, c.groups-group-end.ensures.groups, same) in
    let d = first_of xs i within in
    let ok = c.in_ok-give_group.ensures d in
    let gives = c.give_group.ensures d in record {
      given = subst (Appends _ _) (sym (numbered_more group_line xs i d within)) (appends_more _ _ _ _ _ c.loop-group.invariant.given ok.ok);
      later = omega (arith, c.loop-group.invariant.later, gives.cause.later);
    }

pub returns : goal.returns
returns g c =
    let xs = shown_groups c.args.found.now in
    let same = shown_many c.args.found.now (sym c.groups-group-end.ensures.rows ∙ c.groups-group-end.ensures.groups) in
    let past : length xs ≤ c.loop-group.group = omega (arith, c.loop-group-test.false, c.groups-group-end.ensures.groups, same) in record {
      ok = subst (λ ys. Appends (g.K.Sink.held c.args.sink.now) (g.K.Sink.held c.loop-group.sink) (numbered group_line 0 ys)) (take_all c.loop-group.group xs past) c.loop-group.invariant.given;
      err = tt;
      cause = record { later = c.loop-group.invariant.later; failed = tt };
    }
