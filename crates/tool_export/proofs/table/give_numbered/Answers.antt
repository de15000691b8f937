use Rattle.std.proofs.Common.{◌<◌, ℕ, Err, subst}
use Rattle.std.proofs.lemmas.Result.{err_from_is_err_and}
use Rattle.mdf_port.specs.State.{sink_state}
use Rattle.mdf_block.proofs.Items.{item_of}
use Rattle.tool_export.specs.Export.{ExportEnds, NamesNone, fault_of_halt}
use Rattle.tool_export.proofs.Ends.{given_ends, none_ends, stopped_ends}
use Rattle.tool_export.proofs.table.give_numbered.Goals as goal

pub returns-in_err-group-clause-ends : goal.returns-in_err-group-clause-ends
returns-in_err-group-clause-ends g c = λ file read is.
    let p = err_from_is_err_and c.from_residual.result c.from_residual.ensures.1 in
    rw (p.1, p.2) (none_ends file _ read c.args.said _ _ (subst (λ (n : ℕ). NamesNone c.args.said n c.in_err-group.field-0.0) c.groups.ensures c.in_err-group.ensures.none))

pub returns-in_err-give_group-clause-ends : goal.returns-in_err-give_group-clause-ends
returns-in_err-give_group-clause-ends g c = λ file read is.
    let found = c.args.found.now in
    let group = c.in_ok-group.group in
    let there = c.in_ok-group.ensures.there in
    let below = subst (λ (n : ℕ). group < n) c.groups.ensures there.1 in
    let p = err_from_is_err_and c.from_residual-in_err-give_group.result c.from_residual-in_err-give_group.ensures.1 in
    rw (p.1, p.2) (subst (λ (said : ℕ). ExportEnds file said (sink_state g.K.Sink c.args.sink.now) (sink_state g.K.Sink c.give_group.new.sink)
    (Err (fault_of_halt c.in_err-give_group.field-0.0))) there.0
    (stopped_ends file found read is group below _ _ _ (c.in_err-give_group.ensures.text (item_of found.groups group below))
    c.in_err-give_group.ensures.sink c.in_err-give_group.ensures.cause))

pub returns-clause-ends : goal.returns-clause-ends
returns-clause-ends g c = λ file read is.
    let found = c.args.found.now in
    let group = c.in_ok-group.group in
    let there = c.in_ok-group.ensures.there in
    let below = subst (λ (n : ℕ). group < n) c.groups.ensures there.1 in
    let d = item_of found.groups group below in
    rw (← there.0) (given_ends file found read is group below _ _ _ (c.samples.ensures d) (c.in_ok-give_group.ensures.text d))
