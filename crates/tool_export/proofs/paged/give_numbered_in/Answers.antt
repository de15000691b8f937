use Rattle.std.proofs.Common.{◌≡◌, ◌<◌, ◌∙◌, ℕ, Ok, Err, subst, sym}
use Rattle.mdf_num.specs.declared.halt.Halt.{Halt}
use Rattle.mdf_port.specs.State.{sink_state}
use Rattle.mdf_block.proofs.Items.{item_of}
use Rattle.mdf_model.proofs.Wholes.{measurement_found}
use Rattle.mdf_model.specs.Kept.{found_for}
use Rattle.mdf_paged.proofs.Asked.{asked_many, asked_measured}
use Rattle.tool_export.specs.declared.fault.ExportFault.{ExportFault}
use Rattle.tool_export.specs.Export.{ExportHalts, NamesNone, halt_of_table}
use Rattle.tool_export.proofs.Ends.{given_ends, halted_ends, none_ends}
use Rattle.tool_export.proofs.Spans.{count_given}
use Rattle.tool_export.proofs.paged.give_numbered_in.Goals as goal

pub returns-in-Err-clause-ends : goal.returns-in-Err-clause-ends
returns-in-Err-clause-ends g c = λ f told read.
    let now = c.args.found.now in
    let found = asked_measured f c.args.said now read in
    none_ends f found.0 found.1 c.args.said _ _
    (subst (λ (n : ℕ). NamesNone c.args.said n c.in-Err.fault) (c.groups.ensures.groups ∙ asked_many f c.args.said now found.0 read found.1) c.in-Err.ensures.none)

pub returns-in-Ok-give_group_in-clause-ends : goal.returns-in-Ok-give_group_in-clause-ends
returns-in-Ok-give_group_in-clause-ends g c = λ f told read.
    let now = c.args.found.now in
    let found = asked_measured f c.args.said now read in
    let m = found.0 in
    let group = c.in-Ok.group in
    let there = c.in-Ok.ensures.there in
    let asked : found_for group f ≡ Ok now = subst (λ (n : ℕ). found_for n f ≡ Ok now) (sym there.0) read in
    let placed = subst (λ (n : ℕ). group < n) c.groups.ensures.groups there.1 in
    let below = subst (λ (n : ℕ). group < n) (c.groups.ensures.groups ∙ asked_many f c.args.said now m read found.1) there.1 in
    let d = item_of m.groups group below in
    rw (← there.0) (given_ends f m found.1 (measurement_found f m found.1) group below _ _ _
    (count_given f group now m asked found.1 c.samples.result d placed c.samples.ensures.count)
    (c.in-Ok-give_group_in.ensures.text f m d told asked found.1))

pub returns-in-Err-give_group_in-clause-ends : goal.returns-in-Err-give_group_in-clause-ends
returns-in-Err-give_group_in-clause-ends g c = λ f told read.
    let now = c.args.found.now in
    let found = asked_measured f c.args.said now read in
    let m = found.0 in
    let group = c.in-Ok.group in
    let there = c.in-Ok.ensures.there in
    let asked : found_for group f ≡ Ok now = subst (λ (n : ℕ). found_for n f ≡ Ok now) (sym there.0) read in
    let below = subst (λ (n : ℕ). group < n) (c.groups.ensures.groups ∙ asked_many f c.args.said now m read found.1) there.1 in
    let old = sink_state g.K.Sink c.args.sink.now in
    let new = sink_state g.K.Sink c.give_group_in.new.sink in
    let halt = c.in-Err-give_group_in.halt in
    subst (λ (end : Halt ExportFault). ExportHalts f c.args.said old new (Err end)) (sym c.halt_of_table.ensures)
    (subst (λ (said : ℕ). ExportHalts f said old new (Err (halt_of_table halt))) there.0
    (halted_ends f m found.1 (measurement_found f m found.1) group below old new halt
    (c.in-Err-give_group_in.ensures.text f m (item_of m.groups group below) told asked found.1) c.in-Err-give_group_in.ensures.sink))
