use Rattle.std.proofs.Common.{◌≡◌, ◌∙◌, Ok, ap, get_or, subst}
use Rattle.mdf_block.specs.Refusal.{Read}
use Rattle.mdf_port.specs.State.{sink_state}
use Rattle.mdf_model.specs.Kept.{found_for}
use Rattle.mdf_model.specs.Measurement.{Measured, measurement}
use Rattle.mdf_paged.proofs.Asked.{asked_row}
use Rattle.tool_export.specs.Export.{GivesText}
use Rattle.tool_export.specs.Table.{count_in, sample_read, table_text}
use Rattle.tool_export.proofs.Ends.{same_table}
use Rattle.tool_export.proofs.Spans.{count_is, group_below}
use Rattle.tool_export.proofs.paged.give_group_in.Goals as goal

pub returns-clause-text : goal.returns-clause-text
returns-clause-text g c = λ f m d told read measured.
    let now = c.args.found.now in
    let group = c.args.group in
    let old = sink_state g.K.Sink c.args.sink.now in
    let new = sink_state g.K.Sink c.give_table.new.sink in
    let row = asked_row f group now m read measured group d c.row.result.now c.row.ensures.row in
    let channels : c.as_slice-channels.result.now ≡ (get_or m.groups group d).part.row.channels =
    c.as_slice-channels.ensures ∙ ap (λ row. row.channels) row in
    let are : found_for c.new-list.result.group f ≡ Ok c.new-list.result.found.now = rw (c.new-list.ensures.found, c.new-list.ensures.group) read in
    let here : GivesText (table_text (get_or m.groups group d).part.row.channels (sample_read (measurement f) group) (count_in m group))
    old new c.give_table.result =
    rw (← channels, ← count_is f group now m read measured, ← c.new-list.ensures.found, ← c.new-list.ensures.group) (c.give_table.ensures.text f told are) in
    let of_file : GivesText (table_text (get_or m.groups group d).part.row.channels (sample_read (Ok m) group) (count_in m group)) old new c.give_table.result =
    subst (λ (found : Read Measured). GivesText (table_text (get_or m.groups group d).part.row.channels (sample_read found group) (count_in m group)) old new c.give_table.result)
    measured here in
    rw (← same_table m group d (group_below f group now m read measured c.requires.group)) of_file
