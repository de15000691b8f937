use Rattle.std.proofs.Common.{◌≡◌, ◌∙◌, get_or, ap}
use Rattle.mdf_port.specs.State.{sink_state}
use Rattle.tool_export.specs.Export.{GivesText}
use Rattle.tool_export.specs.Table.{count_in, sample_in, table_text}
use Rattle.tool_export.proofs.Ends.{same_table}
use Rattle.tool_export.proofs.table.give_group.Goals as goal

pub returns-clause-text : goal.returns-clause-text
returns-clause-text g c = λ d.
    let found = c.args.found.now in
    let channels : c.as_slice-channels.result.now ≡ (get_or found.groups c.args.group d).part.row.channels =
    c.as_slice-channels.ensures ∙ ap (λ part. part.row.channels) (c.part.ensures d) in
    let here : GivesText (table_text (get_or found.groups c.args.group d).part.row.channels (sample_in found c.args.group) (count_in found c.args.group))
    (sink_state g.K.Sink c.args.sink.now) (sink_state g.K.Sink c.give_table.new.sink) c.give_table.result =
    rw (← channels, ← c.new-list.ensures.found, ← c.new-list.ensures.group) (c.give_table.ensures.text _ c.new-none.ensures.bytes tt) in
    rw (← same_table found c.args.group d c.requires) here
