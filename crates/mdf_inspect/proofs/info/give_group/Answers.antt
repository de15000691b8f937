use Rattle.std.proofs.Common.{ℕ, sym, subst}
use Rattle.mdf_group.specs.declared.row.GroupRow.{GroupRow}
use Rattle.mdf_port.specs.State.{sink_state}
use Rattle.mdf_paged.specs.Groups.{groups_of}
use Rattle.mdf_command.specs.Texts.{Gives}
use Rattle.mdf_command.proofs.Pieces.{first_of}
use Rattle.mdf_inspect.specs.Info.{group_line}
use Rattle.mdf_inspect.proofs.Groups.{group_shown_at}
use Rattle.mdf_inspect.proofs.info.give_group.Goals as goal

pub returns : goal.returns
returns g c = λ d.
    let all = c.args.found.now in
    let e = first_of (groups_of all) c.args.group c.requires in
    subst (λ (one : GroupRow × ℕ). Gives (group_line c.args.group one) (sink_state g.K.Sink c.args.sink.now) (sink_state g.K.Sink c.give_line.new.sink) c.give_line.result)
    (sym (group_shown_at all c.args.group c.row-row.result.now d e c.row-row.ensures.row c.requires))
    (rw (c.name_text.ensures, c.from.ensures, c.len.ensures, c.samples.ensures.count e) at c.give_line.ensures)
