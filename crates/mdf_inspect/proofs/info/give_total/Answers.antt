use Rattle.std.proofs.Common.{sym, ◌∙◌}
use Rattle.mdf_inspect.proofs.Groups.{shown_many}
use Rattle.mdf_inspect.proofs.info.give_total.Goals as goal

pub returns : goal.returns
returns g c =
    let many = sym c.groups.ensures.rows ∙ c.groups.ensures.groups in
    rw (c.from.ensures, c.groups.ensures.groups ∙ sym (shown_many c.args.found.now many), c.total.ensures, c.dropped.ensures.dropped) at c.give_line.ensures
