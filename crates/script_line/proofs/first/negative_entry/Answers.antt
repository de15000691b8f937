use Rattle.std.proofs.Common.{arith, sym}
use Rattle.script_line.specs.Text.{words_left}
use Rattle.script_line.proofs.Fronts.{begins_negative}
use Rattle.script_line.proofs.first.negative_entry.Goals as goal

pub returns : goal.returns
returns c =
    let found = c.in_ok-found.found in
    rw (c.valid_entry.ensures.entry, c.valid_entry.ensures.behind) (
    begins_negative c.args.row c.args.text.now found.number c.in_ok-value.value (words_left found.behind) c.requires.kind (omega arith) (sym c.in_ok-value.ensures) c.in_ok-found.ensures
    )
