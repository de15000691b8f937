use Rattle.std.proofs.Common.{refl}
use Rattle.script_line.specs.Text.{words_left}
use Rattle.script_line.proofs.Fronts.{begins_entry}
use Rattle.script_line.proofs.first.unsigned_entry.Goals as goal

pub returns : goal.returns
returns c =
    let found = c.in_ok-found.found in
    rw (c.valid_entry.ensures.entry, c.valid_entry.ensures.behind) (
    begins_entry c.args.row c.args.text.now found.number (words_left found.behind) c.requires (c.if-not-has_bits.ensures.0 refl) c.in_ok-found.ensures
    )
