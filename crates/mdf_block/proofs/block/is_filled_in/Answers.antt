use Rattle.std.proofs.Common.{◌≤◌, ℕ, List, [], ◌∙◌, ap, arith, rules}
use Rattle.mdf_format.specs.Number.{le_number, bytes_at}
use Rattle.mdf_format.specs.Block.{least_body}
use Rattle.mdf_format.specs.declared.kind.Kind.{Kind}
use Rattle.mdf_block.proofs.Parts.{values_fit}
use Rattle.mdf_block.proofs.Readers.{looks_of}
use Rattle.mdf_block.proofs.block.is_filled_in.Goals as goal

pub returns-in_ok-body_in-in-Cc-clause-reads : goal.returns-in_ok-body_in-in-Cc-clause-reads
returns-in_ok-body_in-in-Cc-clause-reads g c = looks_of (search rules) (λ f told is.
    let block = c.args.block.now in
    let known = c.least_body.ensures ∙ ap (λ (kind : Kind). least_body kind []) c.in-Cc.is in
    let least : 24 ≤ block.body_len = omega (arith, known) in
    let front = c.in_ok-body_in-in-Cc.ensures.reads.seen f told in
    rw c.in-Cc.is (
    values_fit f block.at _ block.body_len block.body_at (ap (λ b. b.body_len) is) (ap (λ b. b.body_at) is) least
    (c.u16_field-values.ensures ∙ ap (λ (bytes : List ℕ). le_number (bytes_at 2 bytes 6)) front)
    ))
