use Rattle.std.proofs.Common.{arith, sym}
use Rattle.std.proofs.lemmas.Bool.{eq-eqb}
use Rattle.std.proofs.lemmas.List.Sums.{position_or_len_is}
use Rattle.mdf_block.specs.Text.{is_zero}
use Rattle.mdf_block.proofs.text.zero_of.Goals as goal

pub returns-then-byte-eq0-clause-place : goal.returns-then-byte-eq0-clause-place
returns-then-byte-eq0-clause-place c =
    sym (position_or_len_is is_zero c.args.bytes.now c.loop-i.i 0 (omega arith) c.loop-i.invariant
    (λ below. eq-eqb _ 0 c.if-byte-eq0.true))

pub returns-clause-place : goal.returns-clause-place
returns-clause-place c =
    sym (position_or_len_is is_zero c.args.bytes.now _ 0 (omega arith) (λ k below. c.loop-i.invariant k (omega arith))
    (λ below. absurd (omega arith)))
