use Rattle.std.proofs.Common.{◌∙◌, ap, drop, length, length-drop, sym, arith}
use Rattle.std.proofs.lemmas.List.{length-take-le}
use Rattle.mdf_gate.specs.Gated.{Buffered}
use Rattle.mdf_gate.proofs.buffer.Block.len.Goals as goal

pub returns-clause-len : goal.returns-clause-len
returns-clause-len c =
    let block = c.self.inside in
    sym (length-take-le block.used (drop 79 block.bytes.items) (omega (arith, c.self.invariant, length-drop 79 block.bytes.items)))
    ∙ ap (λ (b : Buffered). length b.bytes) c.self.view_is
