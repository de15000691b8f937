use Rattle.std.proofs.Common.{rules}
use Rattle.mdf_format.specs.declared.kind.Kind.TheVariants.{Hd}
use Rattle.mdf_block.proofs.Wholes.{block_found}
use Rattle.mdf_attach.proofs.read.list_of.Goals as goal

pub returns-in-Err-Memory-clause-first : goal.returns-in-Err-Memory-clause-first
returns-in-Err-Memory-clause-first c =
    let there = rw c.in-Err-Memory.field-0-is at (c.in-Err-Memory.ensures.first c.args.bytes.now (search rules)) in
    λ _. (block_found c.args.bytes.now 64 Hd there.0 there.1).0
