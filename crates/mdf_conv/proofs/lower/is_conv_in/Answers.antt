use Rattle.std.proofs.Common.{rules}
use Rattle.std.proofs.lemmas.Slice.Eq.{bytes_eq-Decides}
use Rattle.mdf_format.specs.Number.{bytes_at}
use Rattle.mdf_format.specs.Block.{name_of}
use Rattle.mdf_format.specs.declared.kind.Kind.TheVariants.{Cc}
use Rattle.mdf_block.specs.Block.{is_named}
use Rattle.mdf_block.proofs.Names.{not_true}
use Rattle.mdf_block.proofs.Readers.{looks_of}
use Rattle.mdf_conv.proofs.lower.is_conv_in.Goals as goal

pub returns-in-None : goal.returns-in-None
returns-in-None g c = record {
  reads = looks_of (search rules) (λ f told.
      let none = rw c.in-None.is at (c.in_ok-kind.ensures.reads.seen f told) in
      not_true (is_named f c.args.at Cc) (λ yes. none Cc ((bytes_eq-Decides (bytes_at 4 f c.args.at) (name_of Cc)).0 yes)));
}
