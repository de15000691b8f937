use Rattle.std.proofs.Common.{subst, rules}
use Rattle.mdf_block.specs.Refusal.{Gives}
use Rattle.mdf_block.proofs.Readers.{says_of}
use Rattle.mdf_attach.specs.Listed.{list_refusal}
use Rattle.mdf_attach.specs.Shown.{entry_of}
use Rattle.mdf_attach.proofs.Made.{header_made_is}
use Rattle.mdf_attach.proofs.list.list_in.Goals as goal

pub returns : goal.returns
returns g c = record {
  reads = says_of (search rules) (λ f told.
      subst (Gives list_refusal c.header_made_in.result) (header_made_is entry_of f) (c.header_made_in.ensures.reads.found f told));
}
