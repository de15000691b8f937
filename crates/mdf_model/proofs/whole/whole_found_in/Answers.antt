use Rattle.std.proofs.Common.{subst, rules}
use Rattle.mdf_block.specs.Refusal.{Gives}
use Rattle.mdf_content.specs.Fault.{read_refusal}
use Rattle.mdf_model.proofs.Kepts.{every_whole}
use Rattle.mdf_block.proofs.Readers.{says_of}
use Rattle.mdf_model.proofs.whole.whole_found_in.Goals as goal

pub returns-clause-reads : goal.returns-clause-reads
returns-clause-reads g c = says_of (search rules) (λ f told.
    subst (Gives read_refusal c.whole_kept_in.result) (every_whole f) (c.whole_kept_in.ensures.reads.found f told))
