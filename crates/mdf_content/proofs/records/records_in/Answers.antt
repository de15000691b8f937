use Rattle.std.proofs.Common.{subst, rules}
use Rattle.mdf_block.specs.Refusal.{Gives}
use Rattle.mdf_stream.specs.Parts.{stream_of, stream_size}
use Rattle.mdf_content.specs.Fault.{read_refusal}
use Rattle.mdf_content.proofs.Kepts.{every_place}
use Rattle.mdf_block.proofs.Readers.{says_of}
use Rattle.mdf_content.proofs.records.records_in.Goals as goal

pub returns-clause-reads : goal.returns-clause-reads
returns-clause-reads g c = says_of (search rules) (λ f told.
    let view = c.args.view.now in
    subst (Gives read_refusal c.kept_records_in.result) (every_place (stream_of f view) (stream_size view) c.args.believed c.args.row.now)
    (c.kept_records_in.ensures.reads.found f told))
