use Rattle.std.proofs.Common.{rules}
use Rattle.std.proofs.lemmas.Result.{on_ok_weaker}
use Rattle.mdf_stream.specs.Parts.{stream_of}
use Rattle.mdf_content.proofs.Behinds.{read_into}
use Rattle.mdf_block.proofs.Readers.{looks_of}
use Rattle.mdf_content.proofs.contents.put_record.Goals as goal

pub returns : goal.returns
returns g c = record {
  reads = looks_of (search rules) (on_ok_weaker c.read_near.result (λ filled. λ f told.
      read_into c.args.content.now c.read_near.new.buf (stream_of f c.args.view.now) c.args.start c.args.size c.args.place
      c.requires.fits c.read_near.auto.buf (filled f told)) c.read_near.ensures.reads.seen);
}
