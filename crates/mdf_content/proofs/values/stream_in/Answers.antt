use Rattle.std.proofs.Common.{ℕ, ◌∙◌, ap, rules}
use Rattle.std.proofs.lemmas.Result.{IfOk-weaker}
use Rattle.mdf_format.specs.Number.{bytes_at}
use Rattle.mdf_stream.specs.Parts.{stream_of}
use Rattle.mdf_content.proofs.Takes.{whole_stream}
use Rattle.mdf_block.proofs.Readers.{looks_of}
use Rattle.mdf_content.proofs.values.stream_in.Goals as goal

pub returns : goal.returns
returns g c = record {
  reads = looks_of (search rules) (let view = c.args.view.now in
      IfOk-weaker c.bytes_in.result _ _ (λ bytes is. λ f told.
      is f told
      ∙ ap (λ (n : ℕ). bytes_at n (stream_of f view) 0) c.len.ensures.size
      ∙ whole_stream (g.P.Span.bytes c.args.span.now) (g.P.Span.size c.args.span.now) f view (g.met.P.Span.whole c.args.span.now) told c.requires.inside)
      c.bytes_in.ensures.reads.seen);
}
