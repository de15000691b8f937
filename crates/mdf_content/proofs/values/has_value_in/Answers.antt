use Rattle.std.proofs.Common.{◌∙◌, sym, arith, rules}
use Rattle.mdf_stream.specs.Parts.{stream_of, stream_size}
use Rattle.mdf_content.proofs.Takes.{told_long}
use Rattle.mdf_content.proofs.Tested.{value_short, value_tested}
use Rattle.mdf_block.proofs.Readers.{looks_of}
use Rattle.mdf_content.proofs.values.has_value_in.Goals as goal

pub returns-in_default : goal.returns-in_default
returns-in_default g c = record {
  reads = looks_of (search rules) (λ f told.
      let values = c.args.values.now in
      let long = told_long (g.P.Span.bytes c.args.span.now) (g.P.Span.size c.args.span.now) f values (g.met.P.Span.whole c.args.span.now) told c.requires.inside in
      value_short (stream_of f values) c.args.offset (stream_size values) long (omega (arith, c.len-total.ensures.size, c.len-total.ensures.small, c.in_default.ensures)));
}

pub returns-then-place-total : goal.returns-then-place-total
returns-then-place-total g c = record {
  reads = looks_of (search rules) (λ f told.
      let values = c.args.values.now in
      let long = told_long (g.P.Span.bytes c.args.span.now) (g.P.Span.size c.args.span.now) f values (g.met.P.Span.whole c.args.span.now) told c.requires.inside in
      value_short (stream_of f values) c.args.offset (stream_size values) long (omega (arith, c.len-total.ensures.size, c.in-Some.ensures.1, c.if-place-total.true)));
}

pub returns : goal.returns
returns g c = record {
  reads = looks_of (search rules) (λ f told.
      let values = c.args.values.now in
      let long = told_long (g.P.Span.bytes c.args.span.now) (g.P.Span.size c.args.span.now) f values (g.met.P.Span.whole c.args.span.now) told c.requires.inside in
      value_tested (stream_of f values) c.args.offset c.len-total.result (long ∙ sym c.len-total.ensures.size) c.in-Some.place c.in_ok-size.size c.in-Some.ensures.1
      (omega (arith, c.if-place-total.false)) (c.in_ok-size.ensures.reads.seen f told));
}
