use Rattle.std.proofs.Common.{◌≡◌, ◌-◌, length, ◌∙◌, arith}
use borrow.Rule.Slice.PartMut.{put_mid}
use Rattle.mdf_stream.specs.Parts.{stream_of}
use Rattle.mdf_stream.specs.Stretch.{parts_of}
use Rattle.mdf_stream.proofs.Joins.{told_inside, joined_ends, length-stream, filled_more, length-put}
use Rattle.mdf_stream.proofs.stretch.fill_parts.Goals as goal

pub loop-done-preserved : goal.loop-done-preserved
loop-done-preserved g c =
    let loop = c.loop-done in
    let long : length (put_mid loop.done (length loop.buf - loop.done) loop.buf c.front_in.new.buf) ≡ length loop.buf =
    length-put loop.buf c.front_in.new.buf loop.done c.front_in.auto.buf in
    record {
      within = omega (arith, long, c.in_ok-done.ensures.most);
      filled = λ f told.
          let inside = told_inside _ _ f (parts_of c.args.items.now) (g.met.P.Span.whole c.args.span.now) told c.requires.inside in
          let size = length-stream f (parts_of c.args.items.now) inside in
          let ends = joined_ends c.args.items.now c.args.end c.requires.joined in
          filled_more (stream_of f (parts_of c.args.items.now)) loop.buf c.front_in.new.buf c.args.buf.now c.args.at loop.done c.in_ok-done.field-0
          (omega arith) loop.auto.buf (loop.invariant.filled f told) (c.in_ok-done.ensures.reads.seen f (loop.invariant.same ∙ told))
          (omega (arith, size, ends));
      same = c.in_ok-done.ensures.reads.same ∙ loop.invariant.same;
      size = c.in_ok-done.ensures.reads.size ∙ loop.invariant.size;
      later = omega (arith, c.in_ok-done.ensures.reads.cause.later);
    }
