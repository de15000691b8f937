use Rattle.std.proofs.Common.{◌<◌, length, take, sym, ◌∙◌, ap, arith, rules}
use Rattle.std.proofs.lemmas.List.{take_all}
use Rattle.std.specs.List.{flat_map}
use Rattle.mdf_stream.specs.Parts.{stream_size}
use Rattle.mdf_stream.proofs.Joins.{told_inside}
use Rattle.mdf_content.specs.Values.{value_there}
use Rattle.mdf_content.proofs.Behinds.{more_there, values_stream}
use Rattle.mdf_content.proofs.Rooms.{one_fits}
use Rattle.mdf_block.proofs.Readers.{looks_of}
use Rattle.mdf_content.proofs.streams.put_values.Goals as goal

pub put_value-requires-clause-room : goal.put_value-requires-clause-room
put_value-requires-clause-room g c =
    let below : c.loop-k.k < length c.args.places.now = omega (arith, c.loop-k-test.true, c.len.ensures) in
    one_fits 4 (stream_size c.args.view.now) c.args.places.now c.loop-k.k c.place_at-place.result below c.place_at-place.ensures c.requires.room

pub loop-k-preserved : goal.loop-k-preserved
loop-k-preserved g c =
    let loop = c.loop-k in
    let read = c.in_ok-done.ensures in
    let below : loop.k < length c.args.places.now = omega (arith, c.loop-k-test.true, c.len.ensures) in record {
      put = λ f told.
          let there = value_there f c.args.view.now in
          more_there there c.args.places.now (take loop.done loop.bytes) (take c.in_ok-done.done c.put_value.new.bytes)
          (there c.place_at-place.result) loop.k below (ap there c.place_at-place.ensures) (read.reads.seen f (loop.invariant.same ∙ told))
          (loop.invariant.put f told);
      within = omega (arith, below);
      done = read.within;
      same = read.reads.same ∙ loop.invariant.same;
      told = read.reads.size ∙ loop.invariant.told;
      later = omega (arith, read.reads.cause.later, loop.invariant.later);
    }

pub returns : goal.returns
returns g c = record {
  reads = looks_of (search rules) (λ f told.
      let loop = c.loop-k in
      let view = c.args.view.now in
      let places = c.args.places.now in
      sym (take_all loop.done loop.bytes (omega (arith, c.if-done-bytes.false)))
      ∙ loop.invariant.put f told
      ∙ ap (flat_map (value_there f view)) (take_all loop.k places (omega (arith, c.loop-k-test.false, c.len.ensures)))
      ∙ values_stream f view places (told_inside _ _ f view (g.met.P.Span.whole c.args.span.now) told c.requires.inside));
}
