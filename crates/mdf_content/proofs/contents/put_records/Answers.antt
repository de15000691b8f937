use Rattle.std.proofs.Common.{◌+◌, ◌<◌, length, take, ◌∙◌, ap, arith}
use Rattle.std.proofs.lemmas.Grind.{common_steps}
use Rattle.mdf_format.specs.Number.{bytes_at}
use Rattle.mdf_stream.specs.Parts.{stream_of, stream_size}
use Rattle.mdf_content.proofs.Behinds.{more_there}
use Rattle.mdf_content.proofs.Rooms.{one_fits}
use Rattle.mdf_content.proofs.contents.put_records.Goals as goal

pub put_record-requires-clause-room : goal.put_record-requires-clause-room
put_record-requires-clause-room g c =
    let below : c.loop-row.row < length c.args.places.now = omega (arith, c.loop-row-test.true, c.requires.few) in
    one_fits c.args.size (stream_size c.args.view.now) c.args.places.now c.loop-row.row c.place_at-place.result below c.place_at-place.ensures c.requires.room

pub loop-row-preserved : goal.loop-row-preserved
loop-row-preserved g c =
    let loop = c.loop-row in
    let read = c.in_ok-put_record.ensures in
    let below : loop.row < length c.args.places.now = omega (arith, c.loop-row-test.true, c.requires.few) in record {
      put = λ f told.
          let there = bytes_at c.args.size (stream_of f c.args.view.now) in
          more_there there c.args.places.now (take loop.done loop.content) (take (loop.done + c.args.size) c.put_record.new.content)
          (there c.place_at-place.result) loop.row below (ap there c.place_at-place.ensures) (read.reads.seen f (loop.invariant.same ∙ told))
          (loop.invariant.put f told);
      within = omega (arith, c.loop-row-test.true);
      done = grind (arith, common_steps);
      same = read.reads.same ∙ loop.invariant.same;
      told = read.reads.size ∙ loop.invariant.told;
      later = omega (arith, read.reads.cause.later, loop.invariant.later);
    }
