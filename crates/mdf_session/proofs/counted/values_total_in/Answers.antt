use Rattle.std.proofs.Common.{◌≡◌, ◌+◌, ◌<◌, ◌≤◌, ℕ, length, ◌∙◌, ap, arith, rules}
use Rattle.mdf_format.specs.Number.{le_number, bytes_at}
use Rattle.mdf_stream.specs.Parts.{stream_of, stream_size}
use Rattle.mdf_content.proofs.Rooms.{one_fits}
use Rattle.mdf_session.proofs.Counts.{values_more, values_done}
use Rattle.mdf_block.proofs.Readers.{looks_of}
use Rattle.mdf_session.proofs.counted.values_total_in.Goals as goal

pub u32_near-requires-clause-within : goal.u32_near-requires-clause-within
u32_near-requires-clause-within g c =
    let below : c.loop-row.row < length c.args.places.now = omega (arith, c.loop-row-test.true, c.len-row-end.ensures) in
    one_fits 4 (stream_size c.args.view.now) c.args.places.now c.loop-row.row c.place_at.result below c.place_at.ensures c.requires.room

pub loop-row-preserved : goal.loop-row-preserved
loop-row-preserved g c =
    let loop = c.loop-row in
    let read = c.in_ok-len.ensures in
    let below : loop.row < length c.args.places.now = omega (arith, c.loop-row-test.true, c.len-row-end.ensures) in
    let summed : c.in-Some.sum ≡ loop.total + c.in_ok-len.field-0 = omega (arith, c.in-Some.ensures.1) in record {
      total = λ f told.
          let stream = stream_of f c.args.view.now in
          values_more stream c.args.places.now loop.row loop.total c.in_ok-len.field-0 c.in-Some.sum below
          (read.reads.seen f (loop.invariant.same ∙ told) ∙ ap (λ (place : ℕ). le_number (bytes_at 4 stream place)) c.place_at.ensures) summed
          (loop.invariant.total f told);
      same = read.reads.same ∙ loop.invariant.same;
      size = read.reads.size ∙ loop.invariant.size;
      later = omega (arith, read.reads.cause.later, loop.invariant.later);
    }

pub returns : goal.returns
returns g c = record {
  reads = looks_of (search rules) (λ f told.
      let past : length c.args.places.now ≤ c.loop-row.row = omega (arith, c.loop-row-test.false, c.len-row-end.ensures) in
      values_done (stream_of f c.args.view.now) c.args.places.now c.loop-row.row c.loop-row.total past (c.loop-row.invariant.total f told));
}
