use Rattle.std.proofs.Common.{◌+◌, ◌∙◌, ap, ℕ, arith, rules}
use Rattle.std.specs.Prelude.{slice_index_or}
use Rattle.mdf_stream.specs.Parts.{stream_of, stream_size}
use Rattle.mdf_session.proofs.Counts.{totals_more, totals_done, room_for}
use Rattle.mdf_block.proofs.Readers.{looks_of}
use Rattle.mdf_session.proofs.counted.totals_in.Goals as goal

pub add_total-requires-clause-room : goal.add_total-requires-clause-room
add_total-requires-clause-room g c =
    let one = c.index-groups-k in
    room_for c.args.lists.now c.args.groups.now (stream_size c.args.view.now) c.loop-k.k one.result c.places_or-places.result.now c.requires.room
    c.loop-k-test.true one.is (c.places_or-places.ensures ∙ ap (slice_index_or c.args.lists.now c.loop-k.k) c.empty-none.ensures)

pub loop-k-preserved : goal.loop-k-preserved
loop-k-preserved g c =
    let loop = c.loop-k in
    let one = c.index-groups-k in
    let added = c.in_ok-add_total.ensures in record {
      totals = λ f told. totals_more c.args.lists.now c.args.groups.now (stream_of f c.args.view.now) loop.totals _ loop.k one.result
          c.places_or-places.result.now c.loop-k-test.true one.is
          (c.places_or-places.ensures ∙ ap (slice_index_or c.args.lists.now loop.k) c.empty-none.ensures)
          (added.reads.seen f (loop.invariant.same ∙ told)) (loop.invariant.totals f told);
      count = added.longer ∙ ap (λ (n : ℕ). n + 1) loop.invariant.count;
      within = omega (arith, c.loop-k-test.true);
      same = added.reads.same ∙ loop.invariant.same;
      size = added.reads.size ∙ loop.invariant.size;
      later = omega (arith, added.reads.cause.later, loop.invariant.later);
    }

pub returns-clause-reads : goal.returns-clause-reads
returns-clause-reads g c = looks_of (search rules) (λ f told.
    let loop = c.loop-k in
    totals_done c.args.lists.now c.args.groups.now (stream_of f c.args.view.now) loop.totals loop.k c.loop-k-test.false (loop.invariant.totals f told))
