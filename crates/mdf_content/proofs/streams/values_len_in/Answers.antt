use Rattle.std.proofs.Common.{◌-◌, ◌^◌, ◌<◌, ℕ, List, length, ◌∙◌, ap, arith, rules}
use Rattle.std.proofs.lemmas.List.{take_all}
use Rattle.std.specs.Prelude.{min, sum_by}
use Rattle.mdf_stream.specs.Parts.{stream_of, stream_size}
use Rattle.mdf_content.specs.Values.{value_size}
use Rattle.mdf_content.proofs.Behinds.{more_summed}
use Rattle.mdf_content.proofs.Rooms.{one_fits}
use Rattle.mdf_block.proofs.Readers.{looks_of}
use Rattle.mdf_content.proofs.streams.values_len_in.Goals as goal

pub value_len_in-requires-clause-room : goal.value_len_in-requires-clause-room
value_len_in-requires-clause-room g c =
    let below : c.loop-k.k < length c.args.places.now = omega (arith, c.loop-k-test.true, c.len.ensures) in
    one_fits 4 (stream_size c.args.view.now) c.args.places.now c.loop-k.k c.place_at.result below c.place_at.ensures c.requires.room

pub loop-k-preserved : goal.loop-k-preserved
loop-k-preserved g c =
    let loop = c.loop-k in
    let read = c.in_ok-len.ensures in
    let below : loop.k < length c.args.places.now = omega (arith, c.loop-k-test.true, c.len.ensures) in record {
      total = λ f told.
          let size = value_size (stream_of f c.args.view.now) (stream_size c.args.view.now) in
          more_summed size c.args.places.now (2 ^ 64 - 1) loop.k loop.total c.in_ok-len.len c.saturating_add-total.result below
          (read.reads.seen f (loop.invariant.same ∙ told) ∙ ap size c.place_at.ensures) c.saturating_add-total.ensures (loop.invariant.total f told);
      within = omega (arith, below);
      same = read.reads.same ∙ loop.invariant.same;
      size = read.reads.size ∙ loop.invariant.size;
      later = omega (arith, read.reads.cause.later, loop.invariant.later);
    }

pub returns : goal.returns
returns g c = record {
  reads = looks_of (search rules) (λ f told.
      let loop = c.loop-k in
      let size = value_size (stream_of f c.args.view.now) (stream_size c.args.view.now) in
      loop.invariant.total f told
      ∙ ap (λ (all : List ℕ). min (sum_by size all) (2 ^ 64 - 1)) (take_all loop.k c.args.places.now (omega (arith, c.loop-k-test.false, c.len.ensures))));
}
