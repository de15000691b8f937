use Rattle.std.proofs.Common.{◌<◌, ℕ, length, ◌∙◌, ap, subst, sym, arith, rules}
use Rattle.std.proofs.lemmas.List.{take_all}
use Rattle.mdf_stream.specs.Parts.{ArePartsInside, stream_of, stream_size}
use Rattle.mdf_stream.specs.Range.{parts_between}
use Rattle.mdf_content.specs.Values.{value_size, values_at}
use Rattle.mdf_content.proofs.Behinds.{more_there}
use Rattle.mdf_content.proofs.Rooms.{one_fits}
use Rattle.mdf_block.proofs.Readers.{looks_of}
use Rattle.mdf_content.proofs.values.values_in.Goals as goal

pub add_value-requires-clause-room : goal.add_value-requires-clause-room
add_value-requires-clause-room g c =
    let below : c.loop-k.k < length c.args.places.now = omega (arith, c.loop-k-test.true, c.len.ensures) in
    one_fits 4 (stream_size c.args.view.now) c.args.places.now c.loop-k.k c.place_at.result below c.place_at.ensures c.requires.room

pub loop-k-preserved : goal.loop-k-preserved
loop-k-preserved g c =
    let loop = c.loop-k in
    let read = c.in_ok-add_value.ensures in
    let view = c.args.view.now in
    let below : loop.k < length c.args.places.now = omega (arith, c.loop-k-test.true, c.len.ensures) in record {
      values = λ f told.
          let there = λ (place : ℕ). parts_between view place (value_size (stream_of f view) (stream_size view) place) in
          more_there there c.args.places.now loop.values c.add_value.new.values (there c.place_at.result) loop.k below
          (ap there c.place_at.ensures) (read.reads.seen f (loop.invariant.same ∙ told)) (loop.invariant.values f told);
      inside = subst (λ (n : ℕ). ArePartsInside n c.add_value.new.values) loop.invariant.size
          (read.lies (subst (λ (n : ℕ). ArePartsInside n loop.values) (sym loop.invariant.size) loop.invariant.inside));
      within = omega (arith, below);
      same = read.reads.same ∙ loop.invariant.same;
      size = read.reads.size ∙ loop.invariant.size;
      later = omega (arith, read.reads.cause.later, loop.invariant.later);
    }

pub returns-clause-reads : goal.returns-clause-reads
returns-clause-reads g c = looks_of (search rules) (λ f told.
    let loop = c.loop-k in
    let places = c.args.places.now in
    loop.invariant.values f told
    ∙ ap (values_at f c.args.view.now) (take_all loop.k places (omega (arith, c.loop-k-test.false, c.len.ensures))))
