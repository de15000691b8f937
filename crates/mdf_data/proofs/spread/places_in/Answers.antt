use Rattle.std.proofs.Common.{◌≡◌, ◌+◌, ◌≤◌, ℕ, Bool, false, List, Ok, length, get_or, refl, sym, ◌∙◌, ap, subst, arith, rules}
use Rattle.std.proofs.lemmas.List.{length-replicate}
use Rattle.std.proofs.lemmas.Result.{err_from_is_err_and}
use Rattle.mdf_block.specs.Refusal.{Read, ◌>>=◌}
use Rattle.mdf_block.proofs.Refusals.{halts_then}
use Rattle.mdf_block.proofs.Readers.{says_of}
use Rattle.mdf_stream.specs.Parts.{stream_of, stream_size}
use Rattle.mdf_data.specs.Record.{split_refusal}
use Rattle.mdf_data.specs.Places.{places, HaveRoom}
use Rattle.mdf_data.specs.Table.{find}
use Rattle.mdf_data.specs.Kept.{kept, kept_places, with_kept}
use Rattle.mdf_data.proofs.Kepts.{LeadsKept, kept_begins, kept_goes_on, length-with_kept, room_kept}
use Rattle.mdf_data.proofs.Spreads.{is_done, ends, none_of, room_none, some_stands, moves_on, shrinks}
use Rattle.mdf_data.proofs.spread.places_in.Goals as goal

pub records-init : goal.records-init
records-init g c = record {
  found = λ f told.
      rw c.in_ok-lists.ensures (kept_begins (stream_of f c.args.view.now) (stream_size c.args.view.now) c.args.id_size c.args.known.now c.args.counted.now);
  count = ap length c.in_ok-lists.ensures ∙ length-replicate {A = List ℕ} _ _;
  room = λ k d e below. rw c.in_ok-lists.ensures (room_none (stream_size c.args.view.now) c.args.known.now _ k d e below);
  within = omega arith;
  same = refl;
  size = refl;
  later = omega arith;
}

pub returns-in_err-piece-clause-reads : goal.returns-in_err-piece-clause-reads
unfolding kept_places
returns-in_err-piece-clause-reads g c = says_of (search rules) (λ f told.
    let p = err_from_is_err_and c.from_residual-in_err-piece.result c.from_residual-in_err-piece.ensures.1 in
    let loop = c.records in
    let stream = stream_of f c.args.view.now in
    let total = stream_size c.args.view.now in
    let halted = c.in_err-piece.ensures.reads.found f (loop.invariant.same ∙ told) c.args.known.now c.in_ok-table.ensures in
    let so_far = loop.invariant.found f told in
    rw (p.1, p.2) (
    halts_then split_refusal _ (places stream total c.args.id_size c.args.known.now) (λ lists. Ok (kept lists c.args.counted.now))
    (ends stream total c.args.id_size c.args.known.now split_refusal _ so_far.all loop.at _ halted so_far.leads)
    ))

pub records-smaller : goal.records-smaller
records-smaller g c =
    let total = stream_size c.args.view.now in
    let stands =
    some_stands total c.args.id_size c.args.known.now (find c.in_ok-table.table) c.records.at c.in_ok-piece.field-0 c.in-Some.piece c.in-Some.is
    c.in_ok-piece.ensures.piece c.in_ok-table.ensures in
    let more = moves_on total c.args.id_size c.args.known.now c.records.at c.in-Some.piece c.requires.id_size stands in
    shrinks total c.records.at (c.in-Some.piece.at + c.in-Some.piece.len) more (omega (arith, stands.begins, stands.ends))

pub records-preserved : goal.records-preserved
records-preserved g c =
    let loop = c.records in
    let total = stream_size c.args.view.now in
    let piece = c.in-Some.piece in
    let known = c.args.known.now in
    let counted = c.args.counted.now in
    let place = piece.at + c.args.id_size in
    let stands =
    some_stands total c.args.id_size known (find c.in_ok-table.table) loop.at c.in_ok-piece.field-0 piece c.in-Some.is
    c.in_ok-piece.ensures.piece c.in_ok-table.ensures in
    let more = moves_on total c.args.id_size known loop.at piece c.requires.id_size stands in
    let ends : piece.at + piece.len ≤ total = omega (arith, stands.begins, stands.ends) in
    let added : c.add_or_count.new.lists.items ≡ with_kept (get_or counted piece.which false) loop.lists.items piece.which place =
    c.in_ok-add_or_count.ensures ∙ ap (λ (b : Bool). with_kept b loop.lists.items piece.which place) c.is_counted-alone.ensures in
    record {
      found = λ f told.
          let stream = stream_of f c.args.view.now in
          let whole = places stream total c.args.id_size known in
          let found = c.in_ok-piece.ensures.reads.found f (loop.invariant.same ∙ told) known c.in_ok-table.ensures ∙ ap Ok c.in-Some.is in
          subst (λ (lists : List (List ℕ)). LeadsKept stream total c.args.id_size known counted lists (piece.at + piece.len) whole) (sym added)
          (kept_goes_on stream total c.args.id_size known counted loop.lists.items loop.at piece whole found ends more (loop.invariant.found f told));
      count =
          ap length added ∙ length-with_kept (get_or counted piece.which false) loop.lists.items piece.which place ∙ loop.invariant.count;
      room =
          subst (HaveRoom total known) (sym added)
          (room_kept (get_or counted piece.which false) total c.args.id_size known loop.lists.items loop.at piece loop.invariant.room loop.invariant.count stands);
      within = ends;
      same = c.in_ok-piece.ensures.reads.same ∙ loop.invariant.same;
      size = c.in_ok-piece.ensures.reads.size ∙ loop.invariant.size;
      later = omega (arith, c.in_ok-piece.ensures.reads.cause.later);
    }

pub returns-clause-reads : goal.returns-clause-reads
unfolding kept_places
returns-clause-reads g c = says_of (search rules) (λ f told.
    let loop = c.records in
    let stream = stream_of f c.args.view.now in
    let total = stream_size c.args.view.now in
    let so_far = loop.invariant.found f told in
    let found =
    c.in_ok-piece.ensures.reads.found f (loop.invariant.same ∙ told) c.args.known.now c.in_ok-table.ensures
    ∙ ap Ok (none_of c.in_ok-piece.field-0 c.in_default.not-Some) in
    ap (λ (read : Read (List (List ℕ))). read >>= λ lists. Ok (kept lists c.args.counted.now))
    (is_done stream total c.args.id_size c.args.known.now so_far.all loop.at _ found so_far.leads)
    ∙ ap Ok (sym so_far.kept_are ∙ sym c.from_vec.ensures))

pub returns-clause-room : goal.returns-clause-room
returns-clause-room g c = λ k d e below. rw c.from_vec.ensures (c.records.invariant.room k d e below)
