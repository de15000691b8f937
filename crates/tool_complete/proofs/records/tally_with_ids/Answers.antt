use Rattle.std.proofs.Common.{◌≡◌, ◌+◌, ◌-◌, ◌<◌, ◌∙◌, ℕ, Some, None, length, get_or, set, map, sym, ap, subst, arith, rules}
use Rattle.std.proofs.lemmas.List.{get_or_default, length-map}
use Rattle.mdf_stream.specs.Parts.{stream_of, stream_size}
use Rattle.mdf_data.specs.Record.{IsPieceAt, piece_at}
use Rattle.mdf_data.specs.Splitting.{Splitting}
use Rattle.mdf_data.proofs.Spreads.{moves_on, shrinks}
use Rattle.mdf_content.specs.Records.{known_of}
use Rattle.tool_complete.specs.Records.{if_whole, whole_with_ids}
use Rattle.tool_complete.proofs.Tallies.{small_more, tally_ends, tally_more}
use Rattle.tool_complete.proofs.records.tally_with_ids.Goals as goal
use Rattle.tool_complete.proofs.records.tally_with_ids.Goals.{In-Some}

-- the record that is found lies in the stream, and its group is one of the data group's
stands : (c : In-Some) → IsPieceAt (stream_size c.args.view.now) c.args.row.now.id_size (map known_of c.args.row.now.groups) c.records.whole c.in-Some.piece
stands c =
    subst (λ (s : Splitting). IsPieceAt (stream_size c.args.view.now) s.id_size s.known s.place c.in-Some.piece) c.records.invariant.stands c.in-Some.ensures.piece

which : (c : In-Some) → c.in-Some.piece.which < length c.args.row.now.groups
which c = omega (arith, (stands c).which, length-map c.args.row.now.groups known_of)

pub records-preserved : goal.records-preserved
records-preserved c =
    let loop = c.records in
    let row = c.args.row.now in
    let stream = stream_of c.args.bytes.now c.args.view.now in
    let total = stream_size c.args.view.now in
    let known = map known_of row.groups in
    let piece = c.in-Some.piece in
    let one = (goal.at.records-preserved c).In-Some in
    let there = stands one in
    let found : if_whole (piece_at stream row.id_size known loop.whole (total - loop.whole)) ≡ Some piece =
    subst (λ (s : Splitting). if_whole (piece_at stream s.id_size s.known s.place (total - s.place)) ≡ Some piece) loop.invariant.stands
    (sym c.next_whole.ensures.found ∙ c.in-Some.is) in
    let next = set loop.counts.items piece.which (c.index_mut.result.now + 1) in
    let here : c.index_mut.result.now ≡ get_or loop.counts.items piece.which 0 =
    c.index_mut.ensures.value ∙ get_or_default loop.counts.items piece.which c.index_mut.result.now 0 (omega (arith, which one, loop.invariant.all)) in
    let added : next ≡ set loop.counts.items piece.which (get_or loop.counts.items piece.which 0 + 1) =
    ap (λ (n : ℕ). set loop.counts.items piece.which (n + 1)) here in
    record {
      leads = tally_more stream total row.id_size known (length row.groups) loop.counts.items next loop.whole piece _ c.requires.ids found there
          loop.invariant.all (which one) added loop.invariant.leads;
      stands = search rules;
      all = search rules;
      small = small_more stream total row.id_size known (length row.groups) loop.counts.items next loop.whole piece c.requires.ids there loop.invariant.all
          (which one) added loop.invariant.small;
      within = omega (arith, there.begins, there.ends);
    }

pub records-smaller : goal.records-smaller
records-smaller c =
    let one = (goal.at.records-smaller c).In-Some in
    let there = stands one in
    shrinks (stream_size c.args.view.now) c.records.whole (c.in-Some.piece.at + c.in-Some.piece.len)
    (moves_on (stream_size c.args.view.now) c.args.row.now.id_size (map known_of c.args.row.now.groups) c.records.whole c.in-Some.piece c.requires.ids there)
    (omega (arith, there.begins, there.ends))

pub returns-clause-tally : goal.returns-clause-tally
returns-clause-tally c =
    let loop = c.records in
    let row = c.args.row.now in
    let stream = stream_of c.args.bytes.now c.args.view.now in
    let total = stream_size c.args.view.now in
    let known = map known_of row.groups in
    let none : if_whole (piece_at stream row.id_size known loop.whole (total - loop.whole)) ≡ None =
    subst (λ (s : Splitting). if_whole (piece_at stream s.id_size s.known s.place (total - s.place)) ≡ None) loop.invariant.stands
    (sym c.next_whole.ensures.found ∙ c.in_default-next_whole.is) in
    let ended =
    tally_ends stream total row.id_size known (length row.groups) loop.counts.items loop.whole (whole_with_ids stream total row) none loop.invariant.leads in
    rw c.from_vec.ensures (record { each = ended.0; all = loop.invariant.all; whole = ended.1 })
