use Rattle.std.proofs.Common.{◌≡◌, ℕ, List, Ok, map, sym, ◌∙◌, ap, subst, rules}
use Rattle.mdf_format.specs.Number.{bytes_at}
use Rattle.mdf_stream.specs.Parts.{stream_of, stream_size}
use Rattle.mdf_data.specs.Places.{HaveRoom}
use Rattle.mdf_group.specs.declared.row.GroupRow.{GroupRow}
use Rattle.mdf_content.specs.Records.{known_of}
use Rattle.mdf_content.proofs.Takes.{told_long}
use Rattle.mdf_session.specs.Counted.{all_streams, counts_from, records_content, totals_from}
use Rattle.mdf_session.proofs.Keeps.{kept_is}
use Rattle.mdf_block.proofs.Readers.{says_of}
use Rattle.mdf_session.proofs.standing.counted_in.Goals as goal

room_of : (total : ℕ) (groups now : List GroupRow) (lists places : List (List ℕ)) → now ≡ groups → places ≡ lists → HaveRoom total (map known_of groups) lists
    → HaveRoom total (map known_of now) places
room_of total groups now lists places same is room = subst (λ (all : List (List ℕ)). HaveRoom total (map known_of now) all) (sym is)
    (subst (λ (rows : List GroupRow). HaveRoom total (map known_of rows) lists) (sym same) room)

pub all_streams_in-requires-clause-room : goal.all_streams_in-requires-clause-room
all_streams_in-requires-clause-room g c =
    room_of (stream_size c.args.view) c.args.row.now.groups c.as_slice-groups.result.now c.args.lists c.as_slice.result.now
    c.as_slice-groups.ensures c.as_slice.ensures c.requires.room

pub totals_in-requires-clause-room : goal.totals_in-requires-clause-room
totals_in-requires-clause-room g c =
    room_of (stream_size c.args.view) c.args.row.now.groups c.as_slice-groups.result.now c.args.lists c.as_slice-3.result.now
    c.as_slice-groups.ensures c.as_slice-3.ensures c.requires.room

pub returns-clause-reads : goal.returns-clause-reads
returns-clause-reads g c = says_of (search rules) (λ f told.
    let row = c.args.row.now in
    let parts = c.args.view in
    let streams = c.in_ok-streams.ensures in
    let totals = c.in_ok-totals.ensures in
    let now = streams.reads.same ∙ told in
    let long = told_long _ _ f parts (g.met.P.Span.whole c.args.span.now) told c.requires.inside in
    let groups = c.as_slice-groups.ensures in
    let read : all_streams f (record { parts = parts; groups = row.groups; lists = c.args.lists }) ≡ Ok c.in_ok-streams.streams =
    ap (λ (rows : List GroupRow). all_streams f (record { parts = parts; groups = rows; lists = c.args.lists })) (sym groups)
    ∙ ap (λ (all : List (List ℕ)). all_streams f (record { parts = parts; groups = c.as_slice-groups.result.now; lists = all })) (sym c.as_slice.ensures)
    ∙ streams.reads.found f told in
    let content : bytes_at c.content_size-size.result (stream_of f parts) 0 ≡ records_content (stream_of f parts) row c.args.lists =
    sym (c.content_size-size.ensures.content (stream_of f parts) (long ∙ sym c.len.ensures.size))
    ∙ ap (records_content (stream_of f parts) row) c.as_slice-4.ensures in
    let counts : c.in_ok-counts.counts ≡ counts_from c.args.lists 0 row.groups =
    c.in_ok-counts.ensures.counts
    ∙ ap (λ (all : List (List ℕ)). counts_from all 0 c.as_slice-groups.result.now) c.as_slice-2.ensures
    ∙ ap (counts_from c.args.lists 0) groups in
    let sums : c.in_ok-totals.totals ≡ totals_from (stream_of f parts) c.args.lists 0 row.groups =
    totals.reads.seen f now
    ∙ ap (λ (all : List (List ℕ)). totals_from (stream_of f parts) all 0 c.as_slice-groups.result.now) c.as_slice-3.ensures
    ∙ ap (totals_from (stream_of f parts) c.args.lists 0) groups in
    kept_is f row parts c.args.lists c.in_ok-streams.streams _ c.in_ok-counts.counts c.in_ok-totals.totals read content counts sums)
