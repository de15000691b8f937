-- A file that carries samples is read as a recording.
use Rattle.std.proofs.Common.{◌≡◌, ◌<◌, ◌≤◌, ℕ, zero, suc, true, false, List, [], ◌∷◌, ◌++◌, length, get_or, take, map, Ok, refl, sym, ◌∙◌, ap, subst, inl, inr, arith, append-nil}
use Rattle.std.proofs.lemmas.Bool.{cases_order, cond-false, true≢false}
use Rattle.std.proofs.lemmas.List.{take_all}
use Rattle.std.proofs.lemmas.Option.{slice_get_within, slice_get-get_or, get_or_from_slice_get}
use Rattle.std.specs.Prelude.{nat_eq, slice_get, Some}
use Rattle.std.specs.List.{concat, flat_map, AllByRecursion}
use Rattle.mdf_stream.specs.declared.part.Part.{Part}
use Rattle.mdf_stream.specs.Parts.{stream_of, stream_size, ArePartsInside}
use Rattle.mdf_stream.proofs.Joins.{length-stream}
use Rattle.mdf_data.specs.Places.{places}
use Rattle.mdf_data.specs.Split.{Record, IsRecordSplit}
use Rattle.mdf_data.proofs.Splits.{record_splits_agree}
use Rattle.mdf_format.specs.Form.{form_named, form_of}
use Rattle.mdf_format.specs.declared.form.Form.{Form}
use Rattle.mdf_format.specs.Block.{link_at}
use Rattle.mdf_head.specs.declared.identity.Ident.{Ident}
use Rattle.mdf_head.specs.declared.entry.Head.{Head}
use Rattle.mdf_head.specs.Ident.{the_ident}
use Rattle.mdf_group.specs.declared.row.ChannelRow.{ChannelRow}
use Rattle.mdf_group.specs.declared.row.GroupRow.{GroupRow}
use Rattle.mdf_group.specs.declared.row.DataRow.{DataRow}
use Rattle.mdf_group.specs.Group.{is_variable}
use Rattle.mdf_group.specs.Recordable.{is_of_values, AreRecordable}
use Rattle.mdf_layout.specs.Layout.{Layout}
use Rattle.mdf_layout.specs.Read.{Piece, piece_bytes, IsPiece, samples_from}
use Rattle.mdf_layout.specs.declared.sample.Sample.{Sample}
use Rattle.mdf_content.specs.Layouts.{layout_of, layout, layouts}
use Rattle.mdf_content.specs.Records.{known_of, places_without_ids, places_of}
use Rattle.mdf_content.specs.Values.{values_at, values_in}
use Rattle.mdf_block.proofs.Items.{one_of}
use Rattle.mdf_model.specs.declared.tree.Tree.{Tree}
use Rattle.mdf_model.specs.Tree.{tree}
use Rattle.mdf_spell.specs.Recording.{recorded_row, recorded_head, recorded_history, IsRecordingTree, FindsHead, FindsGroups}
use Rattle.mdf_session.specs.declared.session.Kept.{Kept}
use Rattle.mdf_session.specs.Counted.{all_streams}
use Rattle.mdf_gate.specs.Units.{opened_parts}
use Rattle.mdf_session.specs.Session.{SessionParts, recording, kept_by, kept_of, kept, first_kept, session}
use Rattle.mdf_data.specs.Bodies.{bodies}
use Rattle.mdf_model.specs.Contents.{IsChannelStream}
use Rattle.mdf_data.proofs.Bodies.{AreSplitAt, places_found}
use Rattle.mdf_model.proofs.Channels.{HoldBodies, held_by}
use Rattle.mdf_model.proofs.Founds.{hold_by}
use Rattle.mdf_gate.specs.Recording.{first_place}
use Rattle.mdf_gate.specs.Carried.{IsCarried}
use Rattle.mdf_carried.proofs.Lists.{all_along}
use Rattle.mdf_carried.proofs.Rows.{IsRecorded, fronts_many}
use Rattle.mdf_carried.proofs.Records.{record_of, records_split, back_holds, no_layout}
use Rattle.mdf_carried.proofs.Holds.{contents_at, group_holds, named_in}
use Rattle.mdf_carried.proofs.Placed.{RulesAgree, is_recorded}
use Rattle.mdf_gate.proofs.Opens.{AreFound, blocks_found}
use Rattle.mdf_carried.proofs.Splits.{places_are}
use Rattle.mdf_carried.proofs.Laid.{TestTells, groups_laid, layouts_found}
use Rattle.mdf_carried.proofs.Kept.{IsSuch, fitting, streams_read}
use Rattle.mdf_carried.proofs.Trees.{ident_found, tree_found}

-- what the data group holds is read, where its parts are
pub kept_by_parts : (form : Form) (file : List ℕ) (row : DataRow) (parts : List Part) (lists found : List (List ℕ)) → layouts row ≡ Ok tt
    → opened_parts form file row.content ≡ Ok parts → places_of (stream_of file parts) (stream_size parts) false row ≡ Ok lists
    → all_streams file (held_by parts row lists) ≡ Ok found → kept form file row ≡ Ok (kept_by file row parts lists found)
unfolding kept kept_of
kept_by_parts form file row parts lists found laid opened placed streams = rw (laid, opened, placed, streams) refl

-- and the session
pub session_by_parts : (file : List ℕ) (id : Ident) (all : Tree) (found : Kept) → recording file ≡ Ok id → tree file ≡ Ok all
    → first_kept (form_named id.custom_flags) file all.rows ≡ Ok found → session file ≡ Ok (record { tree = all; kept = found })
unfolding session
session_by_parts file id all found identified stands held = rw (identified, stands, held) refl

-- what stands in the first part of a list
front_slice : {A : Type 0} (xs ys : List A) (k : ℕ) → k < length xs → slice_get (xs ++ ys) k ≡ slice_get xs k
front_slice [] ys k below = absurd (omega (arith, below))
front_slice (x ∷ xs) ys zero below = refl
front_slice (x ∷ xs) ys (suc k) below = front_slice xs ys k (omega (arith, below))

module _ (tells : TestTells) (file : List ℕ) (ls : List Layout) (row : DataRow) (is : IsRecorded ls row) (pieces : List Piece)
    (each : AllByRecursion (IsPiece ls) pieces) (samples : List Sample) (read : samples_from ls pieces [] pieces ≡ Some samples) where
  abbrev records : List Record
  records = map (record_of (length ls)) pieces

  past : (k : ℕ) (group : GroupRow) → slice_get row.groups k ≡ Some group → is_variable group ≡ false → length ls ≤ k → ⊥
  past k group there other behind =
      let below = slice_get_within row.groups k group there in
      let same : get_or row.groups k group ≡ group = get_or_from_slice_get row.groups k group group there in
      true≢false (sym (back_holds ls row is k group behind below) ∙ ap is_variable same ∙ other)

  -- a group whose records are samples is one of the first
  in_front : (k : ℕ) (group : GroupRow) → slice_get row.groups k ≡ Some group → is_variable group ≡ false → k < length ls
  in_front k group there other = elim (cases_order k (length ls)) [
    | inl same ↦ absurd (past k group there other (omega (arith, same)))
    | inr (inl less) ↦ less
    | inr (inr more) ↦ absurd (past k group there other (omega (arith, more)))
  ]

  -- the values of each channel of variable length of such a group are read
  such : (parts : List Part) (lists : List (List ℕ)) (inside : ArePartsInside (length file) parts) (hold : HoldBodies (stream_of file parts) row lists records)
      (k : ℕ) (group : GroupRow) → slice_get row.groups k ≡ Some group → is_variable group ≡ false
      → (j : ℕ) (channel : ChannelRow) → slice_get group.channels j ≡ Some channel → is_of_values channel ≡ true
      → IsSuch file row parts lists records inside hold k group channel
  such parts lists inside hold k group there other j channel known variable =
      let below = in_front k group there other in
      let many = fronts_many is.at 0 is.front ls is.fronts in
      let front : slice_get is.front k ≡ Some group =
      sym (front_slice is.front is.back k (omega (arith, below, many))) ∙ ap (λ (gs : List GroupRow). slice_get gs k) (sym is.groups_are) ∙ there in
      let layout = get_or ls k no_layout in
      let laid = slice_get-get_or ls k no_layout below in
      let own = bodies row.id_size records k in
      let holds = group_holds file ls row is pieces each samples read k group layout front laid in
      let all : take (length own) own ≡ own = take_all (length own) own (omega arith) in
      let named = named_in file ls row is pieces each samples read k group layout front laid j channel known variable in
      let one = fitting is_of_values (IsChannelStream file row records group.data_bytes (take (length own) own)) group.channels
      (contents_at ls pieces k layout).streams holds.streams j channel known variable in (
        values_at file parts (get_or lists named.0 []),
        ap (values_in file (held_by parts row lists) channel.values) named.1,
        (one.0, subst (λ (xs : List (List ℕ)). IsChannelStream file row records group.data_bytes xs channel one.0) all one.1),
      )

  laid_at : (k : ℕ) (group : GroupRow) → slice_get row.groups k ≡ Some group → layout group ≡ Ok (layout_of group)
  laid_at k group there =
      let below = slice_get_within row.groups k group there in
      let same : get_or row.groups k group ≡ group = get_or_from_slice_get row.groups k group group there in
      subst (λ (g : GroupRow). layout g ≡ Ok (layout_of g)) same
      (one_of (λ (g : GroupRow). layout g ≡ Ok (layout_of g)) row.groups k group (groups_laid tells ls row is) below)

  -- what the data group holds is read
  pub kept_found : (form : Form) (blocks : List (List ℕ)) → AreFound file (opened_parts form file row.content) blocks
      → concat blocks ≡ flat_map (piece_bytes (length ls)) pieces → (found : Kept) × (kept form file row ≡ Ok found)
  unfolding places_of
  kept_found form blocks opened bytes_are =
      let parts = opened.parts in
      let stream = stream_of file parts in
      let known = map known_of row.groups in
      let split = records_split ls row is pieces each in
      let stream_is : stream ≡ flat_map (λ (r : Record). r.bytes) records =
      opened.bytes ∙ bytes_are ∙ split.whole ∙ append-nil (flat_map (λ (r : Record). r.bytes) records) in
      let found = places_are stream 1 known (omega arith) records split.each stream_is in
      let lists = found.0 in
      let long : length stream ≡ stream_size parts = length-stream file parts opened.inside in
      let size : row.id_size ≡ 1 = is.id_size in
      let placed : places stream (stream_size parts) row.id_size known ≡ Ok lists =
      ap (λ (n : ℕ). places stream n row.id_size known) (sym long) ∙ ap (λ (n : ℕ). places stream (length stream) n known) size ∙ found.1 in
      let some_ids : nat_eq row.id_size 0 ≡ false = ap (λ (n : ℕ). nat_eq n 0) size in
      let read_places : places_of stream (stream_size parts) false row ≡ Ok lists =
      cond-false (nat_eq row.id_size 0) (places_without_ids (stream_size parts) false row.groups) (places stream (stream_size parts) row.id_size known) some_ids ∙ placed in
      let at_places : AreSplitAt stream row.id_size known 0 lists =
      subst (λ (n : ℕ). AreSplitAt stream n known 0 lists) (sym size) (places_found stream 1 known 0 lists (omega arith) found.1) in
      let mine : IsRecordSplit stream row.id_size known 0 records [] =
      subst (λ (n : ℕ). IsRecordSplit stream n known 0 records []) (sym size)
      (subst (λ (xs : List ℕ). IsRecordSplit xs 1 known 0 records []) (sym (opened.bytes ∙ bytes_are)) split) in
      let same : at_places.records ≡ records =
      (record_splits_agree stream row.id_size known 0 at_places.records records at_places.rest [] at_places.split mine).0 in
      let hold : HoldBodies stream row lists records =
      subst (HoldBodies stream row lists) same (hold_by row stream 0 lists at_places) in
      let streams = streams_read file row parts lists records opened.inside hold laid_at (such parts lists opened.inside hold) in (
        kept_by file row parts lists streams.0,
        kept_by_parts form file row parts lists streams.0 (layouts_found tells ls row is) opened.found read_places streams.1,
      )

-- the whole session
pub session_read : RulesAgree → TestTells → (start : ℕ) (rows : List GroupRow) (file : List ℕ) (samples : List Sample) → AreRecordable rows
    → IsRecordingTree file start rows → FindsHead file start rows → FindsGroups file start rows → IsCarried (map layout_of rows) file samples
    → (found : SessionParts) × (session file ≡ Ok found)
session_read agree tells start rows file samples are tree_is finds_head finds_groups carried =
    let ls = map layout_of rows in
    let row = recorded_row start rows in
    let is = is_recorded agree file start rows are tree_is in
    let pieces = carried.records.pieces in
    let each = all_along (IsPiece ls) pieces carried.records.each in
    let ident = ident_found file carried.opened.1.recording in
    let all = tree_found file start rows tree_is finds_head finds_groups in
    let begins : row.content ≡ first_place file =
    ap (λ (r : DataRow). r.content) tree_is.groups.each.0.fields
    ∙ ap (λ (n : ℕ). link_at file n 2) (ap (λ (h : Head). h.first_dg) tree_is.head.fields) in
    let opened : AreFound file (opened_parts (form_of file) file row.content) carried.blocks =
    subst (λ (n : ℕ). AreFound file (opened_parts (form_of file) file n) carried.blocks) (sym begins) (blocks_found file carried.blocks carried.opened) in
    let found = kept_found tells file ls row is pieces each samples carried.records.samples_are (form_of file) carried.blocks opened carried.records.bytes_are in
    let whole : Tree = record {
      head = recorded_head start rows;
      history = recorded_history start rows;
      rows = row ∷ [];
      dropped = all.0;
    } in
    (record { tree = whole; kept = found.0 }, session_by_parts file (the_ident file) whole found.0 ident all.1 found.1)
