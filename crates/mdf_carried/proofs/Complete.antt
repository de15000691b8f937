-- A file that holds a recording and is within the limits is read.
use Rattle.std.proofs.Common.{◌≡◌, ◌≢◌, ◌+◌, ℕ, zero, suc, true, false, List, [], ◌∷◌, ◌++◌, length, get_or, take, map, Ok, Err, refl, sym, ◌∙◌, ap, subst, inl, inr, arith, append-nil}
use Rattle.std.specs.Prelude.{not, nat_eq, nat_lt, slice_get, Option, Some, None}
use Rattle.std.specs.List.{flat_map, enumerate_from, AllByRecursion}
use Rattle.std.proofs.lemmas.Bool.{eqb-false, cond-true, cond-false}
use Rattle.std.proofs.lemmas.List.{take_all}
use Rattle.std.proofs.lemmas.Option.{same_Some, slice_get_within, slice_get-get_or, get_or_from_slice_get}
use Rattle.mdf_format.specs.Form.{form_of}
use Rattle.mdf_format.specs.declared.form.Form.{Form}
use Rattle.mdf_format.specs.Block.{link_at, IsChain}
use Rattle.mdf_format.specs.Identification.{IsUnfinalized}
use Rattle.mdf_block.specs.declared.what.What.TheVariants as whats
use Rattle.mdf_block.specs.Refusal.{TooMany, Read, ◌>>=◌}
use Rattle.mdf_stream.specs.declared.part.Part.{Part}
use Rattle.mdf_stream.specs.Parts.{stream_of, stream_size, ArePartsInside}
use Rattle.mdf_stream.specs.Stream.{LeadsToFew}
use Rattle.mdf_stream.proofs.Joins.{length-stream}
use Rattle.mdf_data.specs.declared.known.Known.{Known}
use Rattle.mdf_data.specs.Places.{places, places_alone}
use Rattle.mdf_data.specs.Split.{Record, IsRecordSplit}
use Rattle.mdf_data.proofs.Splits.{record_splits_agree}
use Rattle.mdf_head.specs.declared.entry.Head.{Head}
use Rattle.mdf_head.specs.Ident.{the_ident}
use Rattle.mdf_group.specs.declared.row.ChannelRow.{ChannelRow}
use Rattle.mdf_group.specs.declared.row.GroupRow.{GroupRow}
use Rattle.mdf_group.specs.declared.row.DataRow.{DataRow}
use Rattle.mdf_group.specs.Group.{is_variable}
use Rattle.mdf_group.specs.Recordable.{is_of_values}
use Rattle.mdf_group.specs.Standing.{StandDataGroups}
use Rattle.mdf_layout.proofs.Rules.{breaks_law}
use Rattle.mdf_content.specs.declared.contents.Contents.{Contents}
use Rattle.mdf_content.specs.Layouts.{layout_of, layout, layouts}
use Rattle.mdf_content.specs.Records.{size_of, known_of, empties_of, places_of_one, places_without_ids, places_of}
use Rattle.mdf_content.specs.Values.{values_group}
use Rattle.mdf_block.proofs.Items.{one_of}
use Rattle.mdf_data.specs.Bodies.{bodies}
use Rattle.mdf_model.specs.Contents.{IsChannelStream, is_of_samples}
use Rattle.mdf_model.specs.Limits.{HasFewValues}
use Rattle.mdf_model.proofs.Alone.{id_size_from, split_by}
use Rattle.mdf_data.proofs.Bodies.{AreSplitAt}
use Rattle.mdf_block.proofs.Cases.{two_ways}
use Rattle.mdf_model.proofs.Channels.{HoldBodies}
use Rattle.mdf_model.proofs.Complete.{values_there, tree_there}
use Rattle.mdf_block.proofs.Picks.{passed_get}
use Rattle.mdf_model.proofs.Founds.{hold_by}
use Rattle.mdf_session.specs.declared.session.Kept.{Kept}
use Rattle.mdf_gate.specs.Units.{opened_parts}
use Rattle.mdf_session.specs.Session.{SessionParts, kept_by, kept, first_kept, session}
use Rattle.mdf_gate.specs.Recording.{first_place}
use Rattle.mdf_carried.specs.Recovered.{IsGroupContents, Recovery, IsRecovery, IsSessionOf}
use Rattle.mdf_carried.specs.Limits.{IsWithinRecording}
use Rattle.mdf_carried.proofs.Founds.{empties_none, session_found}
use Rattle.mdf_carried.proofs.Kept.{IsSuch, fitting, streams_read}
use Rattle.mdf_carried.proofs.Laid.{TestTells, laid, laid_back, layouts_laid}
use Rattle.mdf_carried.proofs.Lists.{all_along, from_here, one_on}
use Rattle.mdf_carried.proofs.Onces.{none_at_first, recoveries_agree}
use Rattle.mdf_gate.proofs.Opens.{AreFound, blocks_found}
use Rattle.mdf_carried.proofs.Sessions.{kept_by_parts, session_by_parts}
use Rattle.mdf_carried.proofs.Splits.{places_are}
use Rattle.mdf_carried.proofs.Trees.{ident_found}

from_zero : (k : ℕ) → 0 + k ≡ k
from_zero k = omega arith

-- an item with its number
numbered_at : {A : Type 0} (n : ℕ) (xs : List A) (k : ℕ) (x : A) → slice_get xs k ≡ Some x → slice_get (enumerate_from n xs) k ≡ Some (n + k, x)
numbered_at {A} n [] k x there = let wrong : ◌≡◌ {A = Option A} None (Some x) = there in cc
numbered_at {A} n (y ∷ xs) zero x there =
    ap (λ (m : ℕ). Some (m, y)) (sym (from_here n)) ∙ ap (λ (z : A). Some (n + 0, z)) (same_Some y x there)
numbered_at n (y ∷ xs) (suc k) x there = numbered_at (n + 1) xs k x there ∙ ap (λ (m : ℕ). Some (m, x)) (sym (one_on n k))

-- the test of a channel tells that it breaks a rule
tells : TestTells
tells data_bytes inval_bytes rows k row breaks = (breaks_law data_bytes inval_bytes rows k row).to breaks

-- the places of records without ids
without_there : (total : ℕ) (groups : List GroupRow) → (lists : List (List ℕ)) × (places_without_ids total false groups ≡ Ok lists)
without_there total [] = ([], refl)
without_there total (group ∷ groups) =
    let few : nat_lt 268435456 (empties_of 0 group) ≡ false = ap (nat_lt 268435456) (empties_none (group ∷ [])) in
    let found = places_alone total (empties_of 0 group) (size_of group) in
    let one : places_of_one total 0 group ≡ Ok found =
    cond-false (nat_lt 268435456 (empties_of 0 group)) (Err (TooMany whats.Sample group.at)) (Ok found) few in
    (found ∷ [], ap (λ (read : Read (List ℕ)). read >>= λ xs. Ok (xs ∷ [])) one)

-- and with ids
with_there : (stream : List ℕ) (id_size : ℕ) (known : List Known) (records : List Record) (rest : List ℕ) → id_size ≢ 0
    → IsRecordSplit stream id_size known 0 records rest → rest ≡ [] → (lists : List (List ℕ)) × (places stream (length stream) id_size known ≡ Ok lists)
with_there stream zero known records rest some split none = absurd (some refl)
with_there stream (suc n) known records rest some split none =
    let joined = flat_map (λ (r : Record). r.bytes) records in
    places_are stream (suc n) known (omega arith) records split.each
    (split.whole ∙ ap (λ (xs : List ℕ). joined ++ xs) none ∙ append-nil joined)

places_there : (stream : List ℕ) (row : DataRow) (records : List Record) (rest : List ℕ)
    → IsRecordSplit stream row.id_size (map known_of row.groups) 0 records rest → (row.id_size ≢ 0 → rest ≡ [])
    → (lists : List (List ℕ)) × (places_of stream (length stream) false row ≡ Ok lists)
unfolding places_of
places_there stream row records rest split whole =
    let without = places_without_ids (length stream) false row.groups in
    let by_ids = places stream (length stream) row.id_size (map known_of row.groups) in
    elim (two_ways (nat_eq row.id_size 0)) [
      | inl none ↦
          let found = without_there (length stream) row.groups in (found.0, cond-true (nat_eq row.id_size 0) without by_ids none ∙ found.1)
      | inr given ↦
          let some = eqb-false row.id_size 0 given in
          let found = with_there stream row.id_size (map known_of row.groups) records rest some split (whole some) in
          (found.0, cond-false (nat_eq row.id_size 0) without by_ids given ∙ found.1)
    ]

-- the data link of the first data group
first_begins : (file : List ℕ) (at : ℕ) (rows : List DataRow) (row : DataRow) → StandDataGroups file at rows → slice_get rows 0 ≡ Some row
    → row.content ≡ link_at file at 2
unfolding IsChain
first_begins file at [] row stand there = let wrong : ◌≡◌ {A = Option DataRow} None (Some row) = there in cc
first_begins file at (first ∷ rows) row stand there =
    ap (λ (r : DataRow). r.content) (sym (same_Some first row there))
    ∙ ap (λ (r : DataRow). r.content) stand.each.0.fields
    ∙ ap (λ (n : ℕ). link_at file n 2) stand.chain.0

-- what it holds is what is read
first_is : (form : Form) (file : List ℕ) (rows : List DataRow) (row : DataRow) → slice_get rows 0 ≡ Some row → first_kept form file rows ≡ kept form file row
first_is form file [] row there = let wrong : ◌≡◌ {A = Option DataRow} None (Some row) = there in cc
first_is form file (first ∷ rows) row there = ap (kept form file) (same_Some first row there)

module _ (file : List ℕ) (found : Recovery) (is : IsRecovery file found) where
  abbrev row : DataRow
  row = found.row

  abbrev records : List Record
  records = found.records

  -- what a group of samples holds
  group_holds : (k : ℕ) (group : GroupRow) → slice_get row.groups k ≡ Some group → is_variable group ≡ false
      → (contents : Contents) × IsGroupContents file row records (k, group) contents
  group_holds k group there samples =
      let R : ℕ × GroupRow → Contents → Type 0 = IsGroupContents file row records in
      let one = fitting is_of_samples R (enumerate_from 0 row.groups) found.groups is.groups k (0 + k, group) (numbered_at 0 row.groups k group there)
      (ap not samples) in
      (one.0, subst (λ (n : ℕ). R (n, group) one.0) (from_zero k) one.1)

  -- layouts
  laid_at : (k : ℕ) (group : GroupRow) → slice_get row.groups k ≡ Some group → layout group ≡ Ok (layout_of group)
  laid_at k group there =
      elim (two_ways (is_variable group)) [
        | inl values ↦ laid_back tells group values
        | inr samples ↦ laid tells group (group_holds k group there samples).1.ruled
      ]

  layouts_there : layouts row ≡ Ok tt
  layouts_there =
      layouts_laid tells row (id_size_from row is.records.id_size)
      (all_along (λ (group : GroupRow). layout group ≡ Ok (layout_of group)) row.groups
      (λ k group below. laid_at k (get_or row.groups k group) (slice_get-get_or row.groups k group below)))

  -- values
  such : AllByRecursion (HasFewValues file) row.groups → (parts : List Part) (lists : List (List ℕ)) (inside : ArePartsInside (length file) parts)
      (hold : HoldBodies (stream_of file parts) row lists records) (k : ℕ) (group : GroupRow) → slice_get row.groups k ≡ Some group → is_variable group ≡ false
      → (j : ℕ) (channel : ChannelRow) → slice_get group.channels j ≡ Some channel → is_of_values channel ≡ true
      → IsSuch file row parts lists records inside hold k group channel
  such few parts lists inside hold k group there samples j channel known variable =
      let own = bodies row.id_size records k in
      let all : take (length own) own ≡ own = take_all (length own) own (omega arith) in
      let contents = group_holds k group there samples in
      let one = fitting is_of_values (IsChannelStream file row records group.data_bytes (take (length own) own)) group.channels
      contents.0.streams contents.1.streams j channel known variable in
      let short = passed_get is_of_values (λ (c : ChannelRow). LeadsToFew file c.values) group.channels j channel known variable
      (subst (HasFewValues file) (get_or_from_slice_get row.groups k group group there)
      (one_of (HasFewValues file) row.groups k group few (slice_get_within row.groups k group there))) in
      let values = values_there file row records parts lists channel.values (values_group row.groups channel.values 0) one.0 one.1.values short in (
        values.0,
        values.1,
        (one.0, subst (λ (xs : List (List ℕ)). IsChannelStream file row records group.data_bytes xs channel one.0) all one.1),
      )

  -- the first data group
  begins : row.content ≡ first_place file
  begins =
      first_begins file found.head.first_dg found.rows row is.tree is.first
      ∙ ap (λ (n : ℕ). link_at file n 2) (ap (λ (h : Head). h.first_dg) is.stands.fields)

  kept_there : AllByRecursion (HasFewValues file) row.groups → (read : Kept) × (kept (form_of file) file row ≡ Ok read)
  kept_there few =
      let known = map known_of row.groups in
      let rest = is.records.rest in
      let opened : AreFound file (opened_parts (form_of file) file row.content) is.records.blocks =
      subst (λ (n : ℕ). AreFound file (opened_parts (form_of file) file n) is.records.blocks) (sym begins) (blocks_found file is.records.blocks is.records.opened) in
      let parts = opened.parts in
      let stream = stream_of file parts in
      let long : length stream ≡ stream_size parts = length-stream file parts opened.inside in
      let split : IsRecordSplit stream row.id_size known 0 records rest =
      subst (λ (xs : List ℕ). IsRecordSplit xs row.id_size known 0 records rest) (sym opened.bytes) is.records.split in
      let placed = places_there stream row records rest split is.records.whole in
      let lists = placed.0 in
      let at_places : AreSplitAt stream row.id_size known 0 lists =
      subst (λ (n : ℕ). AreSplitAt stream row.id_size known n lists) (empties_none row.groups) (split_by false row stream lists is.records.id_size placed.1) in
      let same : at_places.records ≡ records =
      (record_splits_agree stream row.id_size known 0 at_places.records records at_places.rest rest at_places.split split).0 in
      let hold : HoldBodies stream row lists records = subst (HoldBodies stream row lists) same (hold_by row stream 0 lists at_places) in
      let streams = streams_read file row parts lists records opened.inside hold laid_at (such few parts lists opened.inside hold) in (
        kept_by file row parts lists streams.0,
        kept_by_parts (form_of file) file row parts lists streams.0 layouts_there opened.found
            (subst (λ (n : ℕ). places_of stream n false row ≡ Ok lists) long placed.1) streams.1,
      )

  -- all of the file
  read_there : IsWithinRecording file found → (read : SessionParts) × (session file ≡ Ok read)
  read_there within =
      let unfinalized : IsUnfinalized file = is.records.opened.1.recording.form.unfinalized in
      let ident = ident_found file is.records.opened.1.recording in
      let all = tree_there file found.head found.history found.rows (none_at_first file unfinalized) is.stands within.tree in
      let held = kept_there within.values in (
        _,
        session_by_parts file (the_ident file) (record { head = found.head; history = found.history; rows = found.rows; dropped = all.0 }) held.0 ident all.1
            (first_is (form_of file) file found.rows row is.first ∙ held.1),
      )

-- and the session is that of what the file holds
pub session_there : (file : List ℕ) (found : Recovery) → IsRecovery file found → IsWithinRecording file found
    → (read : SessionParts) × (session file ≡ Ok read) × IsSessionOf found read
session_there file found is within =
    let read = read_there file found is within in
    let other = session_found file read.0 read.1 in
    (read.0, read.1, subst (λ (r : Recovery). IsSessionOf r read.0) (recoveries_agree file other.0 found other.1 is) other.2)
