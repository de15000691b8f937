-- What is read of a recording is what it holds.
use Rattle.std.proofs.Common.{◌≡◌, ◌≢◌, ◌+◌, ℕ, List, [], ◌∷◌, length, get_or, take, map, Ok, Err, refl, sym, ◌∙◌, ap, subst, inl, inr, arith}
use Rattle.std.specs.Prelude.{Bool, true, false, not, min, filter, nat_eq, ◌||◌, slice_get, Option, Some, None, codes}
use Rattle.std.specs.List.{concat, flat_map, AllZip, enumerate_from}
use Rattle.std.proofs.lemmas.Bool.{cond-true, cond-false, eqb-true, or_cases, both_ways}
use Rattle.std.proofs.lemmas.List.Folds.{flat_map-map}
use Rattle.std.proofs.lemmas.Slice.Eq.{bytes_eq-Decides}
use Rattle.mdf_format.specs.Number.{bytes_at}
use Rattle.mdf_format.specs.Block.{link_at, IsBlock, IsChain}
use Rattle.mdf_format.specs.Form.{IsInRecordingForm, NamesForm, form_named, names_form}
use Rattle.mdf_format.specs.declared.form.Form.{Form}
use Rattle.mdf_format.specs.Identification.{IsMdf, HasReadVersion, custom_flags}
use Rattle.mdf_gate.specs.Unit.{AreUnits}
use Rattle.mdf_format.specs.declared.kind.Kind.TheVariants.{Dg}
use Rattle.mdf_block.specs.Refusal.{Bad, NotRecording, Read, ◌>>=◌}
use Rattle.mdf_block.proofs.Refusals.{bind_ok}
use Rattle.mdf_block.proofs.Wholes.{chosen}
use Rattle.mdf_stream.specs.declared.part.Part.{Part}
use Rattle.mdf_stream.specs.Parts.{stream_of, stream_size, ArePartsInside}
use Rattle.mdf_stream.proofs.Joins.{length-stream}
use Rattle.mdf_data.specs.Split.{Record, IsRecordSplit}
use Rattle.mdf_head.specs.declared.identity.Ident.{Ident}
use Rattle.mdf_head.specs.declared.entry.Head.{Head}
use Rattle.mdf_head.specs.Ident.{is_finalized, identify}
use Rattle.mdf_group.specs.declared.row.GroupRow.{GroupRow}
use Rattle.mdf_group.specs.declared.row.DataRow.{DataRow}
use Rattle.mdf_group.specs.Group.{is_variable}
use Rattle.mdf_group.specs.Standing.{AreDataGroups}
use Rattle.mdf_group.proofs.Nested.{without_limit}
use Rattle.mdf_layout.specs.Layout.{Layout}
use Rattle.mdf_content.specs.declared.contents.Contents.{Contents}
use Rattle.mdf_content.specs.Layouts.{layout, layouts}
use Rattle.mdf_content.specs.Records.{known_of, has_empty_records, places_of}
use Rattle.mdf_content.specs.Values.{streams}
use Rattle.mdf_content.specs.Contents.{records_at}
use Rattle.mdf_block.specs.Every.{every}
use Rattle.mdf_model.specs.declared.tree.Tree.{Tree}
use Rattle.mdf_model.specs.Tree.{tree}
use Rattle.mdf_data.specs.Bodies.{bodies}
use Rattle.mdf_model.specs.Contents.{HasIdSize, is_of_samples, sample_groups}
use Rattle.mdf_model.proofs.Alone.{empties_by, split_by}
use Rattle.mdf_data.proofs.Bodies.{AreSplitAt}
use Rattle.mdf_block.proofs.Cases.{ok_injective, two_ways}
use Rattle.mdf_model.proofs.Channels.{HaveRooms, HoldBodies, held_by}
use Rattle.mdf_model.proofs.Founds.{size_found, contents_found, hold_by, rooms_by}
use Rattle.mdf_block.proofs.Picks.{IsPicked, all_read, read_with, picked, all_there, keyed_numbered}
use Rattle.mdf_model.proofs.Wholes.{tree_found, identified}
use Rattle.mdf_session.specs.declared.session.Kept.{Kept}
use Rattle.mdf_gate.specs.Units.{opened_parts}
use Rattle.mdf_session.specs.Counted.{group_streams, all_streams, joined}
use Rattle.mdf_session.specs.Session.{recording_by, recording, kept_by, kept_of, kept, first_kept, SessionParts, session}
use Rattle.mdf_gate.specs.Recording.{IsPlace, IsOpened, IsRecording, first_place}
use Rattle.mdf_carried.specs.Recovered.{told, IsGroupContents, Recovery, IsRecovery, IsSessionOf}
use Rattle.mdf_carried.proofs.Counts.{places_count, counts_are, content_is}
use Rattle.mdf_gate.proofs.Opens.{AreOpened, opened_found}
use Rattle.mdf_carried.proofs.Values.{sized, totals_are}

-- what is found of each item, put together
pub gathered_up : {A B C : Type 0} (P : A → C → Type 0) (part : C → B) (xs : List A) (ys : List B)
    → AllZip (λ x y. (z : C) × P x z × (part z ≡ y)) xs ys → (zs : List C) × AllZip P xs zs × (map part zs ≡ ys)
gathered_up P part [] [] all = ([], tt, refl)
gathered_up P part [] (y ∷ ys) all = absurd all
gathered_up P part (x ∷ xs) [] all = absurd all
gathered_up {A} {B} {C} P part (x ∷ xs) (y ∷ ys) all =
    let rest = gathered_up P part xs ys all.1 in (
      all.0.0 ∷ rest.0,
      (all.0.1, rest.1),
      ap (λ (first : B). first ∷ map part rest.0) all.0.2 ∙ ap (λ (others : List B). y ∷ others) rest.2,
    )

-- a group that says another number of records has the same layout
layout_told : (group : GroupRow) (n : ℕ) → layout (record group { cycles = n }) ≡ layout group
unfolding layout
layout_told group n = refl

-- what a group of samples holds
module _ (f : List ℕ) (row : DataRow) (parts : List Part) (lists : List (List ℕ)) (records : List Record)
    (inside : ArePartsInside (length f) parts) (hold : HoldBodies (stream_of f parts) row lists records) (rooms : HaveRooms (stream_of f parts) row lists) where
  abbrev places : ℕ → List ℕ
  places k = get_or lists k []

  abbrev HasStreams : ℕ × GroupRow → List (List ℕ) → Type 0
  HasStreams group found = (contents : Contents) × IsGroupContents f row records group contents × (contents.streams ≡ found)

  -- a reading of a group that is not one of values
  record IsGroupRead (k : ℕ) (group : GroupRow) (found : List (List ℕ)) : Type 0 where
    samples : is_variable group ≡ false
    shape : Layout
    laid : layout group ≡ Ok shape
    read : streams f (held_by parts row lists) (records_at false group (places k)) group.channels ≡ Ok found

  abbrev IsReadOf : ℕ → GroupRow → Option (List (List ℕ)) → Type 0
  IsReadOf k group None = is_variable group ≡ true
  IsReadOf k group (Some found) = IsGroupRead k group found

  item_found : (k : ℕ) (group : GroupRow) (left : Unit {0}) (found : Option (List (List ℕ)) × Unit {0})
      → group_streams f (held_by parts row lists) k group left ≡ Ok found → IsReadOf k group found.0
  unfolding group_streams
  item_found k group left found is =
      let read = streams f (held_by parts row lists) (records_at false group (places k)) group.channels in
      let item : Read (Option (List (List ℕ)) × Unit {0}) = layout group >>= λ _. read >>= λ found. Ok (Some found, left) in
      elim (chosen (is_variable group) (Ok (None, left)) item (Ok found) is) [
        | inl values ↦
            subst (λ (y : Option (List (List ℕ)) × Unit {0}). IsReadOf k group y.0) (ok_injective (None, left) found values.1) values.0
        | inr samples ↦
            let first = bind_ok (layout group) (λ _. read >>= λ found. Ok (Some found, left)) found samples.1 in
            let second = bind_ok read (λ found. Ok (Some found, left)) found first.2 in
            subst (λ (y : Option (List (List ℕ)) × Unit {0}). IsReadOf k group y.0) (ok_injective (Some second.0, left) found second.2)
            (record { samples = samples.0; shape = first.0; laid = first.1; read = second.1 })
      ]

  holds : (k : ℕ) (group : GroupRow) (found : List (List ℕ)) → slice_get row.groups k ≡ Some group → IsGroupRead k group found
      → HasStreams (k, group) found
  holds k group found there is =
      let one = told row records (k, group) in
      let count = length (bodies row.id_size records k) in
      let long : length (places k) ≡ count = places_count (stream_of f parts) row lists records hold k group there in
      let all : min count (length (places k)) ≡ length (places k) = omega (arith, long) in
      let read : streams f (held_by parts row lists) (records_at true one (places k)) one.channels ≡ Ok found =
      ap (λ (n : ℕ). streams f (held_by parts row lists) (record { data_bytes = group.data_bytes; places = places k; count = n }) group.channels) all ∙ is.read in
      let made : Contents = record {
        shape = is.shape;
        count = min count (length (places k));
        content =
            flat_map (bytes_at (is.shape.data_bytes + is.shape.inval_bytes) (stream_of f parts)) (take (min count (length (places k))) (places k));
        streams = found;
      } in (
        made,
        contents_found f row parts lists records inside hold rooms k one is.shape found (hold k group there) (rooms k group there) is.samples
            (omega (arith, long)) (layout_told group count ∙ is.laid) read,
        refl,
      )

  turned : (k : ℕ) (group : GroupRow) (found : Option (List (List ℕ))) → slice_get row.groups k ≡ Some group → IsReadOf k group found
      → IsPicked is_of_samples HasStreams (k, group) found
  turned k group None there is = ap not is
  turned k group (Some found) there is = (ap not is.samples, holds k group found there is)

  record HoldAll (found : List (List ℕ)) : Type 0 where
    groups : List Contents
    each : AllZip (IsGroupContents f row records) (sample_groups row) groups
    streams_are : found ≡ flat_map (λ (contents : Contents). contents.streams) groups

  all_hold : (found : List (List ℕ)) → all_streams f (held_by parts row lists) ≡ Ok found → HoldAll found
  unfolding all_streams
  all_hold found is =
      let item = group_streams f (held_by parts row lists) in
      let first = bind_ok (every item 0 row.groups tt) (λ found. Ok (joined found.0)) found is in
      let read = all_read item IsReadOf (λ k group left y. item_found k group left y) 0 row.groups tt first.0 first.1 in
      let all = read_with (λ n group. slice_get row.groups n ≡ Some group) IsReadOf (λ k group y. IsPicked is_of_samples HasStreams (k, group) y) turned
      0 row.groups first.0.0 (all_there row.groups) read in
      let each : AllZip HasStreams (sample_groups row) first.0.0 =
      subst (λ (groups : List (ℕ × GroupRow)). AllZip HasStreams (filter is_of_samples groups) first.0.0) (keyed_numbered 0 row.groups)
      (picked (λ k group. (k, group)) is_of_samples HasStreams 0 row.groups first.0.0 all) in
      let up = gathered_up (IsGroupContents f row records) (λ (contents : Contents). contents.streams) (sample_groups row) first.0.0 each in
      record {
        groups = up.0;
        each = up.1;
        streams_are =
            sym (ok_injective (joined first.0.0) found first.2)
            ∙ ap joined (sym up.2)
            ∙ flat_map-map (λ (list : List (List ℕ)). list) (λ (contents : Contents). contents.streams) up.0;
      }

-- records without bytes are none where nothing is said
pub empties_none : (groups : List GroupRow) → empties_by false groups ≡ 0
empties_none [] = refl
empties_none (group ∷ groups) = elim (two_ways (has_empty_records group)) [
  | inl empty ↦ cond-true (has_empty_records group) 0 0 empty
  | inr some ↦ cond-false (has_empty_records group) 0 0 some
]

-- what the data group holds
pub record IsKeptFound (form : Form) (f : List ℕ) (row : DataRow) (found : Kept) : Type 0 where
  pub id_size : HasIdSize row
  pub parts : List Part
  pub place : IsPlace row.content
  pub opened : AreOpened form f row.content parts
  pub records : List Record
  pub rest : List ℕ
  pub split : IsRecordSplit (concat opened.blocks) row.id_size (map known_of row.groups) 0 records rest
  pub whole : row.id_size ≢ 0 → rest ≡ []
  pub groups : List Contents
  pub each : AllZip (IsGroupContents f row records) (sample_groups row) groups
  pub content : found.content ≡ flat_map (λ (r : Record). r.bytes) records
  pub counts : found.counts ≡ map (λ (group : ℕ × GroupRow). length (bodies row.id_size records group.0)) (enumerate_from 0 row.groups)
  pub totals : found.totals ≡ map (sized row records) (enumerate_from 0 row.groups)
  pub streams : found.streams ≡ flat_map (λ (contents : Contents). contents.streams) groups

kept_found : (form : Form) (f : List ℕ) (row : DataRow) (found : Kept) → kept form f row ≡ Ok found → IsKeptFound form f row found
unfolding kept kept_of
kept_found form f row found is =
    let made : List Part → List (List ℕ) → List (List ℕ) → Kept = λ parts lists found. kept_by f row parts lists found in
    let after_lists : List Part → List (List ℕ) → Read Kept = λ parts lists. all_streams f (held_by parts row lists) >>= λ found. Ok (made parts lists found) in
    let after_parts : List Part → Read Kept = λ parts. places_of (stream_of f parts) (stream_size parts) false row >>= λ lists. after_lists parts lists in
    let laid = bind_ok (layouts row) (λ _. opened_parts form f row.content >>= λ parts. after_parts parts) found is in
    let viewed = bind_ok (opened_parts form f row.content) after_parts found laid.2 in
    let parts = viewed.0 in
    let opened = opened_found form f row.content parts viewed.1 in
    let stream = stream_of f parts in
    let long : stream_size parts ≡ length stream = sym (length-stream f parts opened.1.inside) in
    let placed = bind_ok (places_of stream (stream_size parts) false row) (after_lists parts) found viewed.2 in
    let lists = placed.0 in
    let has = size_found row laid.0 laid.1 in
    let split : AreSplitAt stream row.id_size (map known_of row.groups) 0 lists =
    subst (λ (n : ℕ). AreSplitAt stream row.id_size (map known_of row.groups) n lists) (empties_none row.groups)
    (split_by false row stream lists has (subst (λ (n : ℕ). places_of stream n false row ≡ Ok lists) long placed.1)) in
    let hold = hold_by row stream 0 lists split in
    let rooms = rooms_by row stream 0 lists split in
    let last = bind_ok (all_streams f (held_by parts row lists)) (λ found. Ok (made parts lists found)) found placed.2 in
    let all = all_hold f row parts lists split.records opened.1.inside hold rooms last.0 last.1 in
    let whole : IsKeptFound form f row (made parts lists last.0) = record {
      id_size = has;
      parts = parts;
      place = opened.0;
      opened = opened.1;
      records = split.records;
      rest = split.rest;
      split = subst (λ (s : List ℕ). IsRecordSplit s row.id_size (map known_of row.groups) 0 split.records split.rest) opened.1.bytes split.split;
      whole = split.whole;
      groups = all.groups;
      each = all.each;
      content = content_is row stream lists split.records split.rest hold split.split split.whole;
      counts = counts_are stream row lists split.records hold;
      totals = totals_are row stream lists split.records split.rest has hold split.split;
      streams = all.streams_are;
    } in
    subst (IsKeptFound form f row) (ok_injective (made parts lists last.0) found last.2) whole

-- the identification
pub record IsRecordingIdent (f : List ℕ) (id : Ident) : Type 0 where
  pub mdf : IsMdf f
  pub version : HasReadVersion f
  pub form : IsInRecordingForm f
  pub named : id.custom_flags ≡ custom_flags f

-- a word that names a form
names_of : (word : ℕ) → names_form word ≡ true → NamesForm word
names_of word is = elim (or_cases (nat_eq word 1) (nat_eq word 3) is) [ inl one ↦ inl (eqb-true word 1 one) | inr two ↦ inr (eqb-true word 3 two) ]

not_either : (a b : Bool) → (a || not b) ≡ false → (a ≡ false) × (b ≡ true)
not_either true b is = let wrong : true ≡ false = is in cc
not_either false true is = (refl, refl)
not_either false false is = let wrong : true ≡ false = is in cc

ident_found : (f : List ℕ) (id : Ident) → recording f ≡ Ok id → IsRecordingIdent f id
unfolding recording
ident_found f id is =
    let first = bind_ok (identify f) recording_by id is in
    let known = identified f first.0 first.1 in
    let test = first.0.finalized || not (names_form first.0.custom_flags) in
    elim (chosen test (Err (NotRecording first.0.std_flags first.0.custom_flags)) (Ok first.0) (Ok id) first.2) [
      | inl refused ↦ let wrong : ◌≡◌ {A = Read Ident} (Err (NotRecording first.0.std_flags first.0.custom_flags)) (Ok id) = refused.1 in cc
      | inr passes ↦
          let both = not_either first.0.finalized (names_form first.0.custom_flags) passes.0 in subst (IsRecordingIdent f) (ok_injective first.0 id passes.1) (record {
            mdf = known.mdf;
            version = known.version;
            form = record {
              unfinalized = elim known.mdf.marked [
                | inl closed ↦ absurd (both_ways (is_finalized f) (ap (λ (i : Ident). i.finalized) known.says ∙ both.0)
                    ((bytes_eq-Decides (bytes_at 8 f 0) (codes "MDF     ")).1 closed))
                | inr left_open ↦ left_open
              ];
              custom = subst NamesForm (sym (ap (λ (i : Ident). i.custom_flags) known.says)) (names_of first.0.custom_flags both.1);
            };
            named = sym (ap (λ (i : Ident). i.custom_flags) known.says);
          })
    ]

-- the first data group
record IsFirst (form : Form) (f : List ℕ) (at : ℕ) (rows : List DataRow) (found : Kept) : Type 0 where
  row : DataRow
  there : slice_get rows 0 ≡ Some row
  block : IsBlock f at Dg
  content : link_at f at 2 ≡ row.content
  kept_is : kept form f row ≡ Ok found

first_found : (form : Form) (f : List ℕ) (at : ℕ) (rows : List DataRow) (found : Kept) → AreDataGroups f at rows → first_kept form f rows ≡ Ok found → IsFirst form f at rows found
unfolding IsChain
first_found form f at [] found are is = let wrong : ◌≡◌ {A = Read Kept} (Err (Bad 0 Dg)) (Ok found) = is in cc
first_found form f at (row ∷ rows) found are is = record {
  row = row;
  there = refl;
  block = subst (λ (n : ℕ). IsBlock f n Dg) are.chain.0 (subst (λ (n : ℕ). IsBlock f n Dg) (sym are.chain.0) are.chain.1);
  content = ap (λ (n : ℕ). link_at f n 2) (sym are.chain.0) ∙ sym (ap (λ (r : DataRow). r.content) are.each.0.fields);
  kept_is = is;
}

-- its data groups, none of whose conversions lies too deep
pub session_rows : (f : List ℕ) (s : SessionParts) → session f ≡ Ok s → AreDataGroups f s.tree.head.first_dg s.tree.rows
unfolding session
session_rows f s is =
    let made : Tree → Kept → SessionParts = λ all found. record { tree = all; kept = found } in
    let one = bind_ok (recording f) (λ id. tree f >>= λ all. first_kept (form_named id.custom_flags) f all.rows >>= λ found. Ok (made all found)) s is in
    let form = form_named one.0.custom_flags in
    let two = bind_ok (tree f) (λ all. first_kept form f all.rows >>= λ found. Ok (made all found)) s one.2 in
    let three = bind_ok (first_kept form f two.0.rows) (λ found. Ok (made two.0 found)) s two.2 in
    subst (λ (read : SessionParts). AreDataGroups f read.tree.head.first_dg read.tree.rows) (ok_injective (made two.0 three.0) s three.2)
    (tree_found f two.0 two.1).rows

-- all of a file
pub session_found : (f : List ℕ) (s : SessionParts) → session f ≡ Ok s → (found : Recovery) × IsRecovery f found × IsSessionOf found s
unfolding session
session_found f s is =
    let made : Tree → Kept → SessionParts = λ all found. record { tree = all; kept = found } in
    let one = bind_ok (recording f) (λ id. tree f >>= λ all. first_kept (form_named id.custom_flags) f all.rows >>= λ found. Ok (made all found)) s is in
    let form = form_named one.0.custom_flags in
    let two = bind_ok (tree f) (λ all. first_kept form f all.rows >>= λ found. Ok (made all found)) s one.2 in
    let three = bind_ok (first_kept form f two.0.rows) (λ found. Ok (made two.0 found)) s two.2 in
    let all = two.0 in
    let ident = ident_found f one.0 one.1 in
    let stands = tree_found f all two.1 in
    let first = first_found form f all.head.first_dg all.rows three.0 stands.rows three.1 in
    let held = kept_found form f first.row three.0 first.kept_is in
    let dg : all.head.first_dg ≡ link_at f 64 0 = ap (λ (h : Head). h.first_dg) stands.head.fields in
    let at : link_at f (link_at f 64 0) 2 ≡ first.row.content = ap (λ (n : ℕ). link_at f n 2) (sym dg) ∙ first.content in
    let is_recording : IsRecording f = record {
      identified = ident.mdf;
      version = ident.version;
      form = ident.form;
      header = stands.head.block;
      group = subst (λ (n : ℕ). IsBlock f n Dg) dg first.block;
      place = subst IsPlace (sym at) held.place;
    } in
    let opened : IsOpened f held.opened.blocks = (
      held.opened.last,
      record {
        recording = is_recording;
        units =
            subst (λ (form : Form). AreUnits form f (first_place f) held.opened.blocks held.opened.last) (ap form_named ident.named)
            (subst (λ (n : ℕ). AreUnits form f n held.opened.blocks held.opened.last) (sym at) held.opened.units);
        closed = held.opened.closed;
      },
    ) in
    let found : Recovery = record {
      head = all.head;
      history = all.history;
      rows = all.rows;
      row = first.row;
      records = held.records;
      groups = held.groups;
    } in
    let recovery : IsRecovery f found = record {
      stands = stands.head;
      tree = without_limit f all.head.first_dg all.rows stands.rows;
      first = first.there;
      records = record {
        id_size = held.id_size;
        blocks = held.opened.blocks;
        opened = opened;
        rest = held.rest;
        split = held.split;
        whole = held.whole;
      };
      groups = held.each;
    } in
    let kept_of : IsSessionOf found (made all three.0) = record {
      head = refl;
      history = refl;
      rows = refl;
      kept = record { content = held.content; counts = held.counts; totals = held.totals; streams = held.streams };
    } in
    (found, recovery, subst (IsSessionOf found) (ok_injective (made all three.0) s three.2) kept_of)
