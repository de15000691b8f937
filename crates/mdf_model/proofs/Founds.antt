-- What is read of a data group is what it holds.
use Rattle.std.proofs.Common.{refl, ◌≡◌, ◌+◌, ◌<◌, ◌≤◌, ℕ, List, [], ◌∷◌, length, get_or, take, map, Ok, Err, sym, ◌∙◌, ap, subst, inl, inr, arith}
use Rattle.std.specs.Prelude.{Bool, min, true, false, cond, not, nat_lt, if◌then◌else◌, filter, slice_get, Option, Some, None}
use Rattle.std.specs.Option.{option_map}
use Rattle.std.specs.List.{AllByRecursion, AllZip}
use Rattle.std.proofs.lemmas.Bool.{ltb-false, cond-false}
use Rattle.std.proofs.lemmas.List.{length-map, take-map}
use Rattle.std.proofs.lemmas.List.Folds.{flat_map-map}
use Rattle.std.proofs.lemmas.Option.{slice_get_within, get_or_from_slice_get, slice_get-map}
use Rattle.mdf_format.specs.Number.{bytes_at}
use Rattle.mdf_format.specs.declared.kind.Kind.TheVariants.{Dt}
use Rattle.mdf_block.specs.Refusal.{Cycles, Read, Refusal, ◌>>=◌}
use Rattle.mdf_block.proofs.Refusals.{bind_ok}
use Rattle.mdf_block.proofs.Wholes.{chosen}
use Rattle.mdf_data.specs.declared.known.Size.{Size}
use Rattle.mdf_data.specs.declared.known.Size.TheVariants as sizes
use Rattle.mdf_data.specs.declared.known.Known.{Known}
use Rattle.mdf_stream.specs.declared.part.Part.{Part}
use Rattle.mdf_stream.specs.Parts.{stream_of, stream_size, ArePartsInside}
use Rattle.mdf_stream.specs.Link.{data_parts}
use Rattle.mdf_data.specs.Split.{Record}
use Rattle.mdf_stream.proofs.Joins.{length-stream}
use Rattle.mdf_stream.proofs.Streams.{stream_found}
use Rattle.mdf_group.specs.declared.row.GroupRow.{GroupRow}
use Rattle.mdf_group.specs.declared.row.DataRow.{DataRow}
use Rattle.mdf_group.specs.Group.{is_variable}
use Rattle.mdf_layout.specs.Layout as shapes
use Rattle.mdf_layout.specs.Layout.{Layout}
use Rattle.mdf_content.specs.declared.contents.Contents.{Contents}
use Rattle.mdf_content.specs.declared.found.DataFound.{DataFound}
use Rattle.mdf_content.specs.declared.found.Found.{Found}
use Rattle.mdf_block.specs.Every.{every}
use Rattle.mdf_content.specs.Layouts.{layout, has_id_size, layouts}
use Rattle.mdf_content.specs.Records.{size_of, known_of, places_of, counted_group, counted}
use Rattle.mdf_content.specs.Values.{streams}
use Rattle.mdf_content.specs.Contents.{content_of, count_of, is_strict, records_at}
use Rattle.mdf_content.specs.Found.{data_at, data_fetched, data_found, fetched, group_found, group_place, groups_found, values_found}
use Rattle.mdf_data.specs.Bodies.{bodies, joined}
use Rattle.mdf_model.specs.Measurement.{holds_samples}
use Rattle.mdf_model.specs.Contents.{HasIdSize, empties_in, IsDataSplit, own_records, IsContents, is_of_samples, sample_groups, IsDataContents}
use Rattle.mdf_content.proofs.Founds.{streams_are, turned_list}
use Rattle.mdf_content.proofs.Samples.{group_samples}
use Rattle.mdf_stream.proofs.Insides.{data_inside}
use Rattle.mdf_data.proofs.Bodies.{HasRoom, bodies_at, AreSplitAt}
use Rattle.mdf_model.proofs.Alone.{id_size_is, split_found}
use Rattle.mdf_model.proofs.Ruled.{layout_found}
use Rattle.mdf_model.proofs.Channels.{HaveRooms, HoldBodies, held_by, streams_found}
use Rattle.mdf_block.proofs.Picks.{AreRead, AreNumbered, IsPicked, all_read, read_with, picked, numbered_both, all_there, keyed_numbered}
use Rattle.mdf_block.proofs.Cases.{if_ok, ok_injective}
use Rattle.mdf_block.proofs.Items.{zip_turned}

-- the id size of a data group that is read
pub size_found : (row : DataRow) (u : Unit {0}) → layouts row ≡ Ok u → HasIdSize row
unfolding layouts
size_found row u is = id_size_is row (if_ok (has_id_size row) _ _ u is).0

-- a group has as many records as it says
abbrev HasEnough : List (List ℕ) → ℕ → GroupRow → Option (Unit {0}) → Type 0
HasEnough lists k group read = is_variable group ≡ false → group.cycles ≤ length (get_or lists k [])

count_by : (values few : Bool) (number : ℕ) (refusal : Refusal) (found : Option (Unit {0}) × ℕ)
    → ◌≡◌ {A = Read (Option (Unit {0}) × ℕ)} (if values then Ok (None, number) else (if few then Err refusal else Ok (None, number + 1))) (Ok found)
    → (values ≡ false → few ≡ false) × (found.1 ≡ number + cond (not values) 1 0)
count_by true few number refusal found is =
    let same : (None, number) ≡ found = ok_injective _ found is in
    let none : number ≡ number + 0 = omega arith in
    ((λ other. let wrong : true ≡ false = other in cc), ap (λ (y : Option (Unit {0}) × ℕ). y.1) (sym same) ∙ none)
count_by false true number refusal found is = let wrong : ◌≡◌ {A = Read (Option (Unit {0}) × ℕ)} (Err refusal) (Ok found) = is in cc
count_by false false number refusal found is =
    let same : (None, number + 1) ≡ found = ok_injective _ found is in
    ((λ other. refl), ap (λ (y : Option (Unit {0}) × ℕ). y.1) (sym same))

-- and it is counted, where its records are samples
pub count_found : (lists : List (List ℕ)) (k : ℕ) (group : GroupRow) (number : ℕ) (found : Option (Unit {0}) × ℕ)
    → counted_group lists k group number ≡ Ok found → HasEnough lists k group found.0 × (found.1 ≡ number + cond (holds_samples group) 1 0)
count_found lists k group number found is =
    let places = length (get_or lists k []) in
    let read = count_by (is_variable group) (nat_lt places group.cycles) number (Cycles number group.cycles places) found is in
    ((λ other. ltb-false places group.cycles (read.0 other)), read.1)

-- the counts, group by group
counts_each : (lists : List (List ℕ)) (k : ℕ) (groups : List GroupRow) (ys : List (Unit {0})) → AreRead (HasEnough lists) k groups ys
    → AreNumbered (λ n group. is_variable group ≡ false → group.cycles ≤ length (get_or lists n [])) k groups
counts_each lists k [] ys read = tt
counts_each lists k (group ∷ groups) ys read = (read.3, counts_each lists (k + 1) groups read.1 read.4)

counts_found : (lists : List (List ℕ)) (groups : List GroupRow) (number next : ℕ) → counted lists groups number ≡ Ok next
    → AreNumbered (λ n group. is_variable group ≡ false → group.cycles ≤ length (get_or lists n [])) 0 groups
unfolding counted
counts_found lists groups number next is =
    let first = bind_ok (every (counted_group lists) 0 groups number) (λ found. Ok found.1) next is in
    counts_each lists 0 groups first.0.0
    (all_read (counted_group lists) (HasEnough lists) (λ k group left found is. (count_found lists k group left found is).0) 0 groups number first.0 first.1)

-- what a group holds
module _ (f : List ℕ) (row : DataRow) (parts : List Part) (lists : List (List ℕ)) (records : List Record)
    (inside : ArePartsInside (length f) parts) (hold : HoldBodies (stream_of f parts) row lists records) (rooms : HaveRooms (stream_of f parts) row lists) where
  abbrev places : ℕ → List ℕ
  places k = get_or lists k []

  pub contents_found : (k : ℕ) (group : GroupRow) (shape : Layout) (found : List (List ℕ))
      → bodies_at (stream_of f parts) (size_of group) (places k) ≡ bodies row.id_size records k
      → AllByRecursion (HasRoom (stream_of f parts) (size_of group)) (places k) → is_variable group ≡ false
      → group.cycles ≤ length (places k) → layout group ≡ Ok shape
      → streams f (held_by parts row lists) (records_at true group (places k)) group.channels ≡ Ok found
      → IsContents f row records k group (record {
        shape = shape;
        count = count_of true group (places k);
        content = content_of (stream_of f parts) (shapes.record_size shape) (take (count_of true group (places k)) (places k));
        streams = found;
      })
  contents_found k group shape found held_there room other enough is_shape read =
      let stream = stream_of f parts in
      let size = group.data_bytes + group.inval_bytes in
      let count = min group.cycles (length (places k)) in
      let fixed : size_of group ≡ sizes.Fixed size = cond-false (is_variable group) sizes.Variable (sizes.Fixed size) other in
      let same : bodies_at stream (sizes.Fixed size) (places k) ≡ bodies row.id_size records k =
      ap (λ (s : Size). bodies_at stream s (places k)) (sym fixed) ∙ held_there in
      let all : count ≡ group.cycles = omega (arith, enough) in
      let own : own_records row records k group ≡ take group.cycles (bodies_at stream (sizes.Fixed size) (places k)) = ap (take group.cycles) (sym same) in
      let long : length (bodies row.id_size records k) ≡ length (places k) = ap length (sym same) ∙ length-map (places k) (bytes_at size stream) in
      let laid = layout_found group shape is_shape in
      let sized : content_of stream (shapes.record_size shape) (take count (places k)) ≡ content_of stream size (take count (places k)) =
      ap (λ (l : Layout). content_of stream (shapes.record_size l) (take count (places k))) laid.1 in
      record {
        ruled = laid.0;
        shape = laid.1;
        enough = subst (λ (n : ℕ). group.cycles ≤ n) (sym long) enough;
        count = all;
        content =
            sized
            ∙ ap (λ (n : ℕ). content_of stream size (take n (places k))) all
            ∙ sym (flat_map-map (λ (xs : List ℕ). xs) (bytes_at size stream) (take group.cycles (places k)))
            ∙ ap joined (sym (take-map (bytes_at size stream) group.cycles (places k)))
            ∙ ap joined (sym own);
        samples =
            group_samples f (held_by parts row lists) group (places k) count shape group.channels
            (content_of stream (shapes.record_size shape) (take count (places k))) found other is_shape refl
            (subst (λ (s : Size). AllByRecursion (HasRoom stream s) (places k)) fixed room) (omega arith) read sized;
        streams = streams_found f row parts lists records inside hold group (places k) (own_records row records k group) found own read;
      }

  abbrev IsReadOf : ℕ → GroupRow → Option Found → Type 0
  IsReadOf k group None = is_variable group ≡ true
  IsReadOf k group (Some found) = (is_variable group ≡ false) × (group_found f (held_by parts row lists) k group (places k) ≡ Ok found)

  item_found : (k : ℕ) (group : GroupRow) (left : Unit {0}) (found : Option Found × Unit {0})
      → group_place f (held_by parts row lists) k group left ≡ Ok found → IsReadOf k group found.0
  unfolding group_place
  item_found k group left found is =
      let item = group_found f (held_by parts row lists) k group (places k) in
      elim (chosen (is_variable group) (Ok (None, left)) (item >>= λ found. Ok (Some found, left)) (Ok found) is) [
        | inl values ↦
            subst (λ (y : Option Found × Unit {0}). IsReadOf k group y.0) (ok_injective (None, left) found values.1) values.0
        | inr samples ↦
            let first = bind_ok item (λ found. Ok (Some found, left)) found samples.1 in
            subst (λ (y : Option Found × Unit {0}). IsReadOf k group y.0) (ok_injective (Some first.0, left) found first.2) (samples.0, first.1)
      ]

  -- all that is known of a group by its number
  record IsKnown (k : ℕ) (group : GroupRow) : Type 0 where
    there : slice_get row.groups k ≡ Some group
    enough : is_variable group ≡ false → group.cycles ≤ length (get_or lists k [])

  abbrev IsOfSamples : ℕ × GroupRow → Found → Type 0
  IsOfSamples group found = IsContents f row records group.0 group.1 (fetched f parts lists found)

  fetched_found : (k : ℕ) (group : GroupRow) (found : Found) → IsKnown k group → is_variable group ≡ false
      → group_found f (held_by parts row lists) k group (places k) ≡ Ok found → IsOfSamples (k, group) found
  unfolding group_found
  fetched_found k group found known other is =
      let held = held_by parts row lists in
      let own = records_at true group (places k) in
      let first = bind_ok (layout group) _ found is in
      let second = bind_ok (values_found f held own group.channels) _ found first.2 in
      subst (IsOfSamples (k, group)) (ok_injective _ found second.2)
      (contents_found k group first.0 (map (stream_of f) second.0) (hold k group known.there) (rooms k group known.there) other (known.enough other) first.1
      (streams_are f held own group.channels ∙ ap (λ (read : Read (List (List Part))). read >>= turned_list (stream_of f)) second.1))

  turned : (k : ℕ) (group : GroupRow) (found : Option Found) → IsKnown k group → IsReadOf k group found
      → IsPicked is_of_samples IsOfSamples (k, group) found
  turned k group None known is = ap not is
  turned k group (Some found) known is = (ap not is.0, fetched_found k group found known is.0 is.1)

  all_found : (found : List Found)
      → AreNumbered (λ n group. is_variable group ≡ false → group.cycles ≤ length (get_or lists n [])) 0 row.groups
      → groups_found f (held_by parts row lists) ≡ Ok found → AllZip IsOfSamples (sample_groups row) found
  unfolding groups_found
  all_found found counts is =
      let item = group_place f (held_by parts row lists) in
      let first = bind_ok (every item 0 row.groups tt) (λ found. Ok found.0) found is in
      let read = all_read item IsReadOf (λ k group left y. item_found k group left y) 0 row.groups tt first.0 first.1 in
      let known : AreNumbered IsKnown 0 row.groups = numbered_both
      (λ n group. slice_get row.groups n ≡ Some group) (λ n group. is_variable group ≡ false → group.cycles ≤ length (get_or lists n [])) IsKnown
      (λ n group there enough. record { there = there; enough = enough }) 0 row.groups (all_there row.groups) counts in
      let all = read_with IsKnown IsReadOf (λ k group y. IsPicked is_of_samples IsOfSamples (k, group) y) turned 0 row.groups first.0.0 known read in
      subst (λ (ys : List Found). AllZip IsOfSamples (sample_groups row) ys) (ok_injective first.0.0 found first.2)
      (subst (λ (groups : List (ℕ × GroupRow)). AllZip IsOfSamples (filter is_of_samples groups) first.0.0) (keyed_numbered 0 row.groups)
      (picked (λ k group. (k, group)) is_of_samples IsOfSamples 0 row.groups first.0.0 all))

-- all that is found of a data group on the way
pub record IsDataFound (f : List ℕ) (row : DataRow) (found : DataFound) : Type 0 where
  pub id_size : HasIdSize row
  pub is_parts : data_parts f Dt row.content ≡ Ok found.view
  pub split : AreSplitAt (stream_of f found.view) row.id_size (map known_of row.groups) (empties_in row.groups) found.lists
  pub hold : HoldBodies (stream_of f found.view) row found.lists split.records
  pub rooms : HaveRooms (stream_of f found.view) row found.lists
  pub counts : AreNumbered (λ n group. is_variable group ≡ false → group.cycles ≤ length (get_or found.lists n [])) 0 row.groups
  pub groups : groups_found f (held_by found.view row found.lists) ≡ Ok found.groups
  pub strict : found.strict ≡ is_strict row (stream_size found.view) found.lists

known_at : (groups : List GroupRow) (k : ℕ) (group : GroupRow) → slice_get groups k ≡ Some group
    → (k < length (map known_of groups)) × (get_or (map known_of groups) k (known_of group) ≡ known_of group)
known_at groups k group is =
    let there : slice_get (map known_of groups) k ≡ Some (known_of group) = slice_get-map known_of groups k ∙ ap (option_map known_of) is in
    (slice_get_within (map known_of groups) k (known_of group) there, get_or_from_slice_get (map known_of groups) k (known_of group) (known_of group) there)

pub hold_by : (row : DataRow) (stream : List ℕ) (empties : ℕ) (lists : List (List ℕ))
    (split : AreSplitAt stream row.id_size (map known_of row.groups) empties lists) → HoldBodies stream row lists split.records
hold_by row stream empties lists split k group is =
    let known = known_at row.groups k group is in
    ap (λ (d : Known). bodies_at stream d.size (get_or lists k [])) (sym known.1) ∙ split.places k (known_of group) known.0

pub rooms_by : (row : DataRow) (stream : List ℕ) (empties : ℕ) (lists : List (List ℕ))
    (split : AreSplitAt stream row.id_size (map known_of row.groups) empties lists) → HaveRooms stream row lists
rooms_by row stream empties lists split k group is =
    let known = known_at row.groups k group is in
    subst (λ (d : Known). AllByRecursion (HasRoom stream d.size) (get_or lists k [])) known.1 (split.room k (known_of group) known.0)

pub all_of_data : (f : List ℕ) (row : DataRow) (number : ℕ) (found : DataFound × ℕ) → data_found f row number ≡ Ok found
    → IsDataFound f row found.0 × (counted found.0.lists row.groups number ≡ Ok found.1)
unfolding data_found data_at
all_of_data f row number found is =
    let laid = bind_ok (layouts row) _ found is in
    let viewed = bind_ok (data_parts f Dt row.content) _ found laid.2 in
    let parts = viewed.0 in
    let stream = stream_of f parts in
    let long : stream_size parts ≡ length stream = sym (length-stream f parts (data_inside f Dt row.content parts viewed.1)) in
    let placed = bind_ok (places_of stream (stream_size parts) true row) _ found viewed.2 in
    let lists = placed.0 in
    let has = size_found row laid.0 laid.1 in
    let split = split_found row stream lists has (subst (λ (n : ℕ). places_of stream n true row ≡ Ok lists) long placed.1) in
    let counted_all = bind_ok (counted lists row.groups number) _ found placed.2 in
    let last = bind_ok (data_at f parts row lists) _ found counted_all.2 in
    let groups = bind_ok (groups_found f (held_by parts row lists)) _ last.0 last.1 in
    let made : DataFound = record { view = parts; lists = lists; groups = groups.0; strict = is_strict row (stream_size parts) lists } in
    let whole : IsDataFound f row made = record {
      id_size = has;
      is_parts = viewed.1;
      split = split;
      hold = hold_by row stream (empties_in row.groups) lists split;
      rooms = rooms_by row stream (empties_in row.groups) lists split;
      counts = counts_found lists row.groups number counted_all.0 counted_all.1;
      groups = groups.1;
      strict = refl;
    } in
    subst (λ (y : DataFound × ℕ). IsDataFound f row y.0 × (counted y.0.lists row.groups number ≡ Ok y.1)) (ok_injective _ found last.2)
    (subst (λ (y : DataFound). IsDataFound f row y × (counted y.lists row.groups number ≡ Ok counted_all.0)) (ok_injective made last.0 groups.2)
    (whole, counted_all.1))

pub data_split : (f : List ℕ) (row : DataRow) (found : DataFound) (is : IsDataFound f row found) → IsDataSplit f row is.split.records is.split.rest
data_split f row found is = record {
  stream = stream_of f found.view;
  is_stream = stream_found f Dt row.content found.view is.is_parts;
  split = is.split.split;
}

pub contents_are : (f : List ℕ) (row : DataRow) (found : DataFound) → IsDataFound f row found → IsDataContents f row (data_fetched f found).groups
contents_are f row found is = record {
  id_size = is.id_size;
  records = is.split.records;
  rest = is.split.rest;
  split = data_split f row found is;
  whole = is.split.whole;
  groups =
      zip_turned (λ (group : ℕ × GroupRow) (contents : Contents). IsContents f row is.split.records group.0 group.1 contents)
      (fetched f found.view found.lists) (sample_groups row) found.groups
      (all_found f row found.view found.lists is.split.records (data_inside f Dt row.content found.view is.is_parts) is.hold is.rooms found.groups is.counts
      is.groups);
}
