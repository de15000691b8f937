-- What is found where not all places are wanted is what is found, with the places that are wanted in place of all.
use Rattle.std.proofs.Common.{◌≡◌, ◌+◌, ◌*◌, ◌<◌, ℕ, zero, suc, min, Bool, true, false, not, ◌&&◌, ◌||◌, List, [], ◌∷◌, ◌++◌, length, get_or, map, Option, Some, None, Ok, Err, refl, sym, ◌∙◌, ap, subst, arith}
use Rattle.std.specs.Option.{option_to_list}
use Rattle.std.specs.Prelude.{if◌then◌else◌, nat_eq, nat_lt, slice_get}
use Rattle.std.specs.List.{list_any}
use Rattle.std.proofs.lemmas.Bool.{eq-eqb, or_parts}
use Rattle.std.proofs.lemmas.Option.{get_or_from_slice_get}
use Rattle.mdf_format.specs.declared.kind.Kind.TheVariants.{Dt}
use Rattle.mdf_block.specs.Every.{every}
use Rattle.mdf_block.specs.Refusal.{Cycles, Read, ◌>>=◌}
use Rattle.mdf_stream.specs.declared.part.Part.{Part}
use Rattle.mdf_stream.specs.Link.{data_parts}
use Rattle.mdf_stream.specs.Parts.{stream_of, stream_size}
use Rattle.mdf_data.specs.Kept.{kept, kept_places}
use Rattle.mdf_data.specs.Places.{places}
use Rattle.mdf_data.proofs.Kepts.{kept_long, kept_same}
use Rattle.mdf_group.specs.declared.row.ChannelRow.{ChannelRow}
use Rattle.mdf_group.specs.declared.row.DataRow.{DataRow}
use Rattle.mdf_group.specs.declared.row.GroupRow.{GroupRow}
use Rattle.mdf_group.specs.Group.{is_variable}
use Rattle.mdf_layout.specs.Layout.{Layout}
use Rattle.mdf_content.specs.declared.found.DataFound.{DataFound}
use Rattle.mdf_content.specs.declared.found.Found.{Found}
use Rattle.mdf_content.specs.declared.wanted.Wanted.{Wanted}
use Rattle.mdf_content.specs.declared.wanted.Wanted.TheVariants as wants
use Rattle.mdf_content.specs.Contents.{are_ids_apart, are_said, is_strict, leaves_nothing, records_at, taken}
use Rattle.mdf_content.specs.Found.{channel_found, channel_place, data_at, data_found, group_found, group_place, groups_found, values_found}
use Rattle.mdf_group.specs.Recordable.{is_of_values}
use Rattle.mdf_content.specs.Kept.{data_kept, is_counted, is_without_values, kept_found, kept_lists, kept_of}
use Rattle.mdf_content.specs.Layouts.{layout, layouts}
use Rattle.mdf_content.specs.Records.{counted, counted_group, known_of, places_of, places_without_ids, record_size}
use Rattle.mdf_content.specs.Values.{DataStream, GroupRecords, channel_values, has_value, offset_in, offsets_met, values_at, values_group, values_in}
use Rattle.mdf_content.proofs.Founds.{firsts, then_turned}
use Rattle.mdf_content.proofs.Tables as tables

-- items that are read alike, each at its number, are read alike all
abbrev pub joins : {B S : Type 0} → Option B → List B × S → Read (List B × S)
joins first rest = Ok (option_to_list first ++ rest.0, rest.1)

abbrev pub then_every : {A B S : Type 0} → (ℕ → A → S → Read (Option B × S)) → ℕ → List A → Option B × S → Read (List B × S)
then_every item k xs found = every item k xs found.1 >>= joins found.0

module _ {A B S : Type 0} where
  rest_same : (f g : ℕ → A → S → Read (Option B × S)) (k : ℕ) (xs : List A) → ((left : S) → every f k xs left ≡ every g k xs left)
      → (first : Read (Option B × S)) → (first >>= then_every f k xs) ≡ (first >>= then_every g k xs)
  rest_same f g k xs same (Ok found) = ap (λ (rest : Read (List B × S)). rest >>= joins found.0) (same found.1)
  rest_same f g k xs same (Err refusal) = refl

  every_at : (f g : ℕ → A → S → Read (Option B × S)) (k : ℕ) (xs : List A) (left : S)
      → ((j : ℕ) (d : A) (left : S) → j < length xs → f (j + k) (get_or xs j d) left ≡ g (j + k) (get_or xs j d) left)
      → every f k xs left ≡ every g k xs left
  unfolding every
  every_at f g k [] left same = refl
  every_at f g k (x ∷ xs) left same =
      let here : 0 + k ≡ k = omega arith in
      let first : f k x left ≡ g k x left = subst (λ (n : ℕ). f n x left ≡ g n x left) here (same 0 x left (omega arith)) in
      let behind : (j : ℕ) (d : A) (left : S) → j < length xs → f (j + (k + 1)) (get_or xs j d) left ≡ g (j + (k + 1)) (get_or xs j d) left =
      λ j d left below.
      let next : suc j + k ≡ j + (k + 1) = omega arith in
      subst (λ (n : ℕ). f n (get_or xs j d) left ≡ g n (get_or xs j d) left) next (same (suc j) d left (omega (arith, below))) in
      ap (λ (one : Read (Option B × S)). one >>= then_every f (k + 1) xs) first
      ∙ rest_same f g (k + 1) xs (λ left. every_at f g (k + 1) xs left behind) (g k x left)

-- the places that are wanted are as many as all, and stand where they stood
pub record IsKeptOf (wanted : Wanted) (groups : List GroupRow) (lists fewer : List (List ℕ)) : Type 0 where
  pub long : (k : ℕ) → length (get_or fewer k []) ≡ length (get_or lists k [])
  pub same : (k : ℕ) (d : GroupRow) → is_counted wanted (get_or groups k d) ≡ false → get_or fewer k [] ≡ get_or lists k []

not_counted : (wanted : Wanted) (groups : List GroupRow) (k : ℕ) (d : GroupRow) → is_counted wanted (get_or groups k d) ≡ false
    → get_or (map (is_counted wanted) groups) k false ≡ false
not_counted wanted [] k d denied = refl
not_counted wanted (group ∷ groups) zero d denied = denied
not_counted wanted (group ∷ groups) (suc k) d denied = not_counted wanted groups k d denied

kept_either : (b : Bool) (wanted : Wanted) (groups : List GroupRow) (lists : List (List ℕ))
    → IsKeptOf wanted groups lists (if b then lists else kept lists (map (is_counted wanted) groups))
kept_either true wanted groups lists = record { long = λ k. refl; same = λ k d denied. refl }
kept_either false wanted groups lists = record {
  long = λ k. kept_long lists (map (is_counted wanted) groups) k;
  same = λ k d denied. kept_same lists (map (is_counted wanted) groups) k (not_counted wanted groups k d denied);
}

is_kept : (wanted : Wanted) (row : DataRow) (lists : List (List ℕ)) → IsKeptOf wanted row.groups lists (kept_lists wanted row lists)
is_kept wanted row lists = kept_either (nat_eq row.id_size 0) wanted row.groups lists

-- those of a group that is wanted
pub wanted_list : (wanted : Wanted) (row : DataRow) (lists : List (List ℕ)) (k : ℕ) (group : GroupRow) → slice_get row.groups k ≡ Some group
    → is_counted wanted group ≡ false → get_or (kept_lists wanted row lists) k [] ≡ get_or lists k []
wanted_list wanted row lists k group there denied =
    let same : is_counted wanted (get_or row.groups k group) ≡ false =
    ap (is_counted wanted) (get_or_from_slice_get row.groups k group group there) ∙ denied in
    (is_kept wanted row lists).same k group same

-- groups of values are wanted, and those that refer to values
and_no : (b : Bool) → (b && false) ≡ false
and_no true = refl
and_no false = refl

wanted_with : (wanted : Wanted) (group : GroupRow) → is_without_values group ≡ false → is_counted wanted group ≡ false
wanted_with wants.Every group denied = refl
wanted_with wants.Values group denied = denied
wanted_with (wants.Group at) group denied = ap (λ (b : Bool). b && not (nat_eq group.at at)) denied

values_wanted : (wanted : Wanted) (group : GroupRow) → is_variable group ≡ true → is_counted wanted group ≡ false
values_wanted wanted group holds =
    wanted_with wanted group (ap (λ (b : Bool). not b && not (list_any is_of_values group.channels)) holds)

offsets_wanted : (wanted : Wanted) (group : GroupRow) → list_any is_of_values group.channels ≡ true → is_counted wanted group ≡ false
offsets_wanted wanted group holds =
    wanted_with wanted group (ap (λ (b : Bool). not (is_variable group) && not b) holds ∙ and_no (not (is_variable group)))

-- and the group at the address that is named
pub named_wanted : (group : GroupRow) → is_counted (wants.Group group.at) group ≡ false
named_wanted group = ap (λ (b : Bool). is_without_values group && not b) (eq-eqb group.at group.at refl) ∙ and_no (is_without_values group)

listed_same : (wanted : Wanted) (groups : List GroupRow) (lists fewer : List (List ℕ)) (at k : ℕ) → IsKeptOf wanted groups lists fewer
    → values_group groups at 0 ≡ Some k → get_or fewer k [] ≡ get_or lists k []
listed_same wanted [] lists fewer at k is found = absurd (omega (arith, (tables.values_found [] at 0 k found).2))
listed_same wanted (group ∷ groups) lists fewer at k is found =
    let all : List GroupRow = group ∷ groups in
    let there = tables.values_found all at 0 k found in
    let same : k ≡ there.0 = omega (arith, there.1) in
    let variable : is_variable (get_or all k group) ≡ true = subst (λ (n : ℕ). is_variable (get_or all n group) ≡ true) (sym same) (there.3 group) in
    is.same k group (values_wanted wanted (get_or all k group) variable)

-- a group without channels of variable length has no values
abbrev placed : Bool → Unit {0} → Read (List Part) → Read (Option (List Part) × Unit {0})
placed b left found = if b then (found >>= λ parts. Ok (Some parts, left)) else Ok (None, left)

not_placed : (b : Bool) (left : Unit {0}) (found : Read (List Part)) → b ≡ false → placed b left found ≡ Ok (None, left)
not_placed b left found denied = ap (λ (c : Bool). placed c left found) denied

no_values : (file : List ℕ) (held : DataStream) (records : GroupRecords) (c : ℕ) (channels : List ChannelRow) (left : Unit {0})
    → list_any is_of_values channels ≡ false → every (channel_place file held records) c channels left ≡ Ok ([], left)
unfolding every channel_place
no_values file held records c [] left none = refl
no_values file held records c (channel ∷ channels) left none =
    let parts = or_parts (nat_eq channel.kind 1) (list_any is_of_values channels) none in
    ap (λ (first : Read (Option (List Part) × Unit {0})). first >>= then_every (channel_place file held records) (c + 1) channels)
    (not_placed (nat_eq channel.kind 1) left (channel_found file held records channel c) parts.0)
    ∙ ap (λ (rest : Read (List (List Part) × Unit {0})). rest >>= joins None) (no_values file held records (c + 1) channels left parts.1)

-- the groups of a data group are found alike
module _ (file : List ℕ) (wanted : Wanted) (parts : List Part) (groups : List GroupRow) (lists fewer : List (List ℕ))
    (is : IsKeptOf wanted groups lists fewer) where
  abbrev held : DataStream
  held = record { parts = parts; groups = groups; lists = lists }

  abbrev less : DataStream
  less = record { parts = parts; groups = groups; lists = fewer }

  by_values : (at : ℕ) (found : Option ℕ) → values_group groups at 0 ≡ found → values_in file less at found ≡ values_in file held at found
  by_values at (Some k) found =
      let here : List ℕ → Read (List Part) = λ places. Ok (values_at file parts places) in
      ap here (listed_same wanted groups lists fewer at k is found)
  by_values at None found = refl

  values_same : (at : ℕ) → channel_values file less at ≡ channel_values file held at
  unfolding channel_values
  values_same at = by_values at (values_group groups at 0) refl

  channel_same : (records : GroupRecords) (channel : ChannelRow) (c : ℕ)
      → channel_found file less records channel c ≡ channel_found file held records channel c
  unfolding channel_found
  channel_same records channel c =
      let met : List Part → Read (List Part) = λ found.
      offsets_met (has_value (stream_of file found)) (offset_in (stream_of file parts) records channel) c 0 records.count >>= λ _. Ok found in
      ap (λ (values : Read (List Part)). values >>= met) (values_same channel.values)

  place_same : (records : GroupRecords) (c : ℕ) (channel : ChannelRow) (left : Unit {0})
      → channel_place file less records c channel left ≡ channel_place file held records c channel left
  unfolding channel_place
  place_same records c channel left = ap (placed (nat_eq channel.kind 1) left) (channel_same records channel c)

  channels_same : (records : GroupRecords) (channels : List ChannelRow)
      → values_found file less records channels ≡ values_found file held records channels
  unfolding values_found
  channels_same records channels =
      ap (λ (found : Read (List (List Part) × Unit {0})). found >>= firsts)
      (every_at (channel_place file less records) (channel_place file held records) 0 channels tt
      (λ j d left below. place_same records (j + 0) (get_or channels j d) left))

  none_same : (records others : GroupRecords) (channels : List ChannelRow) → list_any is_of_values channels ≡ false
      → values_found file less records channels ≡ values_found file held others channels
  unfolding values_found
  none_same records others channels none =
      ap (λ (found : Read (List (List Part) × Unit {0})). found >>= firsts)
      (no_values file less records 0 channels tt none ∙ sym (no_values file held others 0 channels tt none))

  abbrev records_of : GroupRow → List ℕ → GroupRecords
  records_of group places = records_at true group places

  group_values : (b : Bool) (group : GroupRow) (k : ℕ) → list_any is_of_values group.channels ≡ b
      → (is_counted wanted group ≡ false → get_or fewer k [] ≡ get_or lists k [])
      → values_found file less (records_of group (get_or fewer k [])) group.channels
      ≡ values_found file held (records_of group (get_or lists k [])) group.channels
  group_values true group k refers same =
      channels_same (records_of group (get_or fewer k [])) group.channels
      ∙ ap (λ (places : List ℕ). values_found file held (records_of group places) group.channels) (same (offsets_wanted wanted group refers))
  group_values false group k refers same =
      none_same (records_of group (get_or fewer k [])) (records_of group (get_or lists k [])) group.channels refers

  abbrev made : ℕ → ℕ → Read (List (List Part)) → Layout → Read Found
  made k count values shape = values >>= λ found. Ok (record { shape = shape; which = k; count = count; values = found })

  group_same : (group : GroupRow) (k : ℕ) → (is_counted wanted group ≡ false → get_or fewer k [] ≡ get_or lists k [])
      → group_found file less k group (get_or fewer k []) ≡ group_found file held k group (get_or lists k [])
  unfolding group_found
  group_same group k same =
      ap (λ (n : ℕ). layout group >>= made k (min group.cycles n) (values_found file less (records_of group (get_or fewer k [])) group.channels))
      (is.long k)
      ∙ ap (λ (values : Read (List (List Part))). layout group >>= made k (min group.cycles (length (get_or lists k []))) values)
      (group_values (list_any is_of_values group.channels) group k refl same)

  abbrev grouped : Bool → Unit {0} → Read Found → Read (Option Found × Unit {0})
  grouped b left found = if b then Ok (None, left) else (found >>= λ one. Ok (Some one, left))

  place_of_same : (group : GroupRow) (k : ℕ) (left : Unit {0}) → (is_counted wanted group ≡ false → get_or fewer k [] ≡ get_or lists k [])
      → group_place file less k group left ≡ group_place file held k group left
  unfolding group_place
  place_of_same group k left same = ap (grouped (is_variable group) left) (group_same group k same)

  at_number : (j : ℕ) (d : GroupRow) (left : Unit {0})
      → group_place file less (j + 0) (get_or groups j d) left ≡ group_place file held (j + 0) (get_or groups j d) left
  at_number j d left =
      let here : j ≡ j + 0 = omega arith in
      subst (λ (n : ℕ). group_place file less n (get_or groups j d) left ≡ group_place file held n (get_or groups j d) left) here
      (place_of_same (get_or groups j d) j left (is.same j d))

  groups_same : groups_found file less ≡ groups_found file held
  unfolding groups_found
  groups_same =
      ap (λ (found : Read (List Found × Unit {0})). found >>= firsts)
      (every_at (group_place file less) (group_place file held) 0 groups tt (λ j d left below. at_number j d left))

-- lists of as many places are counted alike
module _ (lists fewer : List (List ℕ)) (long : (k : ℕ) → length (get_or fewer k []) ≡ length (get_or lists k [])) where
  abbrev counts : GroupRow → ℕ → ℕ → Read (Option (Unit {0}) × ℕ)
  counts group number n =
      if is_variable group then Ok (None, number)
      else (if nat_lt n group.cycles then Err (Cycles number group.cycles n) else Ok (None, number + 1))

  one_counted : (k : ℕ) (group : GroupRow) (number : ℕ) → counted_group fewer k group number ≡ counted_group lists k group number
  one_counted k group number = ap (counts group number) (long k)

  abbrev lasts : List (Unit {0}) × ℕ → Read ℕ
  lasts found = Ok found.1

  counted_same : (groups : List GroupRow) (number : ℕ) → counted fewer groups number ≡ counted lists groups number
  unfolding counted
  counted_same groups number =
      ap (λ (found : Read (List (Unit {0}) × ℕ)). found >>= lasts)
      (every_at (counted_group fewer) (counted_group lists) 0 groups number (λ j d left below. one_counted (j + 0) (get_or groups j d) left))

  taken_same : (groups : List GroupRow) → taken groups fewer ≡ taken groups lists
  unfolding taken
  taken_same [] = refl
  taken_same (group ∷ groups) = ap (λ (n : ℕ). record_size group * n) (long 0)

  said_same : (k : ℕ) (groups : List GroupRow) → are_said fewer k groups ≡ are_said lists k groups
  unfolding are_said
  said_same k [] = refl
  said_same k (group ∷ groups) =
      ap (λ (n : ℕ). nat_eq group.cycles n && are_said fewer (k + 1) groups) (long k)
      ∙ ap (λ (rest : Bool). nat_eq group.cycles (length (get_or lists k [])) && rest) (said_same (k + 1) groups)

  strict_same : (row : DataRow) (total : ℕ) → is_strict row total fewer ≡ is_strict row total lists
  unfolding leaves_nothing
  strict_same row total =
      ap (λ (n : ℕ). (not (nat_eq row.id_size 0) || nat_eq total n) && (are_said fewer 0 row.groups && are_ids_apart row.groups)) (taken_same row.groups)
      ∙ ap (λ (b : Bool). (not (nat_eq row.id_size 0) || nat_eq total (taken row.groups lists)) && (b && are_ids_apart row.groups)) (said_same 0 row.groups)

-- the places that are wanted, of all places
kept_by : (b : Bool) (alone all : Read (List (List ℕ))) (keep : List (List ℕ) → List (List ℕ))
    → ◌≡◌ {A = Read (List (List ℕ))} (if b then alone else (all >>= λ lists. Ok (keep lists)))
    ((if b then alone else all) >>= λ lists. Ok (if b then lists else keep lists))
kept_by true (Ok lists) all keep = refl
kept_by true (Err refusal) all keep = refl
kept_by false alone all keep = refl

abbrev keeps : Wanted → DataRow → List (List ℕ) → Read (List (List ℕ))
keeps wanted row lists = Ok (kept_lists wanted row lists)

kept_of_is : (wanted : Wanted) (stream : List ℕ) (total : ℕ) (believed : Bool) (row : DataRow)
    → kept_of wanted stream total believed row ≡ (places_of stream total believed row >>= keeps wanted row)
unfolding kept_of kept_places places_of
kept_of_is wanted stream total believed row =
    kept_by (nat_eq row.id_size 0) (places_without_ids total believed row.groups) (places stream total row.id_size (map known_of row.groups))
    (λ lists. kept lists (map (is_counted wanted) row.groups))

-- a data group
abbrev pub keeps_found : Wanted → DataRow → DataFound × ℕ → Read (DataFound × ℕ)
keeps_found wanted row found = Ok (kept_found wanted row found.0, found.1)

module _ (wanted : Wanted) (file : List ℕ) (row : DataRow) (number : ℕ) where
  abbrev found_made : List Part → List (List ℕ) → Bool → List Found → Read DataFound
  found_made parts lists strict groups = Ok (record { view = parts; lists = lists; groups = groups; strict = strict })

  abbrev numbered : ℕ → DataFound → Read (DataFound × ℕ)
  numbered next found = Ok (found, next)

  made_so : (parts : List Part) (lists : List (List ℕ)) (strict : Bool) (next : ℕ) (groups : Read (List Found))
      → ((groups >>= found_made parts (kept_lists wanted row lists) strict) >>= numbered next)
      ≡ (((groups >>= found_made parts lists strict) >>= numbered next) >>= keeps_found wanted row)
  made_so parts lists strict next (Ok groups) = refl
  made_so parts lists strict next (Err refusal) = refl

  abbrev last_of : List Part → List (List ℕ) → ℕ → Read (DataFound × ℕ)
  last_of parts lists next = data_at file parts row lists >>= numbered next

  last_so : (parts : List Part) (lists : List (List ℕ)) (next : ℕ)
      → last_of parts (kept_lists wanted row lists) next ≡ (last_of parts lists next >>= keeps_found wanted row)
  unfolding data_at
  last_so parts lists next =
      let fewer : List (List ℕ) = kept_lists wanted row lists in
      let is = is_kept wanted row lists in
      let total = stream_size parts in
      let all = groups_found file (record { parts = parts; groups = row.groups; lists = lists }) in
      ap (λ (groups : Read (List Found)). (groups >>= found_made parts fewer (is_strict row total fewer)) >>= numbered next)
      (groups_same file wanted parts row.groups lists fewer is)
      ∙ ap (λ (strict : Bool). (all >>= found_made parts fewer strict) >>= numbered next) (strict_same lists fewer is.long row total)
      ∙ made_so parts lists (is_strict row total lists) next all

  abbrev rest_of : List Part → List (List ℕ) → Read (DataFound × ℕ)
  rest_of parts lists = counted lists row.groups number >>= last_of parts lists

  rest_so : (parts : List Part) (read : Read (List (List ℕ)))
      → ((read >>= keeps wanted row) >>= rest_of parts) ≡ ((read >>= rest_of parts) >>= keeps_found wanted row)
  rest_so parts (Ok lists) =
      let fewer : List (List ℕ) = kept_lists wanted row lists in
      ap (λ (next : Read ℕ). next >>= last_of parts fewer) (counted_same lists fewer (is_kept wanted row lists).long row.groups number)
      ∙ then_turned (keeps_found wanted row) (counted lists row.groups number) (last_of parts lists) (last_of parts fewer) (last_so parts lists)
  rest_so parts (Err refusal) = refl

  pub data_kept_is : data_kept wanted file row number ≡ (data_found file row number >>= keeps_found wanted row)
  unfolding data_kept data_found
  data_kept_is =
      let parts = data_parts file Dt row.content in
      let lists : List Part → Read (List (List ℕ)) = λ parts. places_of (stream_of file parts) (stream_size parts) true row in
      let fewer : List Part → Read (List (List ℕ)) = λ parts. kept_of wanted (stream_of file parts) (stream_size parts) true row in
      let finds : List Part → Read (DataFound × ℕ) = λ parts. lists parts >>= rest_of parts in
      let finds_kept : List Part → Read (DataFound × ℕ) = λ parts. fewer parts >>= rest_of parts in
      then_turned (keeps_found wanted row) (layouts row) (λ _. parts >>= finds) (λ _. parts >>= finds_kept)
      (λ _. then_turned (keeps_found wanted row) parts finds finds_kept
      (λ parts. ap (λ (read : Read (List (List ℕ))). read >>= rest_of parts) (kept_of_is wanted (stream_of file parts) (stream_size parts) true row)
      ∙ rest_so parts (lists parts)))

-- where every group is wanted, all is kept
every_kept : (lists : List (List ℕ)) (groups : List GroupRow) → kept lists (map (is_counted wants.Every) groups) ≡ lists
every_kept [] groups = refl
every_kept (list ∷ lists) [] = refl
every_kept (list ∷ lists) (group ∷ groups) = ap (λ (rest : List (List ℕ)). list ∷ rest) (every_kept lists groups)

either_kept : (b : Bool) (lists : List (List ℕ)) (groups : List GroupRow) → (if b then lists else kept lists (map (is_counted wants.Every) groups)) ≡ lists
either_kept true lists groups = refl
either_kept false lists groups = every_kept lists groups

every_list : (row : DataRow) (lists : List (List ℕ)) → kept_lists wants.Every row lists ≡ lists
every_list row lists = either_kept (nat_eq row.id_size 0) lists row.groups

every_read : (row : DataRow) (read : Read (List (List ℕ))) → (read >>= keeps wants.Every row) ≡ read
every_read row (Ok lists) = ap {B = Read (List (List ℕ))} (λ (all : List (List ℕ)). Ok all) (every_list row lists)
every_read row (Err refusal) = refl

pub every_place : (stream : List ℕ) (total : ℕ) (believed : Bool) (row : DataRow)
    → kept_of wants.Every stream total believed row ≡ places_of stream total believed row
every_place stream total believed row = kept_of_is wants.Every stream total believed row ∙ every_read row (places_of stream total believed row)

pub every_found : (row : DataRow) (found : DataFound) → kept_found wants.Every row found ≡ found
every_found row found = ap (λ (lists : List (List ℕ)). record found { lists = lists }) (every_list row found.lists)
