-- The numbers of groups, and the groups that they lead to.
use Rattle.std.proofs.Common.{◌≡◌, ◌<◌, ◌+◌, ℕ, zero, suc, arith, inl, inr, List, [], ◌∷◌, ◌++◌, length, take, map, Option, Some, None, refl, sym, ◌∙◌, ap, subst, append_assoc, append-nil}
use Rattle.std.specs.Prelude.{slice_get}
use Rattle.std.specs.List.{flat_map, zip, AllByRecursion}
use Rattle.std.specs.Option.{option_and_then, option_map, option_to_list}
use Rattle.std.proofs.lemmas.List.{length-map, map-append, take_more}
use Rattle.std.proofs.lemmas.List.Concat.{flat_map-append}
use Rattle.std.proofs.lemmas.Option.{slice_get-map, slice_get_within, get_or_from_slice_get, same_Some, slice_get_cases}
use Rattle.mdf_stream.specs.Parts.{ArePartsInside}
use Rattle.mdf_group.specs.declared.row.DataRow.{DataRow}
use Rattle.mdf_group.specs.declared.row.GroupRow.{GroupRow}
use Rattle.mdf_content.specs.Found.{IsFoundInside, IsGroupInside}
use Rattle.mdf_content.specs.declared.found.DataFound.{DataFound}
use Rattle.mdf_content.specs.declared.found.Found.{Found}
use Rattle.mdf_model.specs.declared.whole.WholeFound.{WholeFound}
use Rattle.mdf_paged.specs.declared.index.GroupNumber.{GroupNumber}
use Rattle.mdf_paged.specs.Groups.{Located, group_at, group_rows, groups_of, located, row_at, row_of, rows_in}
use Rattle.mdf_block.proofs.Items.{all_get}

-- a number leads to a group
pub record IsThere (parent : Option DataFound) (k : ℕ) (place : Located) : Type 0 where
  pub data_is : parent ≡ Some place.parent
  pub group_is : slice_get place.parent.groups k ≡ Some place.group

some_located : (parent : DataFound) (group : Option Found) (place : Located) → option_map (located parent) group ≡ Some place
    → (parent ≡ place.parent) × (group ≡ Some place.group)
some_located parent None place is = let wrong : ◌≡◌ {A = Option Located} None (Some place) = is in cc
some_located parent (Some group) place is =
    let same : located parent group ≡ place = (let one : Some (located parent group) ≡ Some place = is in cc) in
    (ap (λ (z : Located). z.parent) same, ap (λ (z : Located). Some z.group) same)

pub leads_to : (parent : Option DataFound) (k : ℕ) (place : Located)
    → option_and_then (λ (parent : DataFound). option_map (located parent) (slice_get parent.groups k)) parent ≡ Some place → IsThere parent k place
leads_to None k place is = let wrong : ◌≡◌ {A = Option Located} None (Some place) = is in cc
leads_to (Some parent) k place is =
    let both = some_located parent (slice_get parent.groups k) place is in record {
      data_is = ap Some both.0;
      group_is = ap (λ (d : DataFound). slice_get d.groups k) (sym both.0) ∙ both.1;
    }

some_both : {A : Type 0} (x y : Option A) → Some y ≡ option_map Some x → x ≡ y
some_both None y is = let wrong : Some y ≡ None = is in cc
some_both (Some x) y is = let same : Some y ≡ Some (Some x) = is in cc

-- numbers that lead to the items of a list, in order
module _ {B : Type 0} (at : GroupNumber → Option B) where
  -- each leads to its own
  pub each_leads : (index : List GroupNumber) (items : List B) (k : ℕ) (number : GroupNumber)
      → map at index ≡ map Some items → slice_get index k ≡ Some number → slice_get items k ≡ at number
  each_leads index items k number are there =
      some_both (slice_get items k) (at number)
      (ap (option_map at) (sym there) ∙ sym (slice_get-map at index k) ∙ ap (λ (xs : List (Option B)). slice_get xs k) are ∙ slice_get-map Some items k)

  pub as_long : (index : List GroupNumber) (items : List B) → map at index ≡ map Some items → length index ≡ length items
  as_long index items are = sym (length-map index at) ∙ ap length are ∙ length-map items Some

  pub item_led : (index : List GroupNumber) (items : List B) (k : ℕ) (number : GroupNumber)
      → map at index ≡ map Some items → slice_get index k ≡ Some number → (one : B) × (slice_get items k ≡ Some one) × (at number ≡ Some one)
  item_led index items k number are there =
      let leads = each_leads index items k number are there in
      elim (slice_get_cases items k).1 [
        | inl one ↦ (one.0, one.2, sym leads ∙ one.2)
        | inr past ↦ absurd (omega (arith, slice_get_within index k number there, as_long index items are, past.0))
      ]

  -- one more number
  pub one_more : (index : List GroupNumber) (number : GroupNumber) (items : List B) (one : B) → map at index ≡ map Some items → at number ≡ Some one
      → map at (index ++ number ∷ []) ≡ map Some (items ++ one ∷ [])
  one_more index number items one so_far leads =
      map-append at index (number ∷ [])
      ∙ ap (λ (front : List (Option B)). front ++ at number ∷ []) so_far
      ∙ ap (λ (last : Option B). map Some items ++ last ∷ []) leads
      ∙ sym (map-append Some items (one ∷ []))

-- the first items of a list, and one more
take_next : {A : Type 0} (xs : List A) (k : ℕ) (one : A) → slice_get xs k ≡ Some one → take (k + 1) xs ≡ take k xs ++ one ∷ []
take_next xs k one there =
    take_more xs k one (slice_get_within xs k one there)
    ∙ ap (λ x. take k xs ++ x ∷ []) (get_or_from_slice_get xs k one one there)

pub flat_more : {A B : Type 0} (each : A → List B) (xs : List A) (k : ℕ) (one : A) → slice_get xs k ≡ Some one
    → flat_map each (take k xs) ++ each one ≡ flat_map each (take (k + 1) xs)
flat_more {A} {B} each xs k one there =
    sym (ap (flat_map each) (take_next xs k one there) ∙ flat_map-append each (take k xs) (one ∷ [])
    ∙ ap (λ (rest : List B). flat_map each (take k xs) ++ rest) (append-nil (each one)))

-- two lists side by side
pub zip_there : {A B : Type 0} (xs : List A) (ys : List B) (k : ℕ) (x : A) (y : B) → slice_get xs k ≡ Some x → slice_get ys k ≡ Some y
    → slice_get (zip xs ys) k ≡ Some (x, y)
zip_there {A} {B} [] ys k x y left right = let wrong : ◌≡◌ {A = Option A} None (Some x) = left in cc
zip_there {A} {B} (a ∷ xs) [] k x y left right = let wrong : ◌≡◌ {A = Option B} None (Some y) = right in cc
zip_there {A} {B} (a ∷ xs) (b ∷ ys) zero x y left right =
    ap (λ (z : A). Some (z, b)) (same_Some a x left) ∙ ap (λ (z : B). Some (x, z)) (same_Some b y right)
zip_there {A} {B} (a ∷ xs) (b ∷ ys) (suc k) x y left right = zip_there xs ys k x y left right

-- one more group of a data group
module _ (found : List DataFound) (parent k : ℕ) (one : DataFound) (index : List GroupNumber) (there : slice_get found parent ≡ Some one) where
  leads_here : (group : Found) → slice_get one.groups k ≡ Some group → group_at found (record { parent = parent; group = k }) ≡ Some (located one group)
  leads_here group here =
      ap (option_and_then (λ (parent : DataFound). option_map (located parent) (slice_get parent.groups k))) there ∙ ap (option_map (located one)) here

  pub next_group : (before : List Located) (group : Found) → slice_get one.groups k ≡ Some group
      → map (group_at found) index ≡ map Some (before ++ map (located one) (take k one.groups))
      → map (group_at found) (index ++ record { parent = parent; group = k } ∷ []) ≡ map Some (before ++ map (located one) (take (k + 1) one.groups))
  next_group before group here so_far =
      let front = map (located one) (take k one.groups) in
      one_more (group_at found) index (record { parent = parent; group = k }) (before ++ front) (located one group) so_far (leads_here group here)
      ∙ ap (map Some) (append_assoc before front (located one group ∷ []) ∙ ap (λ (rest : List Located). before ++ rest)
      (sym (ap (map (located one)) (take_next one.groups k group here) ∙ map-append (located one) (take k one.groups) (group ∷ []))))

  pub next_row : (rows : List DataRow) (data_row : DataRow) (before : List GroupRow) (group : Found) → slice_get rows parent ≡ Some data_row
      → slice_get one.groups k ≡ Some group → group.which < length data_row.groups
      → map (row_at rows found) index ≡ map Some (before ++ rows_in (data_row, record one { groups = take k one.groups }))
      → map (row_at rows found) (index ++ record { parent = parent; group = k } ∷ [])
      ≡ map Some (before ++ rows_in (data_row, record one { groups = take (k + 1) one.groups }))
  next_row rows data_row before group row_there here below so_far =
      elim (slice_get_cases data_row.groups group.which).1 [
        | inl row ↦
            let number : GroupNumber = record { parent = parent; group = k } in
            let each = λ (group : Found). option_to_list (row_of data_row group) in
            let front = flat_map each (take k one.groups) in
            let leads : row_at rows found number ≡ Some row.0 =
            ap (option_and_then (λ (data_row : DataRow). option_and_then (λ (place : Located). row_of data_row place.group) (group_at found number))) row_there
            ∙ ap (option_and_then (λ (place : Located). row_of data_row place.group)) (leads_here group here) ∙ row.2 in
            let last : each group ≡ row.0 ∷ [] = ap option_to_list row.2 in
            one_more (row_at rows found) index number (before ++ front) row.0 so_far leads
            ∙ ap (map Some) (append_assoc before front (row.0 ∷ []) ∙ ap (λ (rest : List GroupRow). before ++ rest)
            (ap (λ (rest : List GroupRow). front ++ rest) (sym last) ∙ flat_more each one.groups k group here))
        | inr past ↦ absurd (omega (arith, below, past.0))
      ]

-- the group that the numbers at a place of the index lead to, in all that is found
pub group_placed : (all found : WholeFound) (index : List GroupNumber) (k : ℕ) (number : GroupNumber) → all ≡ found
    → map (group_at all.found) index ≡ map Some (groups_of all) → slice_get index k ≡ Some number
    → (place : Located) × (slice_get (groups_of found) k ≡ Some place) × IsThere (slice_get all.found number.parent) number.group place
group_placed all found index k number same are there =
    let led = item_led (group_at all.found) index (groups_of all) k number are there in
    (led.0, ap (λ (a : WholeFound). slice_get (groups_of a) k) (sym same) ∙ led.1, leads_to (slice_get all.found number.parent) number.group led.0 led.2)

-- and its row
pub record IsRowThere (rows : List DataRow) (number : ℕ) (group : Found) (found : Option GroupRow) : Type 0 where
  pub data_row : DataRow
  pub row : GroupRow
  pub data_is : slice_get rows number ≡ Some data_row
  pub row_is : slice_get data_row.groups group.which ≡ Some row
  pub there : found ≡ Some row

row_there : (rows : List DataRow) (number : ℕ) (group : Found) (found : Option GroupRow) (row : GroupRow) (data_row : Option DataRow) → slice_get rows number ≡ data_row
    → option_and_then (λ (data_row : DataRow). row_of data_row group) data_row ≡ Some row → found ≡ Some row → IsRowThere rows number group found
row_there rows number group found row None is leads there = let wrong : ◌≡◌ {A = Option GroupRow} None (Some row) = leads in cc
row_there rows number group found row (Some data_row) is leads there = record { data_row = data_row; row = row; data_is = is; row_is = leads; there = there }

pub row_placed : (all found : WholeFound) (index : List GroupNumber) (k : ℕ) (number : GroupNumber) (place : Located) → all ≡ found
    → map (group_at all.found) index ≡ map Some (groups_of all) → map (row_at all.tree.rows all.found) index ≡ map Some (group_rows all)
    → slice_get index k ≡ Some number → slice_get (groups_of found) k ≡ Some place
    → IsRowThere all.tree.rows number.parent place.group (slice_get (group_rows found) k)
row_placed all found index k number place same groups_are rows_are there group_there =
    let rows = all.tree.rows in
    let led = item_led (row_at rows all.found) index (group_rows all) k number rows_are there in
    let leads : group_at all.found number ≡ Some place =
    sym (each_leads (group_at all.found) index (groups_of all) k number groups_are there)
    ∙ ap (λ (a : WholeFound). slice_get (groups_of a) k) same ∙ group_there in
    let row_leads : option_and_then (λ (data_row : DataRow). row_of data_row place.group) (slice_get rows number.parent) ≡ Some led.0 =
    ap (λ (found : Option Located). option_and_then (λ (data_row : DataRow). option_and_then (λ (place : Located). row_of data_row place.group) found) (slice_get rows number.parent))
    (sym leads) ∙ led.2 in
    row_there rows number.parent place.group (slice_get (group_rows found) k) led.0 (slice_get rows number.parent) refl row_leads
    (ap (λ (a : WholeFound). slice_get (group_rows a) k) (sym same) ∙ led.1)

module _ (found : List DataFound) (number k : ℕ) (place : Located) (leads : IsThere (slice_get found number) k place) where
  pub parent_below : number < length found
  parent_below = slice_get_within found number place.parent leads.data_is

  parent_same : (parent : DataFound) → slice_get found number ≡ Some parent → parent ≡ place.parent
  parent_same parent is = same_Some parent place.parent (sym is ∙ leads.data_is)

  pub group_below : (parent : DataFound) → slice_get found number ≡ Some parent → k < length parent.groups
  group_below parent is =
      subst (λ (d : DataFound). k < length d.groups) (sym (parent_same parent is)) (slice_get_within place.parent.groups k place.group leads.group_is)

  pub place_same : (parent : DataFound) (group : Found) → slice_get found number ≡ Some parent → slice_get parent.groups k ≡ Some group
      → place ≡ located parent group
  place_same parent group is here =
      let same : group ≡ place.group =
      same_Some group place.group (sym here ∙ ap (λ (d : DataFound). slice_get d.groups k) (parent_same parent is) ∙ leads.group_is) in
      sym (ap (λ (d : DataFound). located d group) (parent_same parent is) ∙ ap (located place.parent) same)

  pub place_inside : (size : ℕ) → AllByRecursion (IsFoundInside size) found
      → ArePartsInside size place.parent.view × IsGroupInside size place.parent.view place.parent.lists place.group
  place_inside size all =
      let inside = all_get (IsFoundInside size) found number place.parent leads.data_is all in
      (inside.view, all_get (IsGroupInside size place.parent.view place.parent.lists) place.parent.groups k place.group leads.group_is inside.groups)
