-- The records of a data group and where they are in its stream, with ids and without.
use Rattle.std.proofs.Common.{◌≡◌, ◌≢◌, ◌≤◌, ℕ, List, [], ◌∷◌, length, map, Ok, Err, refl, sym, ◌∙◌, ap, subst, inl, inr, arith}
use Rattle.std.specs.Prelude.{Bool, true, nat_eq, nat_le, nat_lt, ◌&&◌, ◌||◌}
use Rattle.std.proofs.lemmas.Bool.{eqb-true, eqb-false, eq-eqb, leb-true, le-leb, and_parts, and_from, or_cases, or_left}
use Rattle.mdf_block.specs.declared.what.What.TheVariants as whats
use Rattle.mdf_block.specs.Refusal.{TooMany, Read}
use Rattle.mdf_block.proofs.Refusals.{bind_ok}
use Rattle.mdf_block.proofs.Wholes.{chosen}
use Rattle.mdf_data.specs.Places.{places, places_alone}
use Rattle.mdf_data.specs.Split.{alone_at}
use Rattle.mdf_data.proofs.Alones.{alones_found}
use Rattle.mdf_group.specs.declared.row.GroupRow.{GroupRow}
use Rattle.mdf_group.specs.declared.row.DataRow.{DataRow}
use Rattle.mdf_content.specs.Layouts.{has_id_size}
use Rattle.mdf_content.specs.Records.{size_of, known_of, said_by, empties_of, places_of_one, places_without_ids, places_of}
use Rattle.mdf_content.proofs.Rooms.{room_alone}
use Rattle.mdf_data.specs.Bodies.{bodies}
use Rattle.mdf_model.specs.Contents.{HasIdSize, empties_in}
use Rattle.mdf_data.proofs.Bodies.{bodies_at, AreSplitAt, places_found, alone_bodies, first_alone}
use Rattle.mdf_block.proofs.Cases.{ok_injective}

-- what the test of an id size says
pub id_size_is : (row : DataRow) → has_id_size row ≡ true → HasIdSize row
id_size_is row has =
    elim (or_cases _ _ has) [
      | inl none ↦
          let both = and_parts _ _ none in inr (eqb-true row.id_size 0 both.0, leb-true (length row.groups) 1 both.1)
      | inr some ↦ inl (elim (or_cases _ _ some) [
        | inl one ↦ inl (eqb-true row.id_size 1 one)
        | inr more ↦ elim (or_cases _ _ more) [
          | inl two ↦ inr (inl (eqb-true row.id_size 2 two))
          | inr last ↦ elim (or_cases _ _ last) [
            | inl four ↦ inr (inr (inl (eqb-true row.id_size 4 four)))
            | inr eight ↦ inr (inr (inr (eqb-true row.id_size 8 eight)))
          ]
        ]
      ])
    ]

abbrev tested : ℕ → ℕ → Bool
tested n groups = (nat_eq n 0 && nat_le groups 1) || (nat_eq n 1 || (nat_eq n 2 || (nat_eq n 4 || nat_eq n 8)))

pub id_size_from : (row : DataRow) → HasIdSize row → has_id_size row ≡ true
id_size_from row (inl (inl is)) = ap (λ (n : ℕ). tested n (length row.groups)) is
id_size_from row (inl (inr (inl is))) = ap (λ (n : ℕ). tested n (length row.groups)) is
id_size_from row (inl (inr (inr (inl is)))) = ap (λ (n : ℕ). tested n (length row.groups)) is
id_size_from row (inl (inr (inr (inr is)))) = ap (λ (n : ℕ). tested n (length row.groups)) is
id_size_from row (inr few) = or_left _ _ (and_from _ _ (eq-eqb row.id_size 0 few.0) (le-leb (length row.groups) 1 few.1))

alone_split : (stream : List ℕ) (said : ℕ) (group : GroupRow) (found : List ℕ)
    → places_alone (length stream) (empties_of said group) (size_of group) ≡ found
    → AreSplitAt stream 0 (known_of group ∷ []) (empties_of said group) (found ∷ [])
alone_split stream said group found is =
    let empties = empties_of said group in
    let size = size_of group in
    let split = alones_found stream (known_of group) [] empties in
    let records = map (alone_at stream size) (places_alone (length stream) empties size) in
    let same : bodies_at stream size found ≡ bodies 0 records 0 = ap (bodies_at stream size) (sym is) ∙ alone_bodies stream size empties in
    record {
      records = records;
      rest = split.0;
      split = split.1;
      whole = λ some. absurd (some refl);
      room = λ k d below. room_alone (length stream) empties size (group ∷ []) group found (omega arith) refl refl (sym is) k d [] below;
      places = first_alone stream (known_of group) found records same;
    }

one_found : (stream : List ℕ) (said : ℕ) (group : GroupRow) (found : List ℕ) → places_of_one (length stream) said group ≡ Ok found
    → places_alone (length stream) (empties_of said group) (size_of group) ≡ found
one_found stream said group found is =
    elim (chosen (nat_lt 268435456 (empties_of said group)) (Err (TooMany whats.Sample group.at))
    (Ok (places_alone (length stream) (empties_of said group) (size_of group))) (Ok found) is) [
      | inl many ↦ let wrong : ◌≡◌ {A = Read (List ℕ)} (Err (TooMany whats.Sample group.at)) (Ok found) = many.1 in cc
      | inr few ↦ ok_injective _ found few.1
    ]

-- how many records without bytes a stream without ids has, where what its one group says is believed or is not
abbrev pub empties_by : Bool → List GroupRow → ℕ
empties_by believed [] = 0
empties_by believed (group ∷ groups) = empties_of (said_by believed group) group

without_ids : (stream : List ℕ) (believed : Bool) (groups : List GroupRow) (lists : List (List ℕ)) → length groups ≤ 1
    → places_without_ids (length stream) believed groups ≡ Ok lists → AreSplitAt stream 0 (map known_of groups) (empties_by believed groups) lists
without_ids stream believed [] lists few is = record {
  records = [];
  rest = stream;
  split = record { records_are = refl; rest_is = refl };
  whole = λ some. absurd (some refl);
  room = λ k d below. absurd (omega (arith, below));
  places = λ k d below. absurd (omega (arith, below));
}
without_ids stream believed (group ∷ []) lists few is =
    let said = said_by believed group in
    let first = bind_ok (places_of_one (length stream) said group) (λ found. Ok (found ∷ [])) lists is in
    subst (AreSplitAt stream 0 (known_of group ∷ []) (empties_of said group)) (ok_injective (first.0 ∷ []) lists first.2)
    (alone_split stream said group first.0 (one_found stream said group first.0 first.1))
without_ids stream believed (group ∷ other ∷ groups) lists few is = absurd (omega (arith, few))

some_ids : (n : ℕ) → n ≢ 0 → 1 ≤ n
some_ids n some = grind (arith, some)

pub at_most_one : (row : DataRow) → HasIdSize row → row.id_size ≡ 0 → length row.groups ≤ 1
at_most_one row (inl some) none = grind (arith, some, none)
at_most_one row (inr few) none = few.1

-- the records of a data group
pub split_by : (believed : Bool) (row : DataRow) (stream : List ℕ) (lists : List (List ℕ)) → HasIdSize row
    → places_of stream (length stream) believed row ≡ Ok lists
    → AreSplitAt stream row.id_size (map known_of row.groups) (empties_by believed row.groups) lists
unfolding places_of
split_by believed row stream lists has is =
    let empties = empties_by believed row.groups in
    elim (chosen (nat_eq row.id_size 0) (places_without_ids (length stream) believed row.groups)
    (places stream (length stream) row.id_size (map known_of row.groups)) (Ok lists) is) [
      | inl none ↦
          let zero_size = eqb-true row.id_size 0 none.0 in
          subst (λ (n : ℕ). AreSplitAt stream n (map known_of row.groups) empties lists) (sym zero_size)
          (without_ids stream believed row.groups lists (at_most_one row has zero_size) none.1)
      | inr some ↦
          places_found stream row.id_size (map known_of row.groups) empties lists
          (some_ids row.id_size (eqb-false row.id_size 0 some.0)) some.1
    ]

empties_said : (groups : List GroupRow) → empties_by true groups ≡ empties_in groups
empties_said [] = refl
empties_said (group ∷ groups) = refl

pub split_found : (row : DataRow) (stream : List ℕ) (lists : List (List ℕ)) → HasIdSize row → places_of stream (length stream) true row ≡ Ok lists
    → AreSplitAt stream row.id_size (map known_of row.groups) (empties_in row.groups) lists
split_found row stream lists has is =
    subst (λ (n : ℕ). AreSplitAt stream row.id_size (map known_of row.groups) n lists) (empties_said row.groups) (split_by true row stream lists has is)
