-- The whole records of a stream have no more bytes in all than it has, and of each group there are as many as a number of 8 bytes says.
use Rattle.std.proofs.Common.{◌≡◌, ◌≢◌, ◌+◌, ◌-◌, ◌*◌, ◌/◌, ◌^◌, ◌<◌, ◌≤◌, ℕ, zero, suc, Bool, true, false, List, [], ◌∷◌, length, map, Option, Some, None, Ok, Err, refl, ◌∙◌, ap, subst, inl, inr, arith}
use Rattle.std.proofs.Math.Nat.{div-mul-le_self, div-le_of_le-mul}
use Rattle.std.proofs.lemmas.Bool.{eqb-true, eqb-false, ne_eqb}
use Rattle.std.proofs.lemmas.List.{length-map}
use Rattle.std.proofs.lemmas.List.Sums.{count_by-le-length, sum_by-cons}
use Rattle.std.specs.Prelude.{nat_eq, if◌then◌else◌}
use Rattle.std.specs.List.{AllByRecursion}
use Rattle.mdf_format.specs.declared.kind.Kind.TheVariants.{Dt}
use Rattle.mdf_block.specs.Refusal.{Read}
use Rattle.mdf_block.proofs.Cases.{some_injective}
use Rattle.mdf_block.proofs.Wholes.{chosen}
use Rattle.mdf_stream.specs.declared.part.Part.{Part}
use Rattle.mdf_stream.specs.Link.{data_parts}
use Rattle.mdf_stream.specs.Parts.{stream_of, stream_size}
use Rattle.mdf_stream.proofs.Counts.{stream_few}
use Rattle.mdf_stream.proofs.Insides.{data_inside}
use Rattle.mdf_stream.proofs.Joins.{length-stream}
use Rattle.mdf_data.specs.declared.known.Known.{Known}
use Rattle.mdf_data.specs.declared.known.Piece.{Piece}
use Rattle.mdf_data.specs.Places.{places_alone}
use Rattle.mdf_data.specs.Record.{piece_at}
use Rattle.mdf_content.specs.Layouts.{has_id_size}
use Rattle.mdf_content.specs.Records.{empties_of, known_of, record_size, size_of}
use Rattle.mdf_group.specs.Group.{is_variable}
use Rattle.mdf_group.specs.declared.row.DataRow.{DataRow}
use Rattle.mdf_group.specs.declared.row.GroupRow.{GroupRow}
use Rattle.tool_complete.specs.Completed.{Split, split_by, split_of}
use Rattle.tool_complete.specs.Records.{count_alone, count_of, found_before, if_whole, is_of, piece_alone, size_of_all, whole_alone, whole_from, whole_records}
use Rattle.tool_complete.proofs.Counts.{piece_there}
use Rattle.tool_complete.proofs.Tallies.{alone_long, alone_size}

-- records of a stream of so many bytes
pub record AreFew (total : ℕ) (found : List Piece) : Type 0 where
  pub sized : size_of_all found ≤ total
  pub each : (k : ℕ) → count_of k found < 2 ^ 64

counted_few : (k : ℕ) (found : List Piece) → length found < 2 ^ 64 → count_of k found < 2 ^ 64
counted_few k found few = omega (arith, few, count_by-le-length (is_of k) found)

module _ (stream : List ℕ) (id_size : ℕ) (known : List Known) (some : 1 ≤ id_size) where
  abbrev behind : ℕ → ℕ → List Piece
  behind most at = whole_from stream (length stream) id_size known most at

  -- records from a place on
  record AreWithin (at : ℕ) (found : List Piece) : Type 0 where
    sized : at + size_of_all found ≤ length stream
    few : length found ≤ size_of_all found

  none_within : (at : ℕ) → at ≤ length stream → AreWithin at []
  none_within at within = record { sized = omega (arith, within); few = omega arith }

  more_within : (most at : ℕ) (read : Read (Option Piece)) → at ≤ length stream → piece_at stream id_size known at (length stream - at) ≡ read
      → ((place : ℕ) → place ≤ length stream → AreWithin place (behind most place)) → AreWithin at (found_before (behind most) (if_whole read))
  more_within most at (Ok (Some piece)) within is follow =
      let there = piece_there stream id_size known some at piece is in
      let rest = follow (piece.at + piece.len) (omega (arith, there.begins, there.ends)) in
      let one = sum_by-cons (λ (p : Piece). p.len) piece (behind most (piece.at + piece.len)) in
      record { sized = omega (arith, there.begins, one, rest.sized); few = omega (arith, one, rest.few, there.long, some) }
  more_within most at (Ok None) within is follow = none_within at within
  more_within most at (Err refusal) within is follow = none_within at within

  all_within : (most at : ℕ) → at ≤ length stream → AreWithin at (behind most at)
  unfolding whole_from
  all_within zero at within = none_within at within
  all_within (suc most) at within = more_within most at (piece_at stream id_size known at (length stream - at)) within refl (all_within most)

-- of a stream with ids
ids_few : (stream : List ℕ) (n : ℕ) (known : List Known) → length stream < 2 ^ 64
    → AreFew (length stream) (whole_from stream (length stream) (suc n) known (length stream + 1) 0)
ids_few stream n known short =
    let found = whole_from stream (length stream) (suc n) known (length stream + 1) 0 in
    let all = all_within stream (suc n) known (omega arith) (length stream + 1) 0 (omega arith) in
    record { sized = omega (arith, all.sized); each = λ k. counted_few k found (omega (arith, all.sized, all.few, short)) }

many_times : (n total : ℕ) → n ≢ 0 → total ≤ n * total
many_times zero total some = absurd (some refl)
many_times (suc n) total some =
    let more : suc n * total ≡ total + n * total = grind arith in
    omega (arith, more)

abbrev pub IsCyclesFew : GroupRow → Type 0
IsCyclesFew group = group.cycles < 2 ^ 64

-- of a stream without
alone_few : (total : ℕ) (group : GroupRow) → total < 2 ^ 64 → IsCyclesFew group
    → (count_alone total group * record_size group ≤ total) × (count_alone total group < 2 ^ 64)
alone_few total group short few = by_test (is_variable group) (nat_eq (record_size group) 0) (record_size group) refl
  where
    by_test : (v z : Bool) (n : ℕ) → nat_eq n 0 ≡ z
        → ((if v then 0 else (if z then group.cycles else total / n)) * n ≤ total) × ((if v then 0 else (if z then group.cycles else total / n)) < 2 ^ 64)
    by_test true z n is = (omega arith, omega arith)
    by_test false true n is =
        let none : n ≡ 0 = eqb-true n 0 is in
        let empty : group.cycles * n ≡ 0 = rw none (omega arith) in
        (omega (arith, empty), few)
    by_test false false n is =
        let some = eqb-false n 0 is in
        let whole : total / n * n ≤ total = div-mul-le_self total n in
        let most : total / n ≤ total = div-le_of_le-mul n (many_times n total some) in
        (whole, omega (arith, most, short))

groups_few : (total : ℕ) (groups : List GroupRow) → total < 2 ^ 64 → AllByRecursion IsCyclesFew groups → AreFew total (whole_alone total groups)
groups_few total [] short few = record { sized = omega arith; each = λ k. omega arith }
groups_few total (group ∷ groups) short few =
    let places = places_alone total (empties_of group.cycles group) (size_of group) in
    let long = alone_long total group in
    let bounds = alone_few total group short few.0 in
    let sized : size_of_all (map (piece_alone group) places) ≡ count_alone total group * record_size group =
    alone_size group places ∙ ap (λ (n : ℕ). n * record_size group) long in
    record {
      sized = omega (arith, sized, bounds.0);
      each = λ k. counted_few k (map (piece_alone group) places) (omega (arith, length-map places (piece_alone group), long, bounds.1));
    }

-- of the stream of a data group
row_few : (stream : List ℕ) (row : DataRow) → length stream < 2 ^ 64 → AllByRecursion IsCyclesFew row.groups
    → AreFew (length stream) (whole_records stream (length stream) row)
unfolding whole_records
row_few stream row short few = by_size row.id_size
  where
    by_size : (n : ℕ)
        → AreFew (length stream)
        (if nat_eq n 0 then whole_alone (length stream) row.groups else whole_from stream (length stream) n (map known_of row.groups) (length stream + 1) 0)
    by_size zero = groups_few (length stream) row.groups short few
    by_size (suc n) =
        let some : nat_eq (suc n) 0 ≡ false = ne_eqb (suc n) 0 (λ none. omega (arith, none)) in
        rw some (ids_few stream n (map known_of row.groups) short)

module _ (file : List ℕ) (row : DataRow) (short : length file < 2 ^ 44) (few : AllByRecursion IsCyclesFew row.groups) where
  of_parts : (parts : List Part) → data_parts file Dt row.content ≡ Ok parts
      → AreFew (stream_size parts) (whole_records (stream_of file parts) (stream_size parts) row)
  of_parts parts is =
      let stream = stream_of file parts in
      let long : length stream ≡ stream_size parts = length-stream file parts (data_inside file Dt row.content parts is) in
      let most = stream_few file Dt row.content parts is in
      subst (λ (total : ℕ). AreFew total (whole_records stream total row)) long (row_few stream row (omega (arith, long, most, short)) few)

  by_parts : (split : Split) (read : Read (List Part)) → data_parts file Dt row.content ≡ read → split_by file row read ≡ Some split → AreFew split.total split.records
  by_parts split (Ok parts) is found = subst (λ (s : Split). AreFew s.total s.records) (some_injective _ split found) (of_parts parts is)
  by_parts split (Err refusal) is found = let wrong : ◌≡◌ {A = Option Split} None (Some split) = found in cc

  pub split_few : (split : Split) → split_of file row ≡ Some split → AreFew split.total split.records
  unfolding split_of
  split_few split found =
      elim (chosen (has_id_size row) (split_by file row (data_parts file Dt row.content)) None (Some split) found) [
        | inl sized ↦ by_parts split (data_parts file Dt row.content) refl sized.1
        | inr other ↦ let wrong : ◌≡◌ {A = Option Split} None (Some split) = other.1 in cc
      ]
