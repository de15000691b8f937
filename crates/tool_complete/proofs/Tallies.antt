-- The loops that count the whole records of a stream.
use Rattle.std.proofs.Common.{◌≡◌, ◌≢◌, ◌+◌, ◌-◌, ◌*◌, ◌/◌, ◌<◌, ◌≤◌, ℕ, zero, suc, Bool, true, false, cond, List, [], ◌∷◌, length, get_or, set, replicate, map, Some, None, refl, sym, ◌∙◌, ap, subst, arith}
use Rattle.std.proofs.lemmas.Bool.{eqb-true, eqb-false, false≢true}
use Rattle.std.proofs.lemmas.List.{get_or-replicate, get_or-set_same, get_or-set_other}
use Rattle.std.proofs.lemmas.List.Sums.{sum_by-cons}
use Rattle.std.specs.Prelude.{nat_eq, not, ◌&&◌, if◌then◌else◌}
use Rattle.mdf_data.specs.declared.known.Known.{Known}
use Rattle.mdf_data.specs.declared.known.Piece.{Piece}
use Rattle.mdf_data.specs.Record.{IsIdSize, IsPieceAt, piece_at}
use Rattle.mdf_data.specs.declared.known.Size.TheVariants as sizes
use Rattle.mdf_data.proofs.Spreads.{moves_on}
use Rattle.mdf_data.proofs.Steps.{length-steps}
use Rattle.mdf_group.specs.Group.{is_variable}
use Rattle.mdf_group.specs.declared.row.GroupRow.{GroupRow}
use Rattle.mdf_content.specs.Records.{empties_of, record_size, size_of}
use Rattle.mdf_data.specs.Places.{places_alone}
use Rattle.tool_complete.specs.declared.tally.Tally.{Tally}
use Rattle.tool_complete.specs.Records.{IsTally, count_alone, count_of, found_before, if_whole, is_of, piece_alone, size_of_all, whole_alone, whole_from}

-- one count is more by one
counted_one : (counts : List ℕ) (w k : ℕ) → k < length counts → w < length counts
    → get_or (set counts w (get_or counts w 0 + 1)) k 0 ≡ get_or counts k 0 + cond (nat_eq w k) 1 0
counted_one counts w k below within = by_test (nat_eq w k) refl
  where
    by_test : (b : Bool) → nat_eq w k ≡ b → get_or (set counts w (get_or counts w 0 + 1)) k 0 ≡ get_or counts k 0 + cond b 1 0
    by_test true is =
        let same : w ≡ k = eqb-true w k is in
        subst (λ (n : ℕ). get_or (set counts w (get_or counts w 0 + 1)) n 0 ≡ get_or counts n 0 + 1) same
        (get_or-set_same counts w (get_or counts w 0 + 1) 0 within)
    by_test false is =
        let other : k ≢ w = λ same. eqb-false w k is (sym same) in
        let kept = get_or-set_other counts w k (get_or counts w 0 + 1) 0 other in
        omega (arith, kept)

one_at_most : (b : Bool) → cond b 1 0 ≤ 1
one_at_most true = omega arith
one_at_most false = omega arith

module _ (stream : List ℕ) (total id_size : ℕ) (known : List Known) (groups : ℕ) where
  -- what is counted so far, and from a place on, is the whole
  pub record LeadsTally (counts : List ℕ) (at : ℕ) (all : List Piece) : Type 0 where
    pub fuel : ℕ
    pub enough : total - at < fuel
    pub each : (k : ℕ) → k < groups → get_or counts k 0 + count_of k (whole_from stream total id_size known fuel at) ≡ count_of k all
    pub sized : at + size_of_all (whole_from stream total id_size known fuel at) ≡ size_of_all all

  pub tally_begins : LeadsTally (replicate groups 0) 0 (whole_from stream total id_size known (total + 1) 0)
  tally_begins =
      let all : List Piece = whole_from stream total id_size known (total + 1) 0 in
      let each : (k : ℕ) → k < groups → get_or (replicate groups 0) k 0 + count_of k all ≡ count_of k all =
      λ k below.
      let none : get_or (replicate groups 0) k 0 ≡ 0 = get_or-replicate groups k 0 0 below in
      let joins : 0 + count_of k all ≡ count_of k all = omega arith in
      ap (λ (n : ℕ). n + count_of k all) none ∙ joins in
      let enough : total - 0 < total + 1 = omega arith in
      let sized : 0 + size_of_all all ≡ size_of_all all = omega arith in
      record { fuel = total + 1; enough = enough; each = each; sized = sized }

  -- the records behind one
  abbrev behind : Piece → ℕ → List Piece
  behind piece fuel = whole_from stream total id_size known fuel (piece.at + piece.len)

  -- one more record is counted
  pub tally_more : (counts next : List ℕ) (at : ℕ) (piece : Piece) (all : List Piece) → IsIdSize id_size
      → if_whole (piece_at stream id_size known at (total - at)) ≡ Some piece → IsPieceAt total id_size known at piece
      → length counts ≡ groups → piece.which < groups → next ≡ set counts piece.which (get_or counts piece.which 0 + 1)
      → LeadsTally counts at all → LeadsTally next (piece.at + piece.len) all
  unfolding whole_from
  tally_more counts next at piece all is_size is stands long within added so_far =
      step so_far.fuel so_far.enough so_far.each so_far.sized
    where
      step : (fuel : ℕ) → total - at < fuel
          → ((k : ℕ) → k < groups → get_or counts k 0 + count_of k (whole_from stream total id_size known fuel at) ≡ count_of k all)
          → at + size_of_all (whole_from stream total id_size known fuel at) ≡ size_of_all all
          → LeadsTally next (piece.at + piece.len) all
      step zero enough each sized = absurd (omega (arith, enough))
      step (suc fuel) enough each sized =
          let more = moves_on total id_size known at piece is_size stands in
          let front : whole_from stream total id_size known (suc fuel) at ≡ piece ∷ behind piece fuel =
          ap (found_before (whole_from stream total id_size known fuel)) is in
          record {
            fuel = fuel;
            enough = omega (arith, enough, more, stands.begins, stands.ends);
            each = λ k below.
                let here = ap (λ (xs : List ℕ). get_or xs k 0) added ∙ counted_one counts piece.which k (omega (arith, below, long)) (omega (arith, within, long)) in
                let counted : count_of k (whole_from stream total id_size known (suc fuel) at) ≡ cond (nat_eq piece.which k) 1 0 + count_of k (behind piece fuel) =
                ap (count_of k) front ∙ sum_by-cons (λ (p : Piece). cond (is_of k p) 1 0) piece (behind piece fuel) in
                omega (arith, here, counted, each k below);
            sized =
                let added : size_of_all (whole_from stream total id_size known (suc fuel) at) ≡ piece.len + size_of_all (behind piece fuel) =
                ap size_of_all front ∙ sum_by-cons (λ (p : Piece). p.len) piece (behind piece fuel) in
                omega (arith, added, sized, stands.begins);
          }

  -- no group has more records than they have bytes
  pub small_more : (counts next : List ℕ) (at : ℕ) (piece : Piece) → IsIdSize id_size → IsPieceAt total id_size known at piece → length counts ≡ groups
      → piece.which < groups → next ≡ set counts piece.which (get_or counts piece.which 0 + 1) → ((k : ℕ) → k < groups → get_or counts k 0 ≤ at)
      → (k : ℕ) → k < groups → get_or next k 0 ≤ piece.at + piece.len
  small_more counts next at piece is_size stands long within added small k below =
      let more = moves_on total id_size known at piece is_size stands in
      let here : get_or next k 0 ≡ get_or counts k 0 + cond (nat_eq piece.which k) 1 0 =
      ap (λ (xs : List ℕ). get_or xs k 0) added ∙ counted_one counts piece.which k (omega (arith, below, long)) (omega (arith, within, long)) in
      let few : cond (nat_eq piece.which k) 1 0 ≤ 1 = one_at_most (nat_eq piece.which k) in
      omega (arith, here, few, more, stands.begins, small k below)

  -- no record is there any more
  pub tally_ends : (counts : List ℕ) (at : ℕ) (all : List Piece)
      → if_whole (piece_at stream id_size known at (total - at)) ≡ None
      → LeadsTally counts at all → ((k : ℕ) → k < groups → get_or counts k 0 ≡ count_of k all) × (at ≡ size_of_all all)
  unfolding whole_from
  tally_ends counts at all none so_far = (
    λ k below. let ended = ap (count_of k) (nothing so_far.fuel) in omega (arith, ended, so_far.each k below),
    let ended = ap size_of_all (nothing so_far.fuel) in omega (arith, ended, so_far.sized),
  )
    where
      nothing : (fuel : ℕ) → whole_from stream total id_size known fuel at ≡ []
      nothing zero = refl
      nothing (suc fuel) = ap (found_before (whole_from stream total id_size known fuel)) none

-- the records of a group that stands alone
pub alone_count : (group : GroupRow) (places : List ℕ) → count_of 0 (map (piece_alone group) places) ≡ length places
alone_count group [] = refl
alone_count group (place ∷ places) =
    let one = sum_by-cons (λ (p : Piece). cond (is_of 0 p) 1 0) (piece_alone group place) (map (piece_alone group) places) in
    omega (arith, one, alone_count group places)

pub alone_size : (group : GroupRow) (places : List ℕ) → size_of_all (map (piece_alone group) places) ≡ length places * record_size group
alone_size group [] = omega arith
alone_size group (place ∷ places) =
    let size = record_size group in
    let one : size_of_all (map (piece_alone group) (place ∷ places)) ≡ size + size_of_all (map (piece_alone group) places) =
    sum_by-cons (λ (p : Piece). p.len) (piece_alone group place) (map (piece_alone group) places) in
    let many : suc (length places) * size ≡ size + length places * size = grind arith in
    one ∙ ap (λ (n : ℕ). size + n) (alone_size group places) ∙ sym many

-- how many records a group that stands alone has
pub alone_long : (total : ℕ) (group : GroupRow) → length (places_alone total (empties_of group.cycles group) (size_of group)) ≡ count_alone total group
alone_long total group = by_test (is_variable group) (nat_eq (record_size group) 0) (record_size group) refl
  where
    by_test : (v z : Bool) (n : ℕ) → nat_eq n 0 ≡ z
        → length (places_alone total (if not v && z then group.cycles else 0) (if v then sizes.Variable else sizes.Fixed n))
        ≡ (if v then 0 else (if z then group.cycles else total / n))
    by_test true z n is = refl
    by_test false true n is = rw is (length-steps group.cycles 0 0)
    by_test false false n is = rw is (length-steps (total / n) n 0)

-- the count of the one group of a stream without ids
pub alone_tally : (total : ℕ) (groups : List GroupRow) (group : GroupRow) (tally : Tally) → length groups < 2 → false ≡ nat_eq (length groups) 0
    → group ≡ get_or groups 0 group → tally.counts ≡ count_alone total group ∷ [] → tally.whole ≡ count_alone total group * record_size group
    → IsTally (length groups) (whole_alone total groups) tally
alone_tally total [] group tally few some is counted sized = absurd (false≢true some)
alone_tally total (first ∷ []) group tally few some is counted sized =
    let places = places_alone total (empties_of first.cycles first) (size_of first) in
    let long : count_alone total group ≡ length places = ap (count_alone total) is ∙ sym (alone_long total first) in
    record {
      each = λ k below.
          let none : k ≡ 0 = omega (arith, below) in
          ap (λ (n : ℕ). get_or tally.counts n 0) none
          ∙ ap (λ (counts : List ℕ). get_or counts 0 0) counted
          ∙ long
          ∙ sym (alone_count first places)
          ∙ ap (λ (n : ℕ). count_of n (map (piece_alone first) places)) (sym none);
      all = ap (length {A = ℕ}) counted;
      whole = sized
          ∙ ap (λ (g : GroupRow). count_alone total group * record_size g) is
          ∙ ap (λ (n : ℕ). n * record_size first) long
          ∙ sym (alone_size first places);
    }
alone_tally total (first ∷ second ∷ rest) group tally few some is counted sized = absurd (omega (arith, few))
