-- Groups whose record ids are counted from one on are found by their ids.
use Rattle.std.proofs.Common.{◌≡◌, ◌≢◌, ◌+◌, ◌<◌, ℕ, zero, suc, List, [], ◌∷◌, length, get_or, map, Some, ◌∙◌, ap, arith}
use Rattle.std.proofs.lemmas.Bool.{eq-eqb, ne_eqb, cond-true, cond-false}
use Rattle.std.specs.Prelude.{nat_eq}
use Rattle.mdf_data.specs.Record.{group_of}
use Rattle.mdf_group.specs.declared.row.GroupRow.{GroupRow}
use Rattle.mdf_content.specs.Records.{size_of, known_of}

-- the record ids are counted from one on
abbrev pub AreNumbered : ℕ → List GroupRow → Type 0
AreNumbered id [] = Unit {0}
AreNumbered id (group ∷ groups) = (group.id ≡ id) × AreNumbered (id + 1) groups

pub numbered_found : (groups : List GroupRow) (id from k : ℕ) (d : GroupRow) → AreNumbered id groups → k < length groups
    → group_of (map known_of groups) (id + k) from ≡ Some (record { which = from + k; size = size_of (get_or groups k d) })
unfolding group_of
numbered_found [] id from k d are below = absurd (omega (arith, below))
numbered_found (group ∷ groups) id from zero d are below =
    let same : group.id ≡ id + 0 = are.0 ∙ omega arith in
    let here : from ≡ from + 0 = omega arith in
    cond-true (nat_eq group.id (id + 0)) (Some (record { which = from; size = size_of group })) (group_of (map known_of groups) (id + 0) (from + 1))
    (eq-eqb group.id (id + 0) same)
    ∙ ap (λ (n : ℕ). Some (record { which = n; size = size_of group })) here
numbered_found (group ∷ groups) id from (suc k) d are below =
    let other : group.id ≢ id + suc k = λ same. omega (arith, are.0, same) in
    let next : id + suc k ≡ id + 1 + k = omega arith in
    let behind : from + 1 + k ≡ from + suc k = omega arith in
    cond-false (nat_eq group.id (id + suc k)) (Some (record { which = from; size = size_of group })) (group_of (map known_of groups) (id + suc k) (from + 1))
    (ne_eqb group.id (id + suc k) other)
    ∙ ap (λ (n : ℕ). group_of (map known_of groups) n (from + 1)) next
    ∙ numbered_found groups (id + 1) (from + 1) k d are.1 (omega (arith, below))
    ∙ ap (λ (n : ℕ). Some (record { which = n; size = size_of (get_or groups k d) })) behind

-- those that are counted from 1 on, in a list that is counted from 0 on
from_zero : (k : ℕ) → 0 + k ≡ k
from_zero k = omega arith

pub numbered_at : (groups : List GroupRow) (n k : ℕ) (d : GroupRow) → AreNumbered 1 groups → k < length groups → n ≡ 1 + k
    → group_of (map known_of groups) n 0 ≡ Some (record { which = k; size = size_of (get_or groups k d) })
numbered_at groups n k d are below same =
    ap (λ (m : ℕ). group_of (map known_of groups) m 0) same
    ∙ numbered_found groups 1 0 k d are below
    ∙ ap (λ (m : ℕ). Some (record { which = m; size = size_of (get_or groups k d) })) (from_zero k)
