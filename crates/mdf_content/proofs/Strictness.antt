-- Groups that say what they have, each with its id.
use Rattle.std.proofs.Common.{◌≡◌, ◌≢◌, ◌+◌, ◌-◌, ◌<◌, ◌≤◌, ℕ, zero, suc, Bool, true, false, List, [], ◌∷◌, length, get_or, drop, refl, sym, ◌∙◌, ap, arith}
use Rattle.std.proofs.lemmas.List.{drop_all}
use Rattle.std.proofs.lemmas.Bool.{ne_eqb, eq-eqb}
use Rattle.std.specs.Prelude.{◌&&◌, ◌||◌, not, nat_eq, slice_index_or}
use Rattle.std.specs.List.{list_any}
use Rattle.mdf_block.proofs.Rests.{rest_is}
use Rattle.mdf_group.specs.declared.row.GroupRow.{GroupRow}
use Rattle.mdf_content.specs.Contents.{are_said, has_id, are_ids_apart}

pub said_step : (lists : List (List ℕ)) (groups : List GroupRow) (k : ℕ) (group : GroupRow) → k < length groups → group ≡ get_or groups k group
    → are_said lists k (drop k groups) ≡ (nat_eq group.cycles (length (slice_index_or lists k [])) && are_said lists (k + 1) (drop (k + 1) groups))
unfolding are_said
said_step lists groups k group below is = ap (are_said lists k) (rest_is groups k group below is)

pub said_done : (lists : List (List ℕ)) (groups : List GroupRow) (k : ℕ) → length groups ≤ k → are_said lists k (drop k groups) ≡ true
unfolding are_said
said_done lists groups k past = ap (are_said lists k) (drop_all k groups past)

apart_step : (groups : List GroupRow) (k : ℕ) (group : GroupRow) → k < length groups → group ≡ get_or groups k group
    → are_ids_apart (drop k groups) ≡ (not (list_any (has_id group.id) (drop (k + 1) groups)) && are_ids_apart (drop (k + 1) groups))
unfolding are_ids_apart
apart_step groups k group below is = ap are_ids_apart (rest_is groups k group below is)

pub apart_none : (groups : List GroupRow) (k : ℕ) → length groups ≤ k → are_ids_apart (drop k groups) ≡ true
unfolding are_ids_apart
apart_none groups k past = ap are_ids_apart (drop_all k groups past)

pub any_none : (groups : List GroupRow) (k id : ℕ) → length groups ≤ k → list_any (has_id id) (drop k groups) ≡ false
any_none groups k id past = ap (list_any (has_id id)) (drop_all k groups past)

and_false : (b : Bool) → (b && false) ≡ false
and_false true = refl
and_false false = refl

-- where the groups behind some have one id twice, so have all
pub apart_front : (k : ℕ) (groups : List GroupRow) → are_ids_apart (drop k groups) ≡ false → are_ids_apart groups ≡ false
unfolding are_ids_apart
apart_front zero groups twice = twice
apart_front (suc k) [] twice = twice
apart_front (suc k) (group ∷ groups) twice =
    ap (λ (rest : Bool). not (list_any (has_id group.id) groups) && rest) (apart_front k groups twice)
    ∙ and_false (not (list_any (has_id group.id) groups))

-- a group that says another number
pub said_other : (lists : List (List ℕ)) (groups : List GroupRow) (k found : ℕ) (group : GroupRow) → k < length groups → group ≡ get_or groups k group
    → found ≡ length (slice_index_or lists k []) → group.cycles ≢ found → are_said lists k (drop k groups) ≡ are_said lists 0 groups
    → false ≡ are_said lists 0 groups
said_other lists groups k found group below is counted other so_far =
    let differ : nat_eq group.cycles (length (slice_index_or lists k [])) ≡ false =
    ap (nat_eq group.cycles) (sym counted) ∙ ne_eqb group.cycles found other in
    sym
    (sym so_far
    ∙ said_step lists groups k group below is
    ∙ ap (λ (b : Bool). b && are_said lists (k + 1) (drop (k + 1) groups)) differ)

-- a group that says what it has
pub said_same : (lists : List (List ℕ)) (groups : List GroupRow) (k found : ℕ) (group : GroupRow) → k < length groups → group ≡ get_or groups k group
    → found ≡ length (slice_index_or lists k []) → group.cycles ≡ found → are_said lists k (drop k groups) ≡ are_said lists 0 groups
    → are_said lists (k + 1) (drop (k + 1) groups) ≡ are_said lists 0 groups
said_same lists groups k found group below is counted same so_far =
    let equal : nat_eq group.cycles (length (slice_index_or lists k [])) ≡ true =
    eq-eqb group.cycles (length (slice_index_or lists k [])) (same ∙ counted) in
    sym (said_step lists groups k group below is ∙ ap (λ (b : Bool). b && are_said lists (k + 1) (drop (k + 1) groups)) equal)
    ∙ so_far

-- ids of the groups behind one, with its id
pub ids_more : (groups : List GroupRow) (before now : ℕ → Bool) (k : ℕ) (group : GroupRow) → 0 < k → k ≤ length groups
    → group ≡ get_or groups (k - 1) group → ((id : ℕ) → before id ≡ list_any (has_id id) (drop k groups))
    → ((q : ℕ) → now q ≡ (nat_eq group.id q || before q)) → (id : ℕ) → now id ≡ list_any (has_id id) (drop (k - 1) groups)
ids_more groups before now k group some within is behind added id =
    let one : k ≡ k - 1 + 1 = omega (arith, some) in
    added id
    ∙ ap (λ (b : Bool). nat_eq group.id id || b) (behind id ∙ ap (λ (n : ℕ). list_any (has_id id) (drop n groups)) one)
    ∙ sym (ap (list_any (has_id id)) (rest_is groups (k - 1) group (omega (arith, some, within)) is))

-- the test of the groups behind one, with that one
apart_test : (groups : List GroupRow) (before : Bool) (k : ℕ) (group : GroupRow) → 0 < k → k ≤ length groups
    → group ≡ get_or groups (k - 1) group → before ≡ list_any (has_id group.id) (drop k groups) → are_ids_apart (drop k groups) ≡ true
    → are_ids_apart (drop (k - 1) groups) ≡ (not before && true)
apart_test groups before k group some within is behind apart =
    let one : k - 1 + 1 ≡ k = omega (arith, some) in
    apart_step groups (k - 1) group (omega (arith, some, within)) is
    ∙ ap (λ (n : ℕ). not (list_any (has_id group.id) (drop n groups)) && are_ids_apart (drop n groups)) one
    ∙ ap (λ (b : Bool). not b && are_ids_apart (drop k groups)) (sym behind)
    ∙ ap (λ (b : Bool). not before && b) apart

pub apart_more : (groups : List GroupRow) (before : Bool) (k : ℕ) (group : GroupRow) → 0 < k → k ≤ length groups
    → group ≡ get_or groups (k - 1) group → before ≡ list_any (has_id group.id) (drop k groups) → are_ids_apart (drop k groups) ≡ true
    → before ≡ false → are_ids_apart (drop (k - 1) groups) ≡ true
apart_more groups before k group some within is behind apart new =
    apart_test groups before k group some within is behind apart ∙ ap (λ (b : Bool). not b && true) new

pub apart_ends : (groups : List GroupRow) (before : Bool) (k : ℕ) (group : GroupRow) → 0 < k → k ≤ length groups
    → group ≡ get_or groups (k - 1) group → before ≡ list_any (has_id group.id) (drop k groups) → are_ids_apart (drop k groups) ≡ true
    → before ≡ true → are_ids_apart groups ≡ false
apart_ends groups before k group some within is behind apart old =
    apart_front (k - 1) groups (apart_test groups before k group some within is behind apart ∙ ap (λ (b : Bool). not b && true) old)
