-- The first group that has an id.
use Rattle.std.proofs.Common.{◌≡◌, ◌≢◌, ◌+◌, ◌-◌, ◌^◌, ◌<◌, ◌≤◌, ℕ, suc, List, [], ◌∷◌, length, get_or, drop, Option, Some, None, refl, sym, ◌∙◌, ap, subst, inl, inr, arith, add-one, drop-cons}
use Rattle.std.proofs.lemmas.Bool.{eqb-true, eq-eqb, ne_eqb, cond-true, cond-false}
use Rattle.std.proofs.lemmas.List.{drop_all}
use Rattle.std.proofs.lemmas.Bool.{cases_eq}
use Rattle.std.specs.Prelude.{nat_eq}
use Rattle.mdf_block.proofs.Wholes.{chosen}
use Rattle.mdf_data.specs.declared.known.Known.{Known}
use Rattle.mdf_data.specs.declared.known.Size.{Size}
use Rattle.mdf_data.specs.declared.known.Group.{Group}
use Rattle.mdf_data.specs.declared.known.Piece.{Piece}
use Rattle.mdf_data.specs.Record.{group_of, least_size, IsPieceAt}
use Rattle.mdf_block.proofs.Cases.{some_injective}

cut_at : (known : List Known) (k : ℕ) (d : Known) → k < length known → drop k known ≡ get_or known k d ∷ drop (k + 1) known
cut_at known k d below = rw add-one (drop-cons known k d below)

-- the group at a number has the id, or it has not
pub group_here : (known : List Known) (id k : ℕ) (d : Known) → k < length known → (get_or known k d).id ≡ id
    → group_of (drop k known) id k ≡ Some (record { which = k; size = (get_or known k d).size })
unfolding group_of
group_here known id k d below same =
    ap (λ (rest : List Known). group_of rest id k) (cut_at known k d below)
    ∙ cond-true (nat_eq (get_or known k d).id id) _ _ (eq-eqb (get_or known k d).id id same)

pub group_next : (known : List Known) (id k : ℕ) (d : Known) → k < length known → (get_or known k d).id ≢ id
    → group_of (drop k known) id k ≡ group_of (drop (k + 1) known) id (k + 1)
unfolding group_of
group_next known id k d below other =
    ap (λ (rest : List Known). group_of rest id k) (cut_at known k d below)
    ∙ cond-false (nat_eq (get_or known k d).id id) _ _ (ne_eqb (get_or known k d).id id other)

pub group_none : (known : List Known) (id k : ℕ) → length known ≤ k → group_of (drop k known) id k ≡ None
unfolding group_of
group_none known id k past = ap (λ (rest : List Known). group_of rest id k) (drop_all k known past)

-- a group that is found is one of them
pub group_found : (known : List Known) (id from : ℕ) (group : Group) → group_of known id from ≡ Some group
    → (k : ℕ) × (group.which ≡ from + k) × (k < length known) × ((d : Known) → (get_or known k d).size ≡ group.size) × ((d : Known) → (get_or known k d).id ≡ id)
unfolding group_of
group_found [] id from group found = let wrong : ◌≡◌ {A = Option Group} None (Some group) = found in cc
group_found (first ∷ known) id from group found =
    elim (chosen (nat_eq first.id id) (Some (record { which = from; size = first.size })) (group_of known id (from + 1)) (Some group) found) [
      | inl here ↦
          let same : record { which = from; size = first.size } ≡ group = some_injective _ _ here.1 in (
            0,
            ap (λ (g : Group). g.which) (sym same) ∙ omega arith,
            omega arith,
            (λ d. ap (λ (g : Group). g.size) same),
            (λ d. eqb-true first.id id here.0),
          )
      | inr there ↦
          let rest = group_found known id (from + 1) group there.1 in
          (suc rest.0, omega (arith, rest.1), omega (arith, rest.2), rest.3, rest.4)
    ]

pub group_is : (known : List Known) (id : ℕ) (group : Group) → group_of known id 0 ≡ Some group
    → (group.which < length known) × ((d : Known) → (get_or known group.which d).size ≡ group.size)
group_is known id group found =
    let rest = group_found known id 0 group found in
    let same : rest.0 ≡ group.which = omega (arith, rest.1) in
    (subst (λ (n : ℕ). n < length known) same rest.2, λ d. subst (λ (n : ℕ). (get_or known n d).size ≡ group.size) same (rest.3 d))

-- a piece of a group that was found
pub piece_stands : (total id_size : ℕ) (known : List Known) (place id : ℕ) (group : Option Group) (piece : Piece) → group ≡ group_of known id 0
    → piece.at ≡ place → place + piece.len ≤ total → place + piece.len < 2 ^ 62
    → (size : Size) × ((group ≡ Some (record { which = piece.which; size = size })) × (id_size + least_size size ≤ piece.len))
    → IsPieceAt total id_size known place piece
piece_stands total id_size known place id group piece is_group begins ends fits stands =
    let is = group_is known id (record { which = piece.which; size = stands.0 }) (sym is_group ∙ stands.1.0) in record {
      begins = begins;
      ends = ends;
      fits = fits;
      which = is.0;
      least = λ d. subst (λ (size : Size). id_size + least_size size ≤ piece.len) (sym (is.1 d)) stands.1.1;
    }

-- the groups from a number on, with the one before it
pub table_more : (known : List Known) (old new : ℕ → Option Group) (k : ℕ) (d : Known) → 0 < k → k ≤ length known
    → ((q : ℕ) → old q ≡ group_of (drop k known) q k)
    → new (get_or known (k - 1) d).id ≡ Some (record { which = k - 1; size = (get_or known (k - 1) d).size })
    → ((q : ℕ) → ((get_or known (k - 1) d).id ≡ q → ⊥) → new q ≡ old q)
    → (q : ℕ) → new q ≡ group_of (drop (k - 1) known) q (k - 1)
table_more known old new k d some within rest here other q =
    let first = get_or known (k - 1) d in
    let below : k - 1 < length known = omega arith in
    let next : k ≡ k - 1 + 1 = omega arith in
    elim (cases_eq first.id q) [
      | inl same ↦
          subst (λ (id : ℕ). new id ≡ group_of (drop (k - 1) known) id (k - 1)) same
          (here ∙ sym (group_here known first.id (k - 1) d below refl))
      | inr apart ↦
          other q apart ∙ rest q ∙ ap (λ (n : ℕ). group_of (drop n known) q n) next ∙ sym (group_next known q (k - 1) d below apart)
    ]
