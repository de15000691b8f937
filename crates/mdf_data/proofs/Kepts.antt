-- Places of which some are counted alone, gathered record by record.
use Rattle.std.proofs.Common.{◌≡◌, ◌+◌, ◌-◌, ◌<◌, ◌≤◌, ℕ, zero, suc, Bool, true, false, List, [], ◌∷◌, ◌++◌, length, get_or, set, replicate, Some, Ok, refl, sym, ◌∙◌, ap, subst, inl, inr, arith, length-append}
use Rattle.std.specs.List.{AllByRecursion}
use Rattle.std.proofs.Math.ListN.{length-set}
use Rattle.std.proofs.lemmas.Bool.{cases_eq}
use Rattle.std.proofs.lemmas.Grind.{get_or-set_at}
use Rattle.std.proofs.lemmas.List.{get_or-set_other}
use Rattle.mdf_block.specs.Refusal.{Read}
use Rattle.mdf_data.specs.declared.known.Known.{Known}
use Rattle.mdf_data.specs.declared.known.Piece.{Piece}
use Rattle.mdf_data.specs.Record.{least_size, piece_at, IsPieceAt}
use Rattle.mdf_data.specs.Places.{steps, with_place, places, HaveRoom}
use Rattle.mdf_data.specs.Kept.{kept, told_or_not, untold, with_kept}
use Rattle.mdf_data.proofs.Spreads.{Leads, begins, goes_on, room_more}
use Rattle.mdf_data.proofs.Steps.{length-steps}

-- where none is counted alone, all are kept
pub none_counted : (lists : List (List ℕ)) → kept lists [] ≡ lists
none_counted [] = refl
none_counted (list ∷ lists) = refl

-- lists of no places are so either way
none_told : (b : Bool) → told_or_not b [] ≡ []
none_told true = refl
none_told false = refl

kept_none : (n : ℕ) (counted : List Bool) → kept (replicate {A = List ℕ} n []) counted ≡ replicate {A = List ℕ} n []
kept_none zero counted = refl
kept_none (suc n) [] = refl
kept_none (suc n) (one ∷ counted) =
    ap (λ (list : List ℕ). list ∷ kept (replicate {A = List ℕ} n []) counted) (none_told one)
    ∙ ap (λ (lists : List (List ℕ)). [] ∷ lists) (kept_none n counted)

-- one more place of the first group
one_longer : (list : List ℕ) (place : ℕ) → length (untold (length list)) + 1 ≡ length (list ++ place ∷ [])
one_longer list place =
    ap (λ (n : ℕ). n + 1) (length-steps (length list) 0 0) ∙ sym (length-append list (place ∷ []))

first_more : (b : Bool) (list : List ℕ) (rest : List (List ℕ)) (place : ℕ)
    → with_kept b (told_or_not b list ∷ rest) 0 place ≡ told_or_not b (list ++ place ∷ []) ∷ rest
first_more true list rest place = ap (λ (n : ℕ). untold n ∷ rest) (one_longer list place)
first_more false list rest place = refl

-- and of a group behind it
behind_more : (b : Bool) (first : List ℕ) (rest : List (List ℕ)) (which place : ℕ)
    → with_kept b (first ∷ rest) (suc which) place ≡ first ∷ with_kept b rest which place
behind_more true first rest which place = refl
behind_more false first rest which place = refl

no_group : (b : Bool) (which place : ℕ) → with_kept b [] which place ≡ []
no_group true which place = refl
no_group false which place = refl

-- a record more is kept or counted
pub kept_more : (all : List (List ℕ)) (counted : List Bool) (which place : ℕ)
    → with_kept (get_or counted which false) (kept all counted) which place ≡ kept (with_place all which place) counted
kept_more [] counted which place = no_group (get_or counted which false) which place
kept_more (list ∷ all) [] which place = sym (none_counted (with_place (list ∷ all) which place))
kept_more (list ∷ all) (one ∷ counted) zero place = first_more one list (kept all counted) place
kept_more (list ∷ all) (one ∷ counted) (suc which) place =
    behind_more (get_or counted which false) (told_or_not one list) (kept all counted) which place
    ∙ ap (λ (lists : List (List ℕ)). told_or_not one list ∷ lists) (kept_more all counted which place)

-- these lists are what is kept of lists with which the records from a place on lead to the whole
pub record LeadsKept (stream : List ℕ) (total id_size : ℕ) (known : List Known) (counted : List Bool) (lists : List (List ℕ)) (at : ℕ)
    (whole : Read (List (List ℕ))) : Type 0 where
  pub all : List (List ℕ)
  pub kept_are : lists ≡ kept all counted
  pub leads : Leads stream total id_size known all at whole

module _ (stream : List ℕ) (total id_size : ℕ) (known : List Known) (counted : List Bool) where
  pub kept_begins : LeadsKept stream total id_size known counted (replicate (length known) []) 0 (places stream total id_size known)
  kept_begins = record {
    all = replicate {A = List ℕ} (length known) [];
    kept_are = sym (kept_none (length known) counted);
    leads = begins stream total id_size known;
  }

  pub kept_goes_on : (lists : List (List ℕ)) (at : ℕ) (piece : Piece) (whole : Read (List (List ℕ)))
      → piece_at stream id_size known at (total - at) ≡ Ok (Some piece) → piece.at + piece.len ≤ total → at < piece.at + piece.len
      → LeadsKept stream total id_size known counted lists at whole
      → LeadsKept stream total id_size known counted (with_kept (get_or counted piece.which false) lists piece.which (piece.at + id_size))
      (piece.at + piece.len) whole
  kept_goes_on lists at piece whole found ends more so_far = record {
    all = with_place so_far.all piece.which (piece.at + id_size);
    kept_are =
        ap (λ (before : List (List ℕ)). with_kept (get_or counted piece.which false) before piece.which (piece.at + id_size)) so_far.kept_are
        ∙ kept_more so_far.all counted piece.which (piece.at + id_size);
    leads = goes_on stream total id_size known so_far.all at piece whole found ends more so_far.leads;
  }

-- as many lists
pub length-with_kept : (b : Bool) (lists : List (List ℕ)) (which place : ℕ) → length (with_kept b lists which place) ≡ length lists
length-with_kept true lists which place = length-set lists which _
length-with_kept false lists which place = length-set lists which _

-- places that are told as 0 have room where one has
all_first : (P : ℕ → Type 0) (count from : ℕ) → from ≡ 0 → P 0 → AllByRecursion P (steps count 0 from)
all_first P zero from is first = tt
all_first P (suc count) from is first =
    let next : from + 0 ≡ 0 = omega (arith, is) in (subst P (sym is) first, all_first P count (from + 0) next first)

room_counted : (total id_size : ℕ) (known : List Known) (lists : List (List ℕ)) (at : ℕ) (piece : Piece) → HaveRoom total known lists
    → length lists ≡ length known → IsPieceAt total id_size known at piece
    → HaveRoom total known (with_kept true lists piece.which (piece.at + id_size))
room_counted total id_size known lists at piece room long stands = λ k d e below.
    let count : ℕ = length (get_or lists piece.which []) + 1 in
    elim (cases_eq k piece.which) [
      | inl same ↦
          let P : ℕ → Type 0 = λ place. place + least_size (get_or known k d).size ≤ total in
          let here : get_or (set lists piece.which (untold count)) k e ≡ untold count =
          get_or-set_at lists piece.which k (untold count) e same (omega (arith, long, stands.which)) in
          let least : id_size + least_size (get_or known k d).size ≤ piece.len =
          subst (λ (n : ℕ). id_size + least_size (get_or known n d).size ≤ piece.len) (sym same) (stands.least d) in
          let fits : 0 + least_size (get_or known k d).size ≤ total = omega (arith, least, stands.ends) in
          subst (AllByRecursion P) (sym here) (all_first P count 0 refl fits)
      | inr other ↦
          subst (AllByRecursion (λ (place : ℕ). place + least_size (get_or known k d).size ≤ total))
          (sym (get_or-set_other lists piece.which k (untold count) e other)) (room k d e below)
    ]

pub room_kept : (b : Bool) (total id_size : ℕ) (known : List Known) (lists : List (List ℕ)) (at : ℕ) (piece : Piece) → HaveRoom total known lists
    → length lists ≡ length known → IsPieceAt total id_size known at piece
    → HaveRoom total known (with_kept b lists piece.which (piece.at + id_size))
room_kept true total id_size known lists at piece room long stands = room_counted total id_size known lists at piece room long stands
room_kept false total id_size known lists at piece room long stands = room_more total id_size known lists at piece room long stands

-- as many places stand in each list, and those of a group that is not counted alone are kept
told_long : (b : Bool) (list : List ℕ) → length (told_or_not b list) ≡ length list
told_long true list = length-steps (length list) 0 0
told_long false list = refl

pub kept_long : (lists : List (List ℕ)) (counted : List Bool) (k : ℕ) → length (get_or (kept lists counted) k []) ≡ length (get_or lists k [])
kept_long [] counted k = refl
kept_long (list ∷ lists) [] k = refl
kept_long (list ∷ lists) (one ∷ counted) zero = told_long one list
kept_long (list ∷ lists) (one ∷ counted) (suc k) = kept_long lists counted k

pub kept_same : (lists : List (List ℕ)) (counted : List Bool) (k : ℕ) → get_or counted k false ≡ false
    → get_or (kept lists counted) k [] ≡ get_or lists k []
kept_same [] counted k denied = refl
kept_same (list ∷ lists) [] k denied = refl
kept_same (list ∷ lists) (one ∷ counted) zero denied = ap (λ (b : Bool). told_or_not b list) denied
kept_same (list ∷ lists) (one ∷ counted) (suc k) denied = kept_same lists counted k denied
