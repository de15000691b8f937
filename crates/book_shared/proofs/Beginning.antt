-- The seats at the beginning, and the book whose halves are shared.
use Rattle.std.proofs.Common.{◌≡◌, ℕ, zero, suc, ◌+◌, ◌-◌, ◌<◌, ◌≤◌, List, [], ◌∷◌, ◌++◌, length, take, refl, sym, ap, ◌∙◌, subst, ⊎_elim, arith, get_or-set_other, get_or-set_same, length-set}
use Rattle.std.specs.Prelude.{slice_index, slice_set, replicate}
use Rattle.std.proofs.lemmas.Bool.{cases_eq, cases_lt}
use Rattle.atomic_table.specs.Seated.{TableId}
use Rattle.atomic_table.specs.Table.{opening}
use Rattle.mdf_gate.specs.Gated.{Gated}
use Rattle.book_owned.specs.Account.{Account}
use Rattle.book_owned.specs.Members.{DiskOf}
use Rattle.book_owned.specs.Marks.{durable}
use Rattle.book_owned.specs.BackHalf.{BackTerms, BackKeeps, FileHolds, back_terms}
use Rattle.book_owned.specs.FrontHalf.{FrontTerms, FrontAccount}
use Rattle.book_owned.specs.Split.{front_part, terms_of_parts, front_of_book, IsBackOf, AreHalves, book_of_halves}
use Rattle.book_shared.specs.Basis.{Basis}
use Rattle.book_shared.specs.Plays.{fresh}
use Rattle.book_shared.specs.Parts.{kept_part, split_part}
use Rattle.book_shared.specs.Fixed.{basis_of, first_view, sources_from}
use Rattle.book_shared.specs.Place.{Place}
use Rattle.book_shared.specs.Rule.{HoldsAll, Runs}
use Rattle.book_shared.specs.Seats.{new_seat, new_seats}
use Rattle.book_shared.specs.declared.fixed.Fixed.{Fixed}
use Rattle.book_shared.specs.declared.half.Half.TheVariants.{TheFront, TheBack}
use Rattle.book_shared.specs.declared.view.View.{View}
use Rattle.book_shared.proofs.Lists.{alone}
use Rattle.book_shared.proofs.Ends.{opens}

-- one more behind
pub new_seats-push : (table : TableId) (basis : Basis) (first count : ℕ) → new_seats table basis first count ++ new_seat table basis (first + count) ∷ [] ≡ new_seats table basis first (suc count)
new_seats-push table basis first zero = let same : first + 0 ≡ first = omega arith in ap (λ n. new_seat table basis n ∷ []) same
new_seats-push table basis first (suc count) =
    let same : first + suc count ≡ suc first + count = omega arith in
    ap (λ n. new_seats table basis first (suc count) ++ new_seat table basis n ∷ []) same ∙ ap (λ seats. new_seat table basis first ∷ seats) (new_seats-push table basis (suc first) count)

-- the first so many places have the owners, and the others 0
pub record IsFilled (table owners : List ℕ) (count : ℕ) : Type 0 where
  pub long : length table ≡ 64
  pub front : (k : ℕ) → k < count → slice_index table k ≡ slice_index owners k
  pub behind : (k : ℕ) → count ≤ k → slice_index table k ≡ 0

zeros : (count k : ℕ) → slice_index (replicate count 0) k ≡ 0
zeros zero k = refl
zeros (suc count) zero = refl
zeros (suc count) (suc k) = zeros count k

pub filled_none : (owners : List ℕ) → IsFilled (replicate 64 0) owners 0
filled_none owners = record { long = refl; front = λ k less. absurd (omega (arith, less)); behind = λ k more. zeros 64 k }

pub filled_on : (table owners : List ℕ) (count owner : ℕ) → count < 64 → owner ≡ slice_index owners count → IsFilled table owners count → IsFilled (slice_set table count owner) owners (count + 1)
filled_on table owners count owner within is filled = record {
  long = length-set table count owner ∙ filled.long;
  front = λ k less. ⊎_elim
      (λ same. ap (λ n. slice_index (slice_set table count owner) n) same ∙ get_or-set_same table count owner 0 (omega (arith, within, filled.long)) ∙ is ∙ ap (λ n. slice_index owners n) (sym same))
      (λ differs. get_or-set_other table count k owner 0 differs ∙ filled.front k (front_of k count less differs)) (cases_eq k count);
  behind = λ k more. get_or-set_other table count k owner 0 (λ same. omega (arith, same, more)) ∙ filled.behind k (omega (arith, more));
} where
  front_of : (k n : ℕ) → k < n + 1 → (k ≡ n → ⊥) → k < n
  front_of k n less differs = ⊎_elim (λ h. h) (λ h. absurd (differs (omega (arith, h, less)))) (cases_lt k n)

pub new_seats-length : (table : TableId) (basis : Basis) (first count : ℕ) → length (new_seats table basis first count) ≡ count
new_seats-length table basis first zero = refl
new_seats-length table basis first (suc count) = omega (arith, new_seats-length table basis (suc first) count)

-- the first seat, where these sources are left
left_is : (basis : Basis) (n s : ℕ) (v : View) → n < s → v ≡ fresh basis (sources_from n (s - n)) → v ≡ fresh basis (sources_from n (suc (s - (n + 1))))
left_is basis n s v less is = let e : s - n ≡ suc (s - (n + 1)) = omega (arith, less) in is ∙ ap (λ k. fresh basis (sources_from n k)) e

pub split_left : (basis : Basis) (n s : ℕ) (v : View) → n < s → v ≡ fresh basis (sources_from n (s - n)) → split_part v ≡ fresh basis (sources_from (n + 1) (s - (n + 1)))
split_left basis n s v less is =
    let e : suc n ≡ n + 1 = omega arith in
    ap split_part (left_is basis n s v less is) ∙ ap (λ k. fresh basis (sources_from k (s - (n + 1)))) e

pub kept_left : (basis : Basis) (n s : ℕ) (v : View) → n < s → v ≡ fresh basis (sources_from n (s - n)) → kept_part v ≡ fresh basis ((n, []) ∷ [])
kept_left basis n s v less is = ap kept_part (left_is basis n s v less is)

pub pushed : (items items' : List Place) (table table' : TableId) (basis : Basis) (n : ℕ) (know : View) → items ≡ new_seats table basis 0 n → table' ≡ table → know ≡ fresh basis ((n, []) ∷ [])
    → items' ≡ items ++ record { table = table'; number = n; know = know } ∷ [] → items' ≡ new_seats table basis 0 (n + 1)
pushed items items' table table' basis n know before same knows is =
    let first : 0 + n ≡ n = omega arith in
    let next : suc n ≡ n + 1 = omega arith in
    let seat : TableId → View → Place = λ t k. record { table = t; number = n; know = k } in
    is ∙ ap (λ seats. seats ++ seat table' know ∷ []) before
    ∙ ap (λ t. new_seats table basis 0 n ++ seat t know ∷ []) same
    ∙ ap (λ k. new_seats table basis 0 n ++ seat table k ∷ []) knows
    ∙ ap (λ k. new_seats table basis 0 n ++ new_seat table basis k ∷ []) (sym first)
    ∙ new_seats-push table basis 0 n ∙ ap (new_seats table basis 0) next

-- what was put into an empty list, one after the other
pub in_slots : {A : Type 0} (none one both : List A) (first second : A) → none ≡ [] → one ≡ none ++ first ∷ [] → both ≡ one ++ second ∷ [] → both ≡ first ∷ second ∷ []
in_slots none one both first second empty put more = more ∙ ap (λ xs. xs ++ second ∷ []) (put ∙ ap (λ xs. xs ++ first ∷ []) empty)

-- a list of two without its last
pub two_left : {A : Type 0} (rest : List A) (last first second : A) → first ∷ second ∷ [] ≡ rest ++ last ∷ [] → (second ≡ last) × (first ∷ [] ≡ rest)
two_left [] last first second is = absurd (omega (arith, ap length is))
two_left (x ∷ rest) last first second is =
    let heads : first ≡ x = cc in
    let tails : second ∷ [] ≡ rest ++ last ∷ [] = cc in
    let only = alone rest last second tails in
    (only.0, ap (λ z. z ∷ []) heads ∙ ap (λ zs. x ∷ zs) (sym only.1))

-- the halves in two lists that are one
pub same_halves : {D V : Type 0} (front front' : FrontAccount V) (back back' : Gated D) → TheFront front ∷ TheBack back ∷ [] ≡ TheFront front' ∷ TheBack back' ∷ []
    → (front ≡ front') × (back ≡ back')
same_halves front front' back back' is = (cc, cc)

-- The halves of a book.
module _ {D V : Type 0} (disk : DiskOf D) (book : Account D V) (front : FrontAccount V) (back : Gated D) (first : front ≡ front_of_book book) (second : IsBackOf disk book back) where
  -- they can be joined again, and are that book then
  pub halves_again : AreHalves disk front back
  halves_again = subst (λ f. AreHalves disk f back) (sym first) (record { spare = refl; stop = sym second.failed; keeps = second.keeps; holds = second.holds })

  pub rejoined : book_of_halves disk front back ≡ book
  rejoined =
      ap (λ f. book_of_halves disk f back) first
      ∙ ap (λ s. record book { stopped = s; terms = terms_of_parts (front_part book.terms) (back_terms disk back); disk = back.disk }) second.failed
      ∙ ap (λ (t : BackTerms). record book { terms = terms_of_parts (front_part book.terms) t; disk = back.disk }) second.terms
      ∙ ap (λ d. record book { disk = d }) second.disk_is

  -- with a book that has no sample yet the rule holds
  module _ (fixed : Fixed (FrontAccount V) (Gated D)) (front_is : fixed.front.value ≡ front) (back_is : fixed.back.value ≡ back) where
    pub begun_terms : (basis_of disk fixed).terms ≡ book.terms
    begun_terms =
        ap (λ (f : FrontAccount V). terms_of_parts f.terms (back_terms disk fixed.back.value)) (front_is ∙ first)
        ∙ ap (λ b. terms_of_parts (front_part book.terms) (back_terms disk b)) back_is
        ∙ ap (terms_of_parts (front_part book.terms)) second.terms

    pub begins : durable book.marks ≤ length book.history → book.history ≡ []
        → Runs disk (basis_of disk fixed) (opening (0 ∷ 0 ∷ []) (TheFront front ∷ TheBack back ∷ []) (first_view (basis_of disk fixed)))
    begins within no_sample =
        let none_durable : durable book.marks ≡ 0 = omega (arith, within, ap length no_sample) in
        let nothing : take (durable book.marks) book.history ≡ [] = ap (λ n. take n book.history) none_durable in
        let keeps : BackKeeps disk front.terms.layouts back front.history front.marks =
        subst (λ (f : FrontAccount V). BackKeeps disk f.terms.layouts back f.history f.marks) (sym first) second.keeps in
        opens disk (basis_of disk fixed) front back
        (ap (λ (f : FrontAccount V). f.history) first ∙ no_sample)
        (ap (λ (f : FrontAccount V). f.from) first ∙ none_durable)
        (ap (λ (f : FrontAccount V). durable f.marks) first ∙ none_durable)
        (ap (λ (f : FrontAccount V). f.spare) first)
        (ap (λ (f : FrontAccount V). f.terms) (sym front_is))
        (ap (back_terms disk) (sym back_is))
        (ap (λ (f : FrontAccount V). f.marks) (sym front_is))
        (ap (λ (f : FrontAccount V). f.stopped) first ∙ sym second.failed)
        (subst (λ (f : FrontAccount V). BackKeeps disk f.terms.layouts back front.history front.marks) (sym front_is) keeps)
        (λ going. subst (HoldsAll disk (basis_of disk fixed) back) nothing
        (subst (λ (t : FrontTerms). FileHolds disk t.layouts t.block_limit back (take (durable book.marks) book.history))
        (ap (λ (f : FrontAccount V). f.terms) (sym (front_is ∙ first)))
        (second.holds (ap (λ (f : FrontAccount V). f.stopped) (sym first) ∙ going))))
