-- What a seat says of itself, and tests of the turn word.
use Rattle.std.proofs.Common.{◌≡◌, ℕ, ◌%◌, ◌<◌, ◌≤◌, List, length, sym, ◌∙◌, ⊎_elim, arith}
use Rattle.std.specs.Prelude.{◌==◌, slice_index}
use Rattle.std.proofs.lemmas.Bool.{cases_lt, cases_eq, eq-eqb, ne_eqb}
use Rattle.std.proofs.lemmas.List.{get_or_past}
use Rattle.book_shared.specs.Basis.{last_word}

-- a group that is not there is as if the source 0 owned it
pub owner_past : (owners : List ℕ) (group number : ℕ) → length owners ≤ group → (number == 0) ≡ (slice_index owners group == number)
owner_past owners group number past =
    let owner : slice_index owners group ≡ 0 = get_or_past owners group 0 past in
    ⊎_elim (λ is. eq-eqb number 0 is ∙ sym (eq-eqb (slice_index owners group) number (owner ∙ sym is)))
    (λ differs. ne_eqb number 0 differs ∙ sym (ne_eqb (slice_index owners group) number (λ is. differs (sym is ∙ owner)))) (cases_eq number 0)

pub even_of : (word : ℕ) → (word % 2 ≡ 1 → ⊥) → word % 2 ≡ 0
even_of word odd = ⊎_elim (λ less. omega (arith, less)) (λ more. absurd (odd (omega (arith, more)))) (cases_lt (word % 2) 1)

pub low_of : (word : ℕ) → word ≤ last_word → (word ≡ last_word → ⊥) → word < last_word
low_of word low last = ⊎_elim (λ less. less) (λ more. absurd (last (omega (arith, low, more)))) (cases_lt word last_word)
