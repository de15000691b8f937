-- The parts between separators.
use Rattle.std.proofs.Common.{cond, ◌≡◌, ◌∙◌, sym, ap, ℕ, ◌+◌, ◌-◌, ◌<◌, Bool, true, false, List, [], ◌∷◌, length, get_or, take, drop, refl, arith, length-drop}
use Rattle.std.specs.Prelude.{◌==◌}
use Rattle.std.specs.List.{onto_first, position_or_len}
use Rattle.std.proofs.lemmas.Grind.{get_or_default_zero}
use Rattle.std.proofs.lemmas.List.{take_all}
use Rattle.std.proofs.lemmas.List.Splits.{slice_split_first, slice_split_none}
use Rattle.std.proofs.lemmas.List.Sums.{position_or_len_is}
use Rattle.memchr.specs.Find.{NoneBefore, Nowhere, Passes, is_byte}
use Rattle.script_line.specs.Text.{parts_of, is_end}

onto_is : (x : ℕ) (parts : List (List ℕ)) → is_end (onto_first x parts) ≡ false
onto_is x [] = refl
onto_is x (part ∷ parts) = refl

chosen : (b : Bool) (x : ℕ) (parts others : List (List ℕ)) → is_end (cond b ([] ∷ parts) (onto_first x others)) ≡ false
chosen true x parts others = refl
chosen false x parts others = onto_is x others

-- there is a part
pub some_part : (separator : ℕ) (text : List ℕ) → is_end (parts_of separator text) ≡ false
some_part separator [] = refl
some_part separator (b ∷ text) = chosen (b == separator) b (parts_of separator text) (parts_of separator text)

-- the part before the first separator
pub first_part : (separator : ℕ) (text : List ℕ) (i : ℕ) → i < length text → ((k : ℕ) → k < i → (get_or text k 0 == separator) ≡ false) → (get_or text i 0 == separator) ≡ true → parts_of separator text ≡ take i text ∷ parts_of separator (take (length text - (i + 1)) (drop (i + 1) text))
first_part separator text i below others here =
    let p : ℕ → Bool = λ b. b == separator in
    let at : position_or_len p text ≡ i = position_or_len_is p text i 0 (omega arith) others (λ _. here) in
    let whole : take (length text - (i + 1)) (drop (i + 1) text) ≡ drop (i + 1) text = take_all _ _ (omega (arith, length-drop (i + 1) text)) in
    slice_split_first p text 0 (omega arith) ∙ ap (λ n. take n text ∷ parts_of separator (drop (n + 1) text)) at
    ∙ ap (λ t. take i text ∷ parts_of separator t) (sym whole)

-- the one part
pub only_part : (separator : ℕ) (text : List ℕ) → ((k : ℕ) → k < length text → (get_or text k 0 == separator) ≡ false) → parts_of separator text ≡ text ∷ []
only_part separator text others =
    slice_split_none (λ b. b == separator) text
    (λ k d below. ap (λ b. b == separator) (get_or_default_zero text k d below) ∙ others k below)

passed_not : (test : Bool) → (test ≡ true → ⊥) → test ≡ false
passed_not true not = absurd (not refl)
passed_not false not = refl

-- the same of the place that a search finds
pub first_found : (separator : ℕ) (text : List ℕ) (i : ℕ) → NoneBefore (Passes (is_byte separator) text) 0 (length text) i → Passes (is_byte separator) text i → parts_of separator text ≡ take i text ∷ parts_of separator (take (length text - (i + 1)) (drop (i + 1) text))
first_found separator text i none here = first_part separator text i none.high (λ k below. passed_not _ (none.before k (omega arith) below)) here

pub none_found : (separator : ℕ) (text : List ℕ) → Nowhere (Passes (is_byte separator) text) 0 (length text) → parts_of separator text ≡ text ∷ []
none_found separator text none = only_part separator text (λ k below. passed_not _ (none k (omega arith) below))
