-- The groups of a measurement, cut one after another.
use Rattle.std.proofs.Common.{◌≡◌, ◌<◌, ◌≤◌, ℕ, zero, suc, ℤ, List, [], ◌∷◌, ◌++◌, length, take, drop, map, get_or, set, refl, ap, arith}
use Rattle.mdf_content.specs.Samples.{record_at}
use Rattle.mdf_layout.specs.Layout.{Layout}
use Rattle.mdf_layout.specs.declared.field.FieldRow.{FieldRow}
use Rattle.mdf_model.specs.declared.part.Measure.{Measure}
use Rattle.mdf_model.specs.Measurement.{HasSamples}
use Rattle.tool_cut.specs.Kept.{cut_by, is_kept, kept_bytes, kept_count}
use Rattle.tool_cut.proofs.Keepings.{kept_samples}

-- a group that is cut has samples
pub by_samples : (from to : ℤ) (m : Measure) (field : FieldRow) → HasSamples m → HasSamples (cut_by from to m field)
by_samples from to m field samples =
    kept_samples m.shape m.part.streams m.part.content m.count samples (is_kept from to m.shape field m.part.content) m.count (omega arith)

-- the first so many items changed, and the others as they are
abbrev pub changed : {A : Type 0} → (A → A) → ℕ → List A → List A
changed f k xs = map f (take k xs) ++ drop k xs

pub changed_next : {A : Type 0} (f : A → A) (xs : List A) (k : ℕ) (d : A) → k < length xs → get_or (changed f k xs) k d ≡ get_or xs k d
changed_next f [] k d below = absurd (omega (arith, below))
changed_next f (x ∷ xs) zero d below = refl
changed_next f (x ∷ xs) (suc k) d below = changed_next f xs k d (omega (arith, below))

pub changed_more : {A : Type 0} (f : A → A) (xs : List A) (k : ℕ) (d : A) → k < length xs
    → set (changed f k xs) k (f (get_or xs k d)) ≡ changed f (suc k) xs
changed_more f [] k d below = absurd (omega (arith, below))
changed_more f (x ∷ xs) zero d below = refl
changed_more f (x ∷ xs) (suc k) d below = ap (λ (rest : List _). f x ∷ rest) (changed_more f xs k d (omega (arith, below)))

pub changed_length : {A : Type 0} (f : A → A) (xs : List A) (k : ℕ) → length (changed f k xs) ≡ length xs
changed_length f [] zero = refl
changed_length f [] (suc k) = refl
changed_length f (x ∷ xs) zero = refl
changed_length f (x ∷ xs) (suc k) = ap suc (changed_length f xs k)

pub changed_all : {A : Type 0} (f : A → A) (xs : List A) (k : ℕ) → length xs ≤ k → changed f k xs ≡ map f xs
changed_all f [] zero past = refl
changed_all f [] (suc k) past = refl
changed_all f (x ∷ xs) zero past = absurd (omega (arith, past))
changed_all f (x ∷ xs) (suc k) past = ap (λ (rest : List _). f x ∷ rest) (changed_all f xs k (omega (arith, past)))

-- an item in its own place
pub set_own : {A : Type 0} (xs : List A) (k : ℕ) (d : A) → set xs k (get_or xs k d) ≡ xs
set_own [] k d = refl
set_own (x ∷ xs) zero d = refl
set_own (x ∷ xs) (suc k) d = ap (λ (rest : List _). x ∷ rest) (set_own xs k d)

-- the records that are kept of a group, by equal parts of it
module _ (from to : ℤ) (m : Measure) (field : FieldRow) (layout : Layout) (content : List ℕ) (n : ℕ) (same_layout : layout ≡ m.shape)
    (same_content : content ≡ m.part.content) (same_count : n ≡ m.count) where
  pub count_of : kept_count (is_kept from to layout field content) n ≡ (cut_by from to m field).count
  count_of = rw (same_layout, same_content, same_count) refl

  pub bytes_of : kept_bytes (is_kept from to layout field content) (record_at layout content) n ≡ (cut_by from to m field).part.content
  bytes_of = rw (same_layout, same_content, same_count) refl
