-- Why each mark was made.
use Rattle.std.specs.Prelude.{ℕ, ◌≡◌, ◌+◌, ◌<◌, ◌≤◌, ◌==◌, ◌⊎◌, cond, List, [], ◌∷◌, ◌++◌, length, drop}
use Rattle.mdf_layout.specs.Layout.{Layout}
use Rattle.mdf_layout.specs.Record.{encoded_size, history_size}
use Rattle.mdf_layout.specs.declared.sample.Sample.{Sample}
use Rattle.book_owned.specs.Marks.{durable}
use Rattle.book_owned.specs.declared.mark.Mark.{Mark}

-- how often a number stands among these
abbrev pub times_of : ℕ → List ℕ → ℕ
times_of n [] = 0
times_of n (m ∷ ms) = cond (m == n) 1 0 + times_of n ms

-- this is so of one of these
abbrev pub AnyOf : {A : Type 0} → (A → Type 0) → List A → Type 0
AnyOf holds [] = ⊥
AnyOf holds (x ∷ xs) = holds x ⊎ AnyOf holds xs

-- it stands among these
abbrev pub IsAmong : {A : Type 0} → List A → A → Type 0
IsAmong xs y = AnyOf (λ x. x ≡ y) xs

-- Between a mark through so many samples and one through more, the records and that of a sample that a seat had to append
-- pass the block limit, and its record alone does not; these are the samples that seats had to append. While they were written other seats may have appended theirs.
pub record HandsOver (due : Sample → Type 0) (layouts : List Layout) (limit : ℕ) (history : List Sample) (from through : ℕ) : Type 0 where
  pub before : List Sample
  pub next : Sample
  pub later : List Sample
  pub history_is : history ≡ before ++ later
  pub through_is : through ≡ length before
  pub is_due : due next
  pub passes : limit < history_size layouts (drop from before) + encoded_size layouts next
  pub small : encoded_size layouts next ≤ limit

-- each of these marks, which stand behind one through so many samples, was asked for or hands a full block over
abbrev pub AreCaused : (ℕ → Type 0) → (Sample → Type 0) → List Layout → ℕ → List Sample → ℕ → List Mark → Type 0
AreCaused asked due layouts limit history from [] = Unit {0}
AreCaused asked due layouts limit history from (mark ∷ marks) =
    (asked mark.through ⊎ HandsOver due layouts limit history from mark.through) × AreCaused asked due layouts limit history mark.through marks

-- so was each behind those that a book began with
pub record MarksCaused (asked : ℕ → Type 0) (due : Sample → Type 0) (layouts : List Layout) (limit : ℕ) (history : List Sample) (begun marks : List Mark) : Type 0 where
  pub more : List Mark
  pub marks_are : marks ≡ begun ++ more
  pub caused : AreCaused asked due layouts limit history (durable begun) more
