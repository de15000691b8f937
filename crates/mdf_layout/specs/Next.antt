-- Where the next values of variable length go.
use Rattle.std.specs.Prelude.{ℕ, ◌≡◌, ◌+◌, List, [], ◌∷◌, length, map, slice_get, Some}
use Rattle.mdf_layout.specs.History.{group_samples}
use Rattle.mdf_layout.specs.Layout.{Layout}
use Rattle.mdf_layout.specs.Behind.{first_id, offsets_behind}
use Rattle.mdf_layout.specs.declared.sample.Sample.{Sample}

-- of a group, the id of its first channel of variable length, and of each such channel the offset of its next value
pub record Next : Type 0 where
  pub id : ℕ
  pub offsets : List ℕ

-- those of a group behind a history
abbrev pub next_behind : List Layout → List Sample → ℕ → Layout → Next
next_behind layouts before group layout = record {
  id = first_id layouts group;
  offsets = offsets_behind layout.rows (group_samples before group);
}

-- those of each group
pub record AreNext (layouts : List Layout) (before : List Sample) (nexts : List Next) : Type 0 where
  pub each : (group : ℕ) (layout : Layout) → slice_get layouts group ≡ Some layout
      → slice_get nexts group ≡ Some (next_behind layouts before group layout)

-- numbers added channel by channel
abbrev pub added : List ℕ → List ℕ → List ℕ
added [] ys = []
added (x ∷ xs) [] = x ∷ xs
added (x ∷ xs) (y ∷ ys) = (x + y) ∷ added xs ys

-- how much values add to the offsets of their channels: their lengths, in 4 bytes each, and their bytes
abbrev pub value_sizes : List (List ℕ) → List ℕ
value_sizes values = map (λ value. 4 + length value) values
