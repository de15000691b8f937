-- The group of a number among those whose records are samples.
use Rattle.std.proofs.Common.{◌≡◌, ◌+◌, ℕ, zero, suc, Bool, true, false, List, [], ◌∷◌, ◌++◌, length, take, filter, Option, Some, None, refl, ◌∙◌, ap, arith}
use Rattle.std.specs.Prelude.{if◌then◌else◌, not, slice_get}
use Rattle.std.proofs.lemmas.Option.{same_Some}
use Rattle.mdf_group.specs.declared.row.DataRow.{DataRow}
use Rattle.mdf_group.specs.declared.row.GroupRow.{GroupRow}
use Rattle.mdf_group.specs.Group.{is_variable}
use Rattle.mdf_model.specs.Kept.{sample_rows, stands_at}
use Rattle.mdf_model.specs.Measurement.{holds_samples}

-- a group of a data group, with so many before it
picked : (b : Bool) (one : GroupRow) (rows before : List GroupRow) (row : Option GroupRow) → slice_get rows (length before) ≡ row
    → slice_get (if b then one ∷ rows else rows) (length (if b then one ∷ before else before)) ≡ row
picked true one rows before row there = there
picked false one rows before row there = there

pub sample_there : (groups : List GroupRow) (k : ℕ) (group : GroupRow) → slice_get groups k ≡ Some group → is_variable group ≡ false
    → slice_get (filter holds_samples groups) (length (filter holds_samples (take k groups))) ≡ Some group
sample_there [] k group there holds = let wrong : ◌≡◌ {A = Option GroupRow} None (Some group) = there in cc
sample_there (one ∷ groups) zero group there holds =
    let here : is_variable one ≡ false = ap is_variable (same_Some one group there) ∙ holds in
    ap (λ (b : Bool). slice_get (if not b then one ∷ filter holds_samples groups else filter holds_samples groups) 0) here ∙ there
sample_there (one ∷ groups) (suc k) group there holds =
    picked (holds_samples one) one (filter holds_samples groups) (filter holds_samples (take k groups)) (Some group)
    (sample_there groups k group there holds)

-- and of all data groups
front_there : (xs ys : List GroupRow) (k : ℕ) (x : GroupRow) → slice_get xs k ≡ Some x → slice_get (xs ++ ys) k ≡ Some x
front_there [] ys k x there = let wrong : ◌≡◌ {A = Option GroupRow} None (Some x) = there in cc
front_there (y ∷ xs) ys zero x there = there
front_there (y ∷ xs) ys (suc k) x there = front_there xs ys k x there

behind_there : (xs ys zs : List GroupRow) (left : ℕ) (x : GroupRow) → slice_get ys (length zs + left) ≡ Some x
    → slice_get (xs ++ ys) (length (xs ++ zs) + left) ≡ Some x
behind_there [] ys zs left x there = there
behind_there (y ∷ xs) ys zs left x there =
    let more : length (y ∷ (xs ++ zs)) + left ≡ suc (length (xs ++ zs) + left) = omega arith in
    ap (slice_get (y ∷ (xs ++ ys))) more ∙ behind_there xs ys zs left x there

pub row_there : (rows : List DataRow) (k : ℕ) (row : DataRow) (left : ℕ) (group : GroupRow) → slice_get rows k ≡ Some row
    → slice_get (filter holds_samples row.groups) left ≡ Some group
    → slice_get (sample_rows rows) (length (sample_rows (take k rows)) + left) ≡ Some group
row_there [] k row left group there is = let wrong : ◌≡◌ {A = Option DataRow} None (Some row) = there in cc
row_there (one ∷ rows) zero row left group there is =
    let here : 0 + left ≡ left = omega arith in
    ap (slice_get (sample_rows (one ∷ rows))) here
    ∙ front_there (filter holds_samples one.groups) (sample_rows rows) left group
    (ap (λ (r : DataRow). slice_get (filter holds_samples r.groups) left) (same_Some one row there) ∙ is)
row_there (one ∷ rows) (suc k) row left group there is =
    behind_there (filter holds_samples one.groups) (sample_rows rows) (sample_rows (take k rows)) left group (row_there rows k row left group there is)

-- a group that stands somewhere
pub some_group : (group : Option GroupRow) (at : ℕ) → stands_at group ≡ Some at → (one : GroupRow) × (group ≡ Some one) × (one.at ≡ at)
some_group None at is = let wrong : ◌≡◌ {A = Option ℕ} None (Some at) = is in cc
some_group (Some one) at is = (one, refl, same_Some one.at at is)
