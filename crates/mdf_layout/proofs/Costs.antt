-- What samples cost at most.
use Rattle.std.proofs.Common.{◌≡◌, ◌≤◌, ℕ, zero, suc, List, [], ◌∷◌, length, slice_get, sum_by, Some, None, ap, arith}
use Rattle.std.proofs.lemmas.List.Sums.{sum_by-cons}
use Rattle.mdf_layout.specs.Layout.{Layout}
use Rattle.mdf_layout.specs.Record.{SampleFits, encoded_size, cost_of}
use Rattle.mdf_layout.specs.declared.sample.Sample.{Sample}

-- one of the layouts has no more channels than all
fields_of_one : (layouts : List Layout) (group : ℕ) (layout : Layout) → slice_get layouts group ≡ Some layout
    → length layout.rows ≤ sum_by (λ l. length l.rows) layouts
fields_of_one [] group layout known = absurd (none_some known) where
  none_some : None ≡ Some layout → ⊥
  none_some e = cc
fields_of_one (l ∷ layouts) zero layout known =
    let same : l ≡ layout = cc in
    omega (arith, sum_by-cons (λ l. length l.rows) l layouts, ap (λ x. length x.rows) same)
fields_of_one (l ∷ layouts) (suc group) layout known =
    omega (arith, sum_by-cons (λ l. length l.rows) l layouts, fields_of_one layouts group layout known)

-- a sample whose record fits into a block costs little
pub cost_small : (layouts : List Layout) (sample : Sample) (limit : ℕ) → SampleFits layouts sample → sum_by (λ l. length l.rows) layouts ≤ 1024
    → encoded_size layouts sample ≤ limit → limit ≤ 16777216 → cost_of layouts sample ≤ 16818272
cost_small layouts sample limit fits few size small =
    let one = fields_of_one layouts sample.group fits.layout fits.known in
    omega (arith, one, fits.entries.count)
