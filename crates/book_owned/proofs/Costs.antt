-- What samples cost.
use Rattle.std.proofs.Common.{◌≡◌, ◌+◌, ◌-◌, ◌*◌, ◌≤◌, ℕ, List, [], ◌∷◌, ◌++◌, length, drop, sum_by, sym, ◌∙◌, ap, arith, length-append, length-drop}
use Rattle.std.proofs.lemmas.List.Sums.{sum_by-cons, sum_by-append}
use Rattle.std.proofs.lemmas.List.{take_all, drop-drop}
use Rattle.std.proofs.Math.Seq.{drop-append_seam}
use mathlib.Core.List.{IsPrefix}
use Rattle.mdf_layout.specs.Layout.{Layout}
use Rattle.mdf_layout.specs.Behind.{variables, first_id}
use Rattle.mdf_layout.specs.Record.{encoded_size, cost_of, history_cost, history_size}
use Rattle.mdf_layout.specs.declared.sample.Sample.{Sample}

-- each sample costs 96 and the length of its record at least
pub cost_of-least : (layouts : List Layout) (sample : Sample) → encoded_size layouts sample + 96 ≤ cost_of layouts sample
cost_of-least layouts sample = omega arith

pub history_cost-least : (layouts : List Layout) (history : List Sample) → history_size layouts history + 96 * length history ≤ history_cost layouts history
history_cost-least layouts [] = omega arith
history_cost-least layouts (sample ∷ history) =
    omega (arith, sum_by-cons (cost_of layouts) sample history, sum_by-cons (encoded_size layouts) sample history, cost_of-least layouts sample, history_cost-least layouts history)

pub history_cost-append : (layouts : List Layout) (xs ys : List Sample) → history_cost layouts (xs ++ ys) ≡ history_cost layouts xs + history_cost layouts ys
history_cost-append layouts xs ys = sum_by-append (cost_of layouts) xs ys

-- a part of the samples from a place on
module _ (history part : List Sample) (at : ℕ) (begins : IsPrefix part (drop at history)) where
  pub part_within : length part ≤ length history - at
  part_within = omega (arith, ap length begins.1, length-append part begins.0, length-drop at history)

  pub part_counted : (layouts : List Layout)
      → history_size layouts part + history_size layouts (drop (at + length part) history) ≡ history_size layouts (drop at history)
  part_counted layouts =
      let rest : drop (at + length part) history ≡ begins.0 =
      sym (drop-drop (length part) at history) ∙ ap (drop (length part)) (sym begins.1) ∙ drop-append_seam part begins.0 in
      omega (arith, sum_by-append (encoded_size layouts) part begins.0, ap (history_size layouts) begins.1, ap (history_size layouts) rest)

-- the ids of values fit into a byte
pub ids_small : (layouts : List Layout) → length layouts ≤ 64 → sum_by (λ layout. length (variables layout.rows)) layouts ≤ 128
    → first_id layouts (length layouts) ≤ 255
ids_small layouts groups few =
    omega (arith, groups, few, ap (sum_by (λ (layout : Layout). length (variables layout.rows))) (take_all (length layouts) layouts (omega arith)))
