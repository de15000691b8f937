-- The loops that look for the last block.
use Rattle.std.proofs.Common.{◌≡◌, ◌+◌, ◌<◌, ◌≤◌, ℕ, Bool, true, false, cond, List, ◌∷◌, length, get_or, drop, refl, sym, ◌∙◌, ap, arith}
use Rattle.std.proofs.lemmas.List.{drop_all, get_or_default}
use Rattle.std.specs.Prelude.{max, filter, if◌then◌else◌}
use Rattle.mdf_block.proofs.Rests.{rest_is}
use Rattle.mdf_group.specs.declared.row.DataRow.{DataRow}
use Rattle.tool_complete.specs.Ended.{last_of}
use Rattle.tool_complete.specs.Named.{data_names, greatest, is_headed, last_named}

module _ (test : ℕ → Bool) (names : List ℕ) where
  by_test : (b : Bool) (last name : ℕ) (rest : List ℕ)
      → max (if b then max last name else last) (greatest (filter test rest)) ≡ max last (greatest (cond b (name ∷ filter test rest) (filter test rest)))
  by_test true last name rest = omega arith
  by_test false last name rest = refl

  -- one more is looked at
  pub headed_more : (k last next d whole : ℕ) → k < length names → next ≡ (if test (get_or names k d) then max last (get_or names k d) else last)
      → max last (greatest (filter test (drop k names))) ≡ whole → max next (greatest (filter test (drop (k + 1) names))) ≡ whole
  headed_more k last next d whole below is_next so_far =
      let name = get_or names k d in
      let here = rest_is names k name below (get_or_default names k d name below) in
      ap (λ (n : ℕ). max n (greatest (filter test (drop (k + 1) names)))) is_next
      ∙ by_test (test name) last name (drop (k + 1) names)
      ∙ ap (λ (xs : List ℕ). max last (greatest (filter test xs))) (sym here)
      ∙ so_far

  -- all are looked at
  pub headed_done : (k last whole : ℕ) → length names ≤ k → max last (greatest (filter test (drop k names))) ≡ whole → last ≡ whole
  headed_done k last whole past so_far =
      let none : max last 0 ≡ last = omega arith in
      sym none ∙ ap (λ (xs : List ℕ). max last (greatest (filter test xs))) (sym (drop_all k names past)) ∙ so_far

-- one more data group is looked at
module _ (file : List ℕ) (rows : List DataRow) where
  pub last_more : (k last next : ℕ) (row : DataRow) (names : List ℕ) (whole : ℕ) → k < length rows → row ≡ get_or rows k row
      → names ≡ data_names file row.content → next ≡ max last (greatest (filter (is_headed file) names))
      → max last (last_of file (drop k rows)) ≡ whole → max next (last_of file (drop (k + 1) rows)) ≡ whole
  unfolding last_of
  last_more k last next row names whole below is named found before =
      let rest = last_of file (drop (k + 1) rows) in
      let here = last_named file row.content in
      let joins : max (max last here) rest ≡ max last (max here rest) = omega arith in
      ap (λ (n : ℕ). max n rest) found
      ∙ ap (λ (xs : List ℕ). max (max last (greatest (filter (is_headed file) xs))) rest) named
      ∙ joins
      ∙ ap (λ (left : List DataRow). max last (last_of file left)) (sym (rest_is rows k row below is))
      ∙ before

  pub last_done : (k last whole : ℕ) → length rows ≤ k → max last (last_of file (drop k rows)) ≡ whole → last ≡ whole
  unfolding last_of
  last_done k last whole past before =
      let none : max last 0 ≡ last = omega arith in
      sym none ∙ ap (λ (left : List DataRow). max last (last_of file left)) (sym (drop_all k rows past)) ∙ before
