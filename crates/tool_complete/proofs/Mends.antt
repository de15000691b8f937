-- The loops that gather what is mended.
use Rattle.std.proofs.Common.{◌≡◌, ◌+◌, ◌<◌, ◌≤◌, ℕ, Bool, true, false, cond, List, [], ◌∷◌, ◌++◌, length, get_or, drop, Option, Some, None, refl, sym, ◌∙◌, ap, append_assoc, append-nil}
use Rattle.std.proofs.lemmas.List.{drop_all}
use Rattle.std.specs.Prelude.{filter, not, if◌then◌else◌}
use Rattle.std.specs.List.{enumerate_from, flat_map}
use Rattle.mdf_format.specs.declared.kind.Kind.TheVariants.{Cg}
use Rattle.mdf_block.specs.Block.{block}
use Rattle.mdf_block.proofs.Rests.{rest_is}
use Rattle.mdf_data.specs.declared.known.Piece.{Piece}
use Rattle.mdf_group.specs.Group.{is_variable}
use Rattle.mdf_group.specs.declared.row.GroupRow.{GroupRow}
use Rattle.mdf_group.specs.declared.row.DataRow.{DataRow}
use Rattle.mdf_model.specs.Contents.{is_of_samples}
use Rattle.tool_complete.specs.declared.cut.Cut.{Cut}
use Rattle.tool_complete.specs.declared.setting.Setting.{Setting}
use Rattle.tool_complete.specs.Completed.{count_at, first_cut, group_count, or_else, row_cut}
use Rattle.tool_complete.specs.Records.{count_of}

-- what one more item gives is added
module _ {A B : Type 0} (f : A → List B) (xs : List A) where
  pub given_more : (k : ℕ) (x : A) (so_far next whole : List B) → k < length xs → x ≡ get_or xs k x → next ≡ so_far ++ f x
      → so_far ++ flat_map f (drop k xs) ≡ whole → next ++ flat_map f (drop (k + 1) xs) ≡ whole
  given_more k x so_far next whole below is added before =
      let rest = flat_map f (drop (k + 1) xs) in
      ap (λ (ys : List B). ys ++ rest) added
      ∙ append_assoc so_far (f x) rest
      ∙ ap (λ (left : List A). so_far ++ flat_map f left) (sym (rest_is xs k x below is))
      ∙ before

  pub given_done : (k : ℕ) (so_far whole : List B) → length xs ≤ k → so_far ++ flat_map f (drop k xs) ≡ whole → so_far ≡ whole
  given_done k so_far whole past before =
      sym (append-nil so_far) ∙ ap (λ (left : List A). so_far ++ flat_map f left) (sym (drop_all k xs past)) ∙ before

-- the cycle counts of channel groups, from a number on
module _ (file : List ℕ) (records : List Piece) where
  abbrev pub counts_from : ℕ → List GroupRow → List Setting
  counts_from k groups = flat_map (group_count file records) (filter is_of_samples (enumerate_from k groups))

  one_count : (k : ℕ) (group : GroupRow) (groups : List GroupRow)
      → counts_from k (group ∷ groups)
      ≡ (if is_variable group then [] else count_at (count_of k records) (block file group.at Cg)) ++ counts_from (k + 1) groups
  one_count k group groups = by_test (is_variable group) refl
    where
      by_test : (b : Bool) → is_variable group ≡ b
          → counts_from k (group ∷ groups) ≡ (if b then [] else count_at (count_of k records) (block file group.at Cg)) ++ counts_from (k + 1) groups
      by_test true is =
          ap (λ (b : Bool). flat_map (group_count file records)
          (cond (not b) ((k, group) ∷ filter is_of_samples (enumerate_from (k + 1) groups)) (filter is_of_samples (enumerate_from (k + 1) groups)))) is
      by_test false is =
          ap (λ (b : Bool). flat_map (group_count file records)
          (cond (not b) ((k, group) ∷ filter is_of_samples (enumerate_from (k + 1) groups)) (filter is_of_samples (enumerate_from (k + 1) groups)))) is

  pub counts_more : (groups : List GroupRow) (k count : ℕ) (group : GroupRow) (settings next whole : List Setting) → k < length groups
      → group ≡ get_or groups k group → count ≡ count_of k records
      → next ≡ settings ++ (if is_variable group then [] else count_at count (block file group.at Cg))
      → settings ++ counts_from k (drop k groups) ≡ whole → next ++ counts_from (k + 1) (drop (k + 1) groups) ≡ whole
  counts_more groups k count group settings next whole below is counted added before =
      let rest = counts_from (k + 1) (drop (k + 1) groups) in
      let here : ℕ → List Setting = λ n. if is_variable group then [] else count_at n (block file group.at Cg) in
      ap (λ (ys : List Setting). ys ++ rest) added
      ∙ append_assoc settings (here count) rest
      ∙ ap (λ (n : ℕ). settings ++ (here n ++ rest)) counted
      ∙ ap (λ (ys : List Setting). settings ++ ys) (sym (one_count k group (drop (k + 1) groups)))
      ∙ ap (λ (left : List GroupRow). settings ++ counts_from k left) (sym (rest_is groups k group below is))
      ∙ before

  pub counts_done : (groups : List GroupRow) (k : ℕ) (settings whole : List Setting) → length groups ≤ k
      → settings ++ counts_from k (drop k groups) ≡ whole → settings ≡ whole
  counts_done groups k settings whole past before =
      sym (append-nil settings) ∙ ap (λ (left : List GroupRow). settings ++ counts_from k left) (sym (drop_all k groups past)) ∙ before

-- the first cut, of three
or_else_joins : (first second third : Option Cut) → or_else (or_else first second) third ≡ or_else first (or_else second third)
or_else_joins (Some cut) second third = refl
or_else_joins None second third = refl

-- the first cut of data groups
module _ (file : List ℕ) (last : ℕ) (rows : List DataRow) where
  pub cut_more : (k : ℕ) (row : DataRow) (cut next whole : Option Cut) → k < length rows → row ≡ get_or rows k row
      → next ≡ or_else cut (row_cut file last row) → or_else cut (first_cut file last (drop k rows)) ≡ whole
      → or_else next (first_cut file last (drop (k + 1) rows)) ≡ whole
  unfolding first_cut
  cut_more k row cut next whole below is found before =
      let rest = first_cut file last (drop (k + 1) rows) in
      ap (λ (one : Option Cut). or_else one rest) found
      ∙ or_else_joins cut (row_cut file last row) rest
      ∙ ap (λ (left : List DataRow). or_else cut (first_cut file last left)) (sym (rest_is rows k row below is))
      ∙ before

  or_none : (cut : Option Cut) → cut ≡ or_else cut None
  or_none (Some cut) = refl
  or_none None = refl

  pub cut_done : (k : ℕ) (cut whole : Option Cut) → length rows ≤ k → or_else cut (first_cut file last (drop k rows)) ≡ whole → cut ≡ whole
  unfolding first_cut
  cut_done k cut whole past before =
      or_none cut ∙ ap (λ (left : List DataRow). or_else cut (first_cut file last left)) (sym (drop_all k rows past)) ∙ before
