-- The fields of the numbers that are set in a file lie in it.
use Rattle.std.proofs.Common.{◌≡◌, ◌≢◌, ℕ, Bool, true, false, ◌+◌, ◌-◌, List, [], ◌∷◌, length, Option, Some, None, Ok, Err, refl, sym, ◌∙◌, ap, subst, arith}
use Rattle.std.proofs.lemmas.Bool.{eqb-false}
use Rattle.std.specs.Prelude.{nat_eq, if◌then◌else◌}
use Rattle.std.specs.List.{AllByRecursion, flat_map}
use Rattle.mdf_format.specs.Identification.{standard_flags}
use Rattle.mdf_format.specs.declared.kind.Kind.TheVariants.{Cg, Dt}
use Rattle.mdf_block.specs.declared.place.BlockAt.{BlockAt}
use Rattle.mdf_block.specs.Block.{block}
use Rattle.mdf_block.specs.Refusal.{Read}
use Rattle.mdf_block.proofs.Wholes.{block_found}
use Rattle.mdf_group.specs.declared.row.DataRow.{DataRow}
use Rattle.mdf_model.specs.declared.tree.Tree.{Tree}
use Rattle.mdf_model.specs.Contents.{sample_groups}
use Rattle.mdf_model.specs.Tree.{tree}
use Rattle.mdf_stream.proofs.Links.{all_more}
use Rattle.tool_complete.specs.declared.cut.Cut.{Cut}
use Rattle.tool_complete.specs.declared.setting.Setting.{Setting}
use Rattle.tool_complete.specs.Completed.{Split, count_at, counts_by, counts_if, cut_by, cut_settings, cut_with, first_cut, group_count, mended, mended_by, mended_file, or_else, row_counts, row_cut, settings_of, split_of}
use Rattle.tool_complete.specs.Ended.{end_settings, ended_file, last_block, last_by, marked}
use Rattle.tool_complete.specs.Flags.{has_bit}
use Rattle.tool_complete.specs.InWords.{IsHeaded, changes}
use Rattle.tool_complete.specs.Named.{final_name}
use Rattle.tool_complete.specs.Records.{count_of}
use Rattle.tool_complete.specs.Settings.{AreFieldsIn, IsFieldIn}
use Rattle.tool_complete.proofs.Fields.{long_all}
use Rattle.tool_complete.proofs.Naming.{last_is_last}

-- what holds of the numbers that are set here and there holds of all
module _ (P : Setting → Type 0) where
  pub each_set : {A : Type 0} (f : A → List Setting) (xs : List A) → ((x : A) → AllByRecursion P (f x)) → AllByRecursion P (flat_map f xs)
  each_set f [] all = tt
  each_set f (x ∷ xs) all = all_more P (f x) (flat_map f xs) (all x) (each_set f xs all)

  pub either_set : (first other : Option Cut) → AllByRecursion P (cut_settings first) → AllByRecursion P (cut_settings other)
      → AllByRecursion P (cut_settings (or_else first other))
  either_set (Some cut) other all behind = all
  either_set None other all behind = behind

module _ (file : List ℕ) where
  -- the cycle count of a channel group
  count_in : (count at : ℕ) (read : Read BlockAt) → block file at Cg ≡ read → AreFieldsIn (length file) (count_at count read)
  count_in count at (Ok b) is =
      let found = block_found file at Cg b is in
      let body = ap (λ (c : BlockAt). c.body_at) found.1 in
      (omega (arith, body, found.0.filled, found.0.whole), tt)
  count_in count at (Err refusal) is = tt

  split_in : (row : DataRow) (split : Option Split) → AreFieldsIn (length file) (counts_by file row split)
  split_in row (Some split) =
      each_set (IsFieldIn (length file)) (group_count file split.records) (sample_groups row)
      (λ group. count_in (count_of group.0 split.records) group.1.at (block file group.1.at Cg) refl)
  split_in row None = tt

  counts_in : (counted : Bool) (row : DataRow) → AreFieldsIn (length file) (counts_if counted file row)
  unfolding row_counts
  counts_in true row = split_in row (split_of file row)
  counts_in false row = tt

  -- the length of the block that is cut
  name_in : (last : ℕ) (split : Split) (b : BlockAt) (is_final : Bool) → block file last Dt ≡ Ok b
      → AreFieldsIn (length file) (cut_settings (if is_final then Some (cut_with split b) else None))
  name_in last split b true is =
      let found = block_found file last Dt b is in
      let place = ap (λ (c : BlockAt). c.at) found.1 in
      (omega (arith, place, found.0.headed, found.0.whole), tt)
  name_in last split b false is = tt

  block_in : (last : ℕ) (row : DataRow) (read : Read BlockAt) (split : Option Split) → block file last Dt ≡ read
      → AreFieldsIn (length file) (cut_settings (cut_by file last row read split))
  block_in last row (Ok b) (Some split) is = name_in last split b (nat_eq (final_name file row.content) last) is
  block_in last row (Ok b) None is = tt
  block_in last row (Err refusal) split is = tt

  cut_in : (last : ℕ) (row : DataRow) → AreFieldsIn (length file) (cut_settings (row_cut file last row))
  unfolding row_cut
  cut_in last row = block_in last row (block file last Dt) (split_of file row) refl

  first_in : (last : ℕ) (rows : List DataRow) → AreFieldsIn (length file) (cut_settings (first_cut file last rows))
  unfolding first_cut
  first_in last [] = tt
  first_in last (row ∷ rows) =
      either_set (IsFieldIn (length file)) (row_cut file last row) (first_cut file last rows) (cut_in last row) (first_in last rows)

  tree_in : (last : ℕ) (counted : Bool) (read : Read Tree) → AreFieldsIn (length file) (settings_of (mended_by file last counted read))
  tree_in last counted (Ok found) =
      all_more (IsFieldIn (length file)) (cut_settings (first_cut file last found.rows)) (flat_map (counts_if counted file) found.rows) (first_in last found.rows)
      (each_set (IsFieldIn (length file)) (counts_if counted file) found.rows (counts_in counted))
  tree_in last counted (Err refusal) = tt

  mended_in : (last : ℕ) (counted : Bool) → AreFieldsIn (length file) (settings_of (mended file last counted))
  unfolding mended
  mended_in last counted = tree_in last counted (tree file)

  -- the last block, where there is one, is headed
  read_headed : (read : Read Tree) → last_by file read ≢ 0 → IsHeaded file (last_by file read)
  read_headed (Ok found) some = (last_is_last file found.rows some).is_named.headed
  read_headed (Err refusal) some = absurd (some refl)

  bit_headed : (wanted : Bool) → (if wanted then last_by file (tree file) else 0) ≢ 0 → IsHeaded file (if wanted then last_by file (tree file) else 0)
  bit_headed true some = read_headed (tree file) some
  bit_headed false some = absurd (some refl)

module _ (file : List ℕ) (long_marked : length (marked file) ≡ length file) where
  -- its length
  end_in : AreFieldsIn (length file) (end_settings (length file) (last_block file))
  end_in = by_test (nat_eq (last_block file) 0) refl
    where
      by_test : (b : Bool) → nat_eq (last_block file) 0 ≡ b
          → AreFieldsIn (length file) (if b then [] else record { at = last_block file + 8; value = length file - last_block file } ∷ [])
      by_test true is = tt
      by_test false is =
          let headed = bit_headed (marked file) (has_bit (standard_flags file) 2) (eqb-false (last_block file) 0 is) in
          (omega (arith, headed.inside, long_marked), tt)

  pub long_ended : length (ended_file file) ≡ length file
  unfolding ended_file
  long_ended =
      long_all (end_settings (length (marked file)) (last_block file)) (marked file)
      (subst (λ (size : ℕ). AreFieldsIn size (end_settings size (last_block file))) (sym long_marked) end_in)
      ∙ long_marked

  pub changes_in : AreFieldsIn (length file) (changes file)
  changes_in =
      all_more (IsFieldIn (length file)) (end_settings (length file) (last_block file)) (settings_of (mended_file file)) end_in
      (subst (λ (size : ℕ). AreFieldsIn size (settings_of (mended_file file))) long_ended
      (mended_in (ended_file file) (last_block file) (has_bit (standard_flags file) 0)))
