-- The completed file is the marked one in which numbers are set, and its last block is the last in words.
use Rattle.std.proofs.Common.{◌≡◌, ◌≢◌, ◌≤◌, ◌<◌, ◌^◌, ℕ, true, List, [], ◌∷◌, ◌++◌, codes, length, get_or, Ok, refl, sym, ◌∙◌, ap, subst, inl, arith}
use Rattle.std.proofs.lemmas.Bool.{cond-true}
use Rattle.mdf_disk.proofs.Patches.{get_or-patched, length-patched}
use Rattle.mdf_format.specs.Identification.{standard_flags}
use Rattle.mdf_format.specs.Number.{bytes_at, patched}
use Rattle.mdf_spell.specs.Standing.{AreBytes}
use Rattle.mdf_model.specs.declared.tree.Tree.{Tree}
use Rattle.mdf_model.specs.Tree.{tree}
use Rattle.tool_complete.specs.declared.setting.Setting.{Setting}
use Rattle.tool_complete.specs.Completed.{completed_file, mended_file, settings_of}
use Rattle.tool_complete.specs.Ended.{end_settings, ended_file, last_block, last_by, last_of, marked}
use Rattle.tool_complete.specs.Flags.{has_bit}
use Rattle.tool_complete.specs.InWords.{AreNumbers, AreSetIn, IsHeaded, IsLastBlock, IsNamedIn, changes}
use Rattle.tool_complete.specs.Settings.{AreFieldsIn, set_all, set_one}
use Rattle.tool_complete.proofs.Fields.{are_set}
use Rattle.tool_complete.proofs.Inside.{changes_in}
use Rattle.tool_complete.proofs.Naming.{last_is_last, none_is_last}
use Rattle.tool_complete.proofs.Numbers.{changes_small}

set_behind : (first other : List Setting) (file : List ℕ) → set_all (first ++ other) file ≡ set_all other (set_all first file)
set_behind [] other file = refl
set_behind (setting ∷ first) other file = set_behind first other (set_one setting file)

module _ (file : List ℕ) (long : 64 ≤ length file) where
  long_marked : length (marked file) ≡ length file
  long_marked =
      let one = length-patched 0 (codes "MDF     ") file (omega arith) in
      let two = length-patched 60 (0 ∷ 0 ∷ 0 ∷ 0 ∷ []) (patched 0 (codes "MDF     ") file) (omega (arith, long, one)) in
      omega (arith, long, one, two)

  completed_is_set : completed_file file ≡ set_all (changes file) (marked file)
  unfolding completed_file ended_file
  completed_is_set =
      ap (λ (size : ℕ). set_all (settings_of (mended_file file)) (set_all (end_settings size (last_block file)) (marked file))) long_marked
      ∙ sym (set_behind (end_settings (length file) (last_block file)) (settings_of (mended_file file)) (marked file))

  pub completed_inside : AreFieldsIn (length file) (changes file)
  completed_inside = changes_in file long_marked

  pub completed_reads : AreSetIn (marked file) (changes file) (completed_file file)
  completed_reads =
      subst (AreSetIn (marked file) (changes file)) (sym completed_is_set) (are_set (marked file) (changes file) (rw long_marked completed_inside))

  pub completed_numbers : length file < 2 ^ 44 → AreBytes file → AreNumbers (changes file)
  completed_numbers = changes_small file long_marked

  -- no DTBLOCK stands where the identification does
  first_byte : get_or (marked file) 0 0 ≡ 77
  first_byte =
      let one = length-patched 0 (codes "MDF     ") file (omega arith) in
      get_or-patched 60 (0 ∷ 0 ∷ 0 ∷ 0 ∷ []) (patched 0 (codes "MDF     ") file) (omega (arith, long, one)) 0 (inl (omega arith))

  none_at_first : IsHeaded (marked file) 0 → ⊥
  none_at_first headed =
      let letter : get_or (bytes_at 4 (marked file) 0) 0 0 ≡ 35 = ap (λ (name : List ℕ). get_or name 0 0) headed.named in
      omega (arith, letter, first_byte)

  module _ (found : Tree) (wanted : has_bit (standard_flags file) 2 ≡ true) (there : tree (marked file) ≡ Ok found) where
    last_is : last_block file ≡ last_of (marked file) found.rows
    last_is =
        cond-true (has_bit (standard_flags file) 2) (last_by (marked file) (tree (marked file))) 0 wanted
        ∙ ap (last_by (marked file)) there

    pub last_stands : last_block file ≢ 0 → IsLastBlock (marked file) found.rows (last_block file)
    last_stands some =
        subst (IsLastBlock (marked file) found.rows) (sym last_is) (last_is_last (marked file) found.rows (λ none. some (last_is ∙ none)))

    pub none_stands : (at : ℕ) → last_block file ≡ 0 → IsNamedIn (marked file) found.rows at → ⊥
    none_stands at none is =
        let first = none_is_last (marked file) found.rows at (sym last_is ∙ none) is in
        none_at_first (subst (IsHeaded (marked file)) first is.headed)
