-- The numbers that are set in a file of bytes have 8 bytes.
use Rattle.std.proofs.Common.{◌≡◌, ℕ, zero, suc, Bool, true, false, ◌+◌, ◌-◌, ◌^◌, ◌<◌, List, [], ◌∷◌, ◌++◌, codes, length, take, drop, Option, Some, None, Ok, Err, refl, ap, arith}
use Rattle.std.specs.Prelude.{nat_eq, if◌then◌else◌}
use Rattle.std.specs.Int.{to_le_bytes, w64}
use Rattle.std.specs.List.{AllByRecursion, flat_map}
use Rattle.mdf_format.specs.Block.{links_at, header_size, size_at}
use Rattle.mdf_format.specs.Identification.{standard_flags}
use Rattle.mdf_format.specs.Number.{patched}
use Rattle.mdf_format.specs.declared.kind.Kind.TheVariants.{Cg, Dt}
use Rattle.mdf_block.specs.declared.place.BlockAt.{BlockAt}
use Rattle.mdf_block.specs.Block.{block}
use Rattle.mdf_block.specs.Refusal.{Read}
use Rattle.mdf_block.proofs.Wholes.{block_found}
use Rattle.mdf_stream.proofs.Links.{all_more}
use Rattle.mdf_group.specs.declared.row.DataRow.{DataRow}
use Rattle.mdf_group.specs.declared.row.GroupRow.{GroupRow}
use Rattle.mdf_group.specs.Standing.{IsDataGroup, IsGroup}
use Rattle.mdf_spell.specs.Standing.{AreBytes}
use Rattle.mdf_spell.proofs.Cleans.{row_clean}
use Rattle.mdf_model.specs.declared.tree.Tree.{Tree}
use Rattle.mdf_model.specs.Contents.{sample_groups}
use Rattle.mdf_model.specs.Tree.{tree}
use Rattle.mdf_model.proofs.Wholes.{tree_found}
use Rattle.tool_complete.specs.declared.setting.Setting.{Setting}
use Rattle.tool_complete.specs.Completed.{Split, count_at, counts_by, counts_if, cut_by, cut_settings, cut_with, first_cut, group_count, mended, mended_by, mended_file, row_counts, row_cut, settings_of, split_of}
use Rattle.tool_complete.specs.Ended.{end_settings, ended_file, last_block, marked}
use Rattle.tool_complete.specs.Flags.{has_bit}
use Rattle.tool_complete.specs.InWords.{AreNumbers, changes}
use Rattle.tool_complete.specs.Named.{final_name}
use Rattle.tool_complete.specs.Records.{count_of}
use Rattle.tool_complete.specs.Settings.{set_all, set_one}
use Rattle.tool_complete.proofs.Inside.{each_set, either_set, long_ended}
use Rattle.tool_complete.proofs.Sizes.{IsCyclesFew, split_few}

abbrev IsByte : ℕ → Type 0
IsByte byte = byte < 256

abbrev IsNumber : Setting → Type 0
IsNumber setting = setting.value < 2 ^ 64

-- bytes in the place of others are bytes
bytes_front : (n : ℕ) (bytes : List ℕ) → AreBytes bytes → AreBytes (take n bytes)
bytes_front zero bytes are = tt
bytes_front (suc n) [] are = tt
bytes_front (suc n) (byte ∷ bytes) are = (are.0, bytes_front n bytes are.1)

bytes_behind : (n : ℕ) (bytes : List ℕ) → AreBytes bytes → AreBytes (drop n bytes)
bytes_behind zero bytes are = are
bytes_behind (suc n) [] are = tt
bytes_behind (suc n) (byte ∷ bytes) are = bytes_behind n bytes are.1

patched_bytes : (at : ℕ) (part bytes : List ℕ) → AreBytes part → AreBytes bytes → AreBytes (patched at part bytes)
patched_bytes at part bytes new are =
    all_more IsByte (take at bytes ++ part) (drop (at + length part) bytes) (all_more IsByte (take at bytes) part (bytes_front at bytes are) new)
    (bytes_behind (at + length part) bytes are)

number_bytes : (n : ℕ) → AreBytes (to_le_bytes w64 n)
number_bytes n = (omega arith, (omega arith, (omega arith, (omega arith, (omega arith, (omega arith, (omega arith, (omega arith, tt))))))))

set_bytes : (settings : List Setting) (file : List ℕ) → AreBytes file → AreBytes (set_all settings file)
set_bytes [] file are = are
set_bytes (setting ∷ settings) file are =
    set_bytes settings (set_one setting file) (patched_bytes setting.at (to_le_bytes w64 setting.value) file (number_bytes setting.value) are)

ended_bytes : (file : List ℕ) → AreBytes file → AreBytes (ended_file file)
unfolding ended_file
ended_bytes file are =
    let zeros : List ℕ = 0 ∷ 0 ∷ 0 ∷ 0 ∷ [] in
    let named : AreBytes (codes "MDF     ") =
    (omega arith, (omega arith, (omega arith, (omega arith, (omega arith, (omega arith, (omega arith, (omega arith, tt)))))))) in
    let none : AreBytes zeros = (omega arith, (omega arith, (omega arith, (omega arith, tt)))) in
    set_bytes (end_settings (length (marked file)) (last_block file)) (marked file)
    (patched_bytes 60 zeros (patched 0 (codes "MDF     ") file) none (patched_bytes 0 (codes "MDF     ") file named are))

module _ (file : List ℕ) (short : length file < 2 ^ 44) (are : AreBytes file) where
  -- the cycle counts that the channel groups say
  cycles_few : (groups : List GroupRow) → AllByRecursion (IsGroup file) groups → AllByRecursion IsCyclesFew groups
  cycles_few [] stand = tt
  cycles_few (group ∷ groups) stand = ((row_clean file are group stand.0).sized.cycles, cycles_few groups stand.1)

  module _ (row : DataRow) (stands : IsDataGroup file row) where
    -- the cycle counts that are set
    count_small : (count : ℕ) (read : Read BlockAt) → count < 2 ^ 64 → AreNumbers (count_at count read)
    count_small count (Ok b) small = (small, tt)
    count_small count (Err refusal) small = tt

    split_small : (split : Option Split) → split_of file row ≡ split → AreNumbers (counts_by file row split)
    split_small (Some split) is =
        let few = split_few file row short (cycles_few row.groups stands.groups.each) split is in
        each_set IsNumber (group_count file split.records) (sample_groups row)
        (λ group. count_small (count_of group.0 split.records) (block file group.1.at Cg) (few.each group.0))
    split_small None is = tt

    counts_small : (counted : Bool) → AreNumbers (counts_if counted file row)
    unfolding row_counts
    counts_small true = split_small (split_of file row) refl
    counts_small false = tt

    -- the length of the block that is cut
    name_small : (last : ℕ) (split : Split) (b : BlockAt) (is_final : Bool) → split_of file row ≡ Some split → block file last Dt ≡ Ok b
        → AreNumbers (cut_settings (if is_final then Some (cut_with split b) else None))
    name_small last split b true is there =
        let few = split_few file row short (cycles_few row.groups stands.groups.each) split is in
        let found = block_found file last Dt b there in
        let place : b.at ≡ last = ap (λ (c : BlockAt). c.at) found.1 in
        let body : b.body_at ≡ last + header_size (links_at file last) = ap (λ (c : BlockAt). c.body_at) found.1 in
        let long : b.body_len ≡ size_at file last - header_size (links_at file last) = ap (λ (c : BlockAt). c.body_len) found.1 in
        (omega (arith, place, body, long, few.sized, found.0.headed, found.0.whole, short), tt)
    name_small last split b false is there = tt

    block_small : (last : ℕ) (read : Read BlockAt) (split : Option Split) → block file last Dt ≡ read → split_of file row ≡ split
        → AreNumbers (cut_settings (cut_by file last row read split))
    block_small last (Ok b) (Some split) there is = name_small last split b (nat_eq (final_name file row.content) last) is there
    block_small last (Ok b) None there is = tt
    block_small last (Err refusal) split there is = tt

    cut_small : (last : ℕ) → AreNumbers (cut_settings (row_cut file last row))
    unfolding row_cut
    cut_small last = block_small last (block file last Dt) (split_of file row) refl refl

  first_small : (last : ℕ) (rows : List DataRow) → AllByRecursion (IsDataGroup file) rows → AreNumbers (cut_settings (first_cut file last rows))
  unfolding first_cut
  first_small last [] stand = tt
  first_small last (row ∷ rows) stand =
      either_set IsNumber (row_cut file last row) (first_cut file last rows) (cut_small row stand.0 last) (first_small last rows stand.1)

  rows_small : (counted : Bool) (rows : List DataRow) → AllByRecursion (IsDataGroup file) rows → AreNumbers (flat_map (counts_if counted file) rows)
  rows_small counted [] stand = tt
  rows_small counted (row ∷ rows) stand =
      all_more IsNumber (counts_if counted file row) (flat_map (counts_if counted file) rows) (counts_small row stand.0 counted) (rows_small counted rows stand.1)

  tree_small : (last : ℕ) (counted : Bool) (read : Read Tree) → tree file ≡ read → AreNumbers (settings_of (mended_by file last counted read))
  tree_small last counted (Ok found) is =
      let stand = (tree_found file found is).rows.each in
      all_more IsNumber (cut_settings (first_cut file last found.rows)) (flat_map (counts_if counted file) found.rows)
      (first_small last found.rows stand) (rows_small counted found.rows stand)
  tree_small last counted (Err refusal) is = tt

  mended_small : (last : ℕ) (counted : Bool) → AreNumbers (settings_of (mended file last counted))
  unfolding mended
  mended_small last counted = tree_small last counted (tree file) refl

end_small : (none : Bool) (size at : ℕ) → size < 2 ^ 44 → AreNumbers (if none then [] else record { at = at + 8; value = size - at } ∷ [])
end_small true size at short = tt
end_small false size at short = (omega (arith, short), tt)

pub changes_small : (file : List ℕ) → length (marked file) ≡ length file → length file < 2 ^ 44 → AreBytes file → AreNumbers (changes file)
changes_small file long_marked short are =
    all_more IsNumber (end_settings (length file) (last_block file)) (settings_of (mended_file file))
    (end_small (nat_eq (last_block file) 0) (length file) (last_block file) short)
    (mended_small (ended_file file) (omega (arith, long_ended file long_marked, short)) (ended_bytes file are) (last_block file) (has_bit (standard_flags file) 0))
