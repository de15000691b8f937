-- What is shown of a file is the same where the places of some groups are counted alone.
use Rattle.std.proofs.Common.{◌≡◌, ℕ, Bool, List, [], ◌∷◌, ◌++◌, map, Option, Some, None, Ok, Err, refl, sym, ◌∙◌, ap, subst}
use Rattle.std.specs.Prelude.{◌&&◌, nat_eq}
use Rattle.std.specs.List.{flat_map, list_all, zip}
use Rattle.std.proofs.lemmas.List.{map-append}
use Rattle.std.proofs.lemmas.Simd.{map-map}
use Rattle.mdf_num.specs.declared.halt.Halt.{Halt}
use Rattle.mdf_num.specs.declared.halt.Halt.TheVariants as halts
use Rattle.mdf_block.specs.Refusal.{Halts, Read, Refusal, Refuses, ◌>>=◌}
use Rattle.mdf_block.proofs.Refusals.{bind_ok}
use Rattle.mdf_group.specs.declared.row.DataRow.{DataRow}
use Rattle.mdf_group.specs.declared.row.GroupRow.{GroupRow}
use Rattle.mdf_content.specs.declared.fault.ReadFault.{ReadFault}
use Rattle.mdf_content.specs.declared.found.DataFound.{DataFound}
use Rattle.mdf_content.specs.declared.wanted.Wanted.{Wanted}
use Rattle.mdf_content.specs.Fault.{read_refusal}
use Rattle.mdf_content.specs.Kept.{kept_found}
use Rattle.mdf_model.specs.declared.whole.WholeFound.{WholeFound}
use Rattle.mdf_model.specs.Found.{whole_found}
use Rattle.mdf_model.specs.Kept.{found_by, found_kept, kept_all, kept_whole, whole_by, whole_kept}
use Rattle.mdf_model.proofs.Kepts.{whole_by_is}
use Rattle.mdf_paged.specs.Groups.{Located, group_rows, groups_in, groups_of, is_strict, located, rows_in, shown_groups}

ok_is : {A : Type 0} (x y : A) → ◌≡◌ {A = Read A} (Ok x) (Ok y) → x ≡ y
ok_is x y same = cc

module _ (wanted : Wanted) where
  rows_same : (rows : List DataRow) (found : List DataFound)
      → flat_map rows_in (zip rows (kept_all wanted rows found)) ≡ flat_map rows_in (zip rows found)
  rows_same [] found = refl
  rows_same (row ∷ rows) [] = refl
  rows_same (row ∷ rows) (one ∷ found) = ap (λ (rest : List GroupRow). rows_in (row, one) ++ rest) (rows_same rows found)

  abbrev count : Located → ℕ
  count place = place.group.count

  counts_same : (rows : List DataRow) (found : List DataFound)
      → map count (flat_map groups_in (kept_all wanted rows found)) ≡ map count (flat_map groups_in found)
  counts_same [] found = refl
  counts_same (row ∷ rows) [] = refl
  counts_same (row ∷ rows) (one ∷ found) =
      let less = kept_found wanted row one in
      let rest = flat_map groups_in (kept_all wanted rows found) in
      let here : map count (groups_in less) ≡ map count (groups_in one) =
      map-map count (located less) one.groups ∙ sym (map-map count (located one) one.groups) in
      map-append count (groups_in less) rest
      ∙ ap (λ (front : List ℕ). front ++ map count rest) here
      ∙ ap (λ (behind : List ℕ). map count (groups_in one) ++ behind) (counts_same rows found)
      ∙ sym (map-append count (groups_in one) (flat_map groups_in found))

  all_strict : (rows : List DataRow) (found : List DataFound)
      → list_all (λ (one : DataFound). one.strict) (kept_all wanted rows found) ≡ list_all (λ (one : DataFound). one.strict) found
  all_strict [] found = refl
  all_strict (row ∷ rows) [] = refl
  all_strict (row ∷ rows) (one ∷ found) = ap (λ (b : Bool). one.strict && b) (all_strict rows found)

  pub rows_kept : (all : WholeFound) → group_rows (kept_whole wanted all) ≡ group_rows all
  rows_kept all = rows_same all.tree.rows all.found

  pub counts_kept : (all : WholeFound) → map count (groups_of (kept_whole wanted all)) ≡ map count (groups_of all)
  counts_kept all = counts_same all.tree.rows all.found

  pub shown_kept : (all : WholeFound) → shown_groups (kept_whole wanted all) ≡ shown_groups all
  shown_kept all =
      ap (λ (rows : List GroupRow). zip rows (map count (groups_of (kept_whole wanted all)))) (rows_kept all)
      ∙ ap (λ (counts : List ℕ). zip (group_rows all) counts) (counts_kept all)

  pub strict_kept : (all : WholeFound) → is_strict (kept_whole wanted all) ≡ is_strict all
  strict_kept all =
      ap (λ (b : Bool). nat_eq all.ident.std_flags 0 && (nat_eq all.ident.custom_flags 0 && b)) (all_strict all.tree.rows all.found)

module _ (wanted : List DataRow → Wanted) where
  -- what is found so is found of the file
  pub kept_by_from : (file : List ℕ) (now : WholeFound) → found_by wanted file ≡ Ok now
      → (all : WholeFound) × (whole_found file ≡ Ok all) × (kept_whole (wanted all.tree.rows) all ≡ now)
  kept_by_from file now read =
      let found = bind_ok (whole_found file) (λ all. Ok (kept_whole (wanted all.tree.rows) all)) now read in (found.0, found.1, ok_is _ _ found.2)

  -- and what is refused so is refused
  refused_by : (refusal : Option Refusal) (read : Read WholeFound) → Refuses refusal (read >>= λ all. Ok (kept_whole (wanted all.tree.rows) all))
      → Refuses refusal read
  refused_by None read refused = refused
  refused_by (Some refusal) (Ok all) refused =
      let wrong : ◌≡◌ {A = Read WholeFound} (Ok (kept_whole (wanted all.tree.rows) all)) (Err refusal) = refused in cc
  refused_by (Some refusal) (Err first) refused = refused

  pub kept_by_refused : (file : List ℕ) (refusal : Option Refusal) → Refuses refusal (found_by wanted file) → Refuses refusal (whole_found file)
  kept_by_refused file refusal refused = refused_by refusal (whole_found file) refused

  pub kept_by_halts : (file : List ℕ) (halt : Halt ReadFault) → Halts read_refusal halt (whole_by wanted file)
      → Halts read_refusal halt (found_by wanted file)
  kept_by_halts file halt halted = subst (Halts read_refusal halt) (whole_by_is wanted file) halted

  -- and for want of the same reason
  pub found_by_halts : (file : List ℕ) (halt : Halt ReadFault) → Halts read_refusal halt (found_by wanted file) → Halts read_refusal halt (whole_found file)
  found_by_halts file (halts.Fault fault) halted = kept_by_refused file (read_refusal fault) halted
  found_by_halts file halts.Failed halted = halted
  found_by_halts file halts.Memory halted = halted

pub kept_from : (wanted : Wanted) (file : List ℕ) (now : WholeFound) → found_kept wanted file ≡ Ok now
    → (all : WholeFound) × (whole_found file ≡ Ok all) × (kept_whole wanted all ≡ now)
kept_from wanted file now read = kept_by_from (λ _. wanted) file now read

pub kept_refused : (wanted : Wanted) (file : List ℕ) (refusal : Option Refusal) → Refuses refusal (found_kept wanted file)
    → Refuses refusal (whole_found file)
kept_refused wanted file refusal refused = kept_by_refused (λ _. wanted) file refusal refused

pub kept_halts : (wanted : Wanted) (file : List ℕ) (halt : Halt ReadFault) → Halts read_refusal halt (whole_kept wanted file)
    → Halts read_refusal halt (found_kept wanted file)
kept_halts wanted file halt halted = kept_by_halts (λ _. wanted) file halt halted
