-- A sorted file is valid, and has the measurement of which it is made.
use Rattle.std.proofs.Common.{◌≡◌, ◌^◌, ◌<◌, ℕ, List, [], ◌∷◌, ◌++◌, length, map, refl, sym, ◌∙◌, ap, subst, inl, inr, arith, append-nil, append_assoc}
use Rattle.std.specs.Prelude.{codes}
use Rattle.std.specs.List.{flat_map, AllByRecursion, AllZip}
use Rattle.mdf_format.specs.Identification.{standard_flags, custom_flags}
use Rattle.mdf_block.specs.Draft.{Placed, link_number, block_bytes, written, AllStand}
use Rattle.mdf_head.specs.Head.{IsHead}
use Rattle.mdf_group.specs.declared.row.GroupRow.{GroupRow}
use Rattle.mdf_group.proofs.Nested.{without_limit}
use Rattle.mdf_tree.specs.Text.{IsText}
use Rattle.mdf_tree.specs.Group.{next_link, IsDataGroupWritable}
use Rattle.mdf_tree.specs.Head.{placed_history, head_blocks, entry_text, new_entry, IsEntryWritable}
use Rattle.mdf_tree.proofs.Has.{Has, has_left, has_right}
use Rattle.mdf_tree.proofs.Heads.{head_stands, entries_same}
use Rattle.mdf_spell.specs.Session.{finalized_ident}
use Rattle.mdf_spell.specs.Standing.{AreBytes}
use Rattle.mdf_spell.proofs.Cleans.{history_clean, head_clean}
use Rattle.mdf_spell.proofs.SessionTrees.{head_long, entry_writable, all_with}
use Rattle.mdf_model.specs.declared.part.Measure.{Measure}
use Rattle.mdf_model.specs.Measurement.{Measured}
use Rattle.mdf_model.specs.InWords.{IsFinalizedMdf, IsMeasurement}
use Rattle.mdf_model.specs.Same.{plain_group}
use Rattle.tool_sort.specs.Kept.{IsMeasureIn, StandsIn, SameRecords, rows_of, IsSortedOf}
use Rattle.tool_sort.specs.Sorted.{IsTitle, sorted_group, sorted_row, group_number, past_part, values_links, measures_blocks, sorted_history, first_measure, sorted_blocks}
use Rattle.tool_sort.proofs.Fields.{group_plain}
use Rattle.tool_sort.proofs.Standing.{placed_one, placed_rows, part_writable, measures_stand}
use Rattle.tool_sort.proofs.Holding.{all_contents, placed_measures, all_hold, groups_are}

-- the identification is that of a finalized file
pub ident_is : (rest : List ℕ) → IsFinalizedMdf (finalized_ident ++ rest) × (standard_flags (finalized_ident ++ rest) ≡ 0)
    × (custom_flags (finalized_ident ++ rest) ≡ 0)
ident_is rest = (
  record {
    mdf = record { long = omega arith; marked = inl refl };
    version = record { not_below = omega arith; not_above = omega arith };
    finalized = refl;
  },
  refl,
  refl,
)

-- the new entry has no zero byte
title_clean : (title : List ℕ) → IsTitle title → IsText (entry_text title)
title_clean title (inl is) =
    let clean : IsText (entry_text (codes "sort")) = grind arith in subst (λ (t : List ℕ). IsText (entry_text t)) (sym is) clean
title_clean title (inr (inl is)) =
    let clean : IsText (entry_text (codes "cut")) = grind arith in subst (λ (t : List ℕ). IsText (entry_text t)) (sym is) clean
title_clean title (inr (inr (inl is))) =
    let clean : IsText (entry_text (codes "concat")) = grind arith in subst (λ (t : List ℕ). IsText (entry_text t)) (sym is) clean
title_clean title (inr (inr (inr (inl is)))) =
    let clean : IsText (entry_text (codes "attach")) = grind arith in subst (λ (t : List ℕ). IsText (entry_text t)) (sym is) clean
title_clean title (inr (inr (inr (inr is)))) =
    let clean : IsText (entry_text (codes "finalize")) = grind arith in subst (λ (t : List ℕ). IsText (entry_text t)) (sym is) clean

-- all entries of the history can be written
pub entries_clean : (source : List ℕ) (m : Measured) (title : List ℕ) (now : ℕ) → IsTitle title → now < 2 ^ 64 → StandsIn source m
    → AllByRecursion IsEntryWritable (sorted_history m title now)
entries_clean source m title now named in_time is =
    all_with IsEntryWritable m.history (new_entry title now) (history_clean source is.bytes m.history is.head.entries)
    (entry_writable title now (title_clean title named) in_time)

-- all groups can be written
all_writable : (file : List ℕ) (groups : List Measure) → AreBytes file → AllByRecursion (IsMeasureIn file) groups
    → AllByRecursion (λ (m : Measure). m.count < 2 ^ 64) groups
    → AllByRecursion (λ (m : Measure). IsDataGroupWritable (sorted_row m.part m.count)) groups
all_writable file [] bytes are fit = tt
all_writable file (m ∷ rest) bytes are fit = (part_writable file m bytes are.0 fit.0, all_writable file rest bytes are.1 fit.1)

-- so do the groups
rows_same : (blocks : List Placed) (n : ℕ) (groups : List Measure)
    → map plain_group (rows_of groups) ≡ map plain_group (rows_of (placed_measures blocks n groups))
rows_same blocks n [] = refl
rows_same blocks n (m ∷ rest) =
    let next = past_part n m.part in
    ap (λ (row : GroupRow). row ∷ map plain_group (rows_of rest))
    (group_plain blocks (group_number n m.part) (values_links n m.part) (sorted_group m.part m.count))
    ∙ ap (λ (more : List GroupRow). plain_group (placed_one blocks n m.part m.count) ∷ more) (rows_same blocks next rest)

records_same : (blocks : List Placed) (n : ℕ) (groups : List Measure) → AllZip SameRecords groups (placed_measures blocks n groups)
records_same blocks n [] = tt
records_same blocks n (m ∷ rest) = (
  record { shape = refl; count = refl; content = refl; streams = refl; comment = refl },
  records_same blocks (past_part n m.part) rest,
)

-- a head that stands in a file, with the groups behind it, and maybe more blocks
pub kept_behind : (source rest : List ℕ) (m : Measured) (title : List ℕ) (now : ℕ) (hd more : List Placed) → length hd ≡ first_measure m title now
    → StandsIn source m → AllByRecursion (λ (one : Measure). one.count < 2 ^ 64) m.groups
    → AllStand (finalized_ident ++ rest) (hd ++ (measures_blocks (first_measure m title now) m.groups ++ more))
    → IsHead (finalized_ident ++ rest) (record m.head {
      first_dg = link_number (hd ++ (measures_blocks (first_measure m title now) m.groups ++ more)) (next_link (first_measure m title now) m.groups);
    }) (placed_history (hd ++ (measures_blocks (first_measure m title now) m.groups ++ more)) 1 (sorted_history m title now))
    → IsSortedOf m title now (finalized_ident ++ rest)
kept_behind source rest m title now hd more long is fit all head =
    let file = finalized_ident ++ rest in
    let entries = sorted_history m title now in
    let n = first_measure m title now in
    let link = next_link n m.groups in
    let groups = measures_blocks n m.groups in
    let blocks = hd ++ (groups ++ more) in
    let whole : Has blocks 0 (hd ++ groups) = record { front = []; rest = more; split = sym (append_assoc hd groups more); number = refl } in
    let behind = subst (λ (k : ℕ). Has blocks k groups) (omega (arith, long)) (has_right blocks 0 hd groups whole) in
    let tree = measures_stand file blocks all n m.groups (all_writable source m.groups is.bytes is.groups fit) behind in
    let hold = all_hold source file blocks n m.groups is.groups tree.1 in
    let ident = ident_is rest in
    let measurement : IsMeasurement file (record m.head { first_dg = link_number blocks link }) (placed_history blocks 1 entries) (placed_measures blocks n m.groups) =
    record {
      ident = ident.0;
      stands = head;
      rows = placed_rows blocks n m.groups;
      tree = without_limit file (link_number blocks link) (placed_rows blocks n m.groups) tree.0;
      contents = all_contents m.groups;
      hold = hold.0;
      groups_are = groups_are source blocks n m.groups is.groups;
    } in record {
      valid = record {
        standard = ident.1;
        custom = ident.2;
        head = record m.head { first_dg = link_number blocks link };
        history = placed_history blocks 1 entries;
        groups = placed_measures blocks n m.groups;
        measurement = measurement;
        each = hold.1;
      };
      head = record m.head { first_dg = link_number blocks link };
      history = placed_history blocks 1 entries;
      groups = placed_measures blocks n m.groups;
      measurement = measurement;
      same_head = refl;
      same_history = sym (entries_same blocks 1 entries);
      same_rows = rows_same blocks n m.groups;
      same_records = records_same blocks n m.groups;
    }

sorted_kept : (source rest : List ℕ) (m : Measured) (title : List ℕ) (now : ℕ) → IsTitle title → now < 2 ^ 64 → StandsIn source m
    → AllByRecursion (λ (one : Measure). one.count < 2 ^ 64) m.groups
    → AllStand (finalized_ident ++ rest) (sorted_blocks m title now) → IsSortedOf m title now (finalized_ident ++ rest)
unfolding sorted_blocks
sorted_kept source rest m title now named in_time is fit all =
    let file = finalized_ident ++ rest in
    let entries = sorted_history m title now in
    let n = first_measure m title now in
    let link = next_link n m.groups in
    let hd = head_blocks m.head entries link in
    let groups = measures_blocks n m.groups in
    let blocks = hd ++ (groups ++ []) in
    let same : hd ++ groups ≡ blocks = ap (λ (xs : List Placed). hd ++ xs) (sym (append-nil groups)) in
    let stand : AllStand file blocks = subst (λ (given : List Placed). AllStand file given) same all in
    let has : Has blocks 0 hd = record { front = []; rest = groups ++ []; split = refl; number = refl } in
    kept_behind source rest m title now hd [] (head_long m.head entries link) is fit stand
    (head_stands file blocks stand m.head entries link (head_clean source is.bytes m.head m.history is.head)
    (entries_clean source m title now named in_time is) has)

-- so are the bytes that are written of its blocks
pub spelled_kept : (source bytes : List ℕ) (blocks : List Placed) (m : Measured) (title : List ℕ) (now : ℕ) → IsTitle title → now < 2 ^ 64
    → StandsIn source m → AllByRecursion (λ (one : Measure). one.count < 2 ^ 64) m.groups → blocks ≡ sorted_blocks m title now
    → bytes ≡ written finalized_ident blocks → AllStand bytes blocks → IsSortedOf m title now bytes
spelled_kept source bytes blocks m title now named in_time stands fit placed is stand =
    let all = sorted_blocks m title now in
    let same : bytes ≡ written finalized_ident all = is ∙ ap (λ (given : List Placed). written finalized_ident given) placed in
    let here = subst (λ (given : List ℕ). AllStand given all) same (subst (λ (given : List Placed). AllStand bytes given) placed stand) in
    subst (IsSortedOf m title now) (sym same) (sorted_kept source (flat_map (block_bytes all) all) m title now named in_time stands fit here)
