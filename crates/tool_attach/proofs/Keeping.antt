-- The file with attachments is valid, and has the measurement of which it is made and these attachments.
use Rattle.std.proofs.Common.{◌≡◌, ◌^◌, ◌<◌, ℕ, List, [], ◌∷◌, ◌++◌, length, map, refl, sym, ◌∙◌, ap, subst, inl, inr, arith, append-nil}
use Rattle.std.proofs.lemmas.List.{take_at}
use Rattle.std.specs.Prelude.{codes}
use Rattle.std.specs.List.{flat_map, AllByRecursion}
use Rattle.mdf_format.specs.Block.{link_at, IsChain}
use Rattle.mdf_format.specs.declared.kind.Kind.TheVariants.{At}
use Rattle.mdf_block.specs.declared.link.Link.{Link}
use Rattle.mdf_block.specs.Draft.{Placed, end_of, link_number, block_bytes, with_link, written, AllStand}
use Rattle.mdf_block.proofs.Laying.{length-written}
use Rattle.mdf_head.specs.declared.entry.Head.{Head}
use Rattle.mdf_head.specs.declared.entry.History.{History}
use Rattle.mdf_head.specs.Head.{IsHead}
use Rattle.mdf_attach.specs.declared.attachment.Attachment.{Attachment}
use Rattle.mdf_attach.specs.Stands.{AreAttachments, AreFew}
use Rattle.mdf_tree.specs.Group.{next_link}
use Rattle.mdf_tree.specs.Head.{placed_history, linked_head_blocks}
use Rattle.mdf_tree.proofs.Has.{Has, has_right, here}
use Rattle.mdf_tree.proofs.Heads.{linked_head_stands}
use Rattle.mdf_spell.specs.Session.{finalized_ident}
use Rattle.mdf_spell.proofs.Cleans.{head_clean}
use Rattle.mdf_spell.proofs.SessionTrees.{linked_head_long}
use Rattle.mdf_model.specs.declared.part.Measure.{Measure}
use Rattle.mdf_model.specs.Measurement.{Measured}
use Rattle.tool_sort.specs.Kept.{StandsIn, IsSortedOf}
use Rattle.tool_sort.specs.Sorted.{measures_blocks, sorted_history, first_measure, sorted_blocks, sorted_file}
use Rattle.tool_sort.proofs.Keeping.{ident_is, entries_clean, kept_behind}
use Rattle.tool_attach.specs.Attached.{attachments_blocks, placed_attachments, attached_blocks, first_place, IsAttachmentWritable, IsAttachedOf}
use Rattle.tool_attach.proofs.Placing.{length-with_link, rooms_same, header_named}
use Rattle.tool_attach.proofs.Standing.{attachments_same, few_too, attachments_stand}

-- the fourth link of the header is that to the first attachment
header_names : (file : List ℕ) (blocks : List Placed) → AllStand file blocks → (head : Head) (entries : List History) (groups attached : Link)
    → Has blocks 0 (linked_head_blocks head entries groups attached) → link_at file 64 3 ≡ link_number blocks attached
header_names file blocks all head entries groups attached has = (here file blocks 0 _ _ all has).link 3 (omega arith)

module _ (source rest : List ℕ) (m : Measured) (rows : List Attachment) (now : ℕ) (in_time : now < 2 ^ 64) (is : StandsIn source m)
    (fit : AllByRecursion (λ (one : Measure). one.count < 2 ^ 64) m.groups) (writable : AllByRecursion IsAttachmentWritable rows) (few : AreFew rows)
    (all : AllStand (finalized_ident ++ rest) (attached_blocks m rows now)) where
  abbrev file : List ℕ
  file = finalized_ident ++ rest

  abbrev title : List ℕ
  title = codes "attach"

  abbrev blocks : List Placed
  blocks = attached_blocks m rows now

  abbrev entries : List History
  entries = sorted_history m title now

  abbrev groups : Link
  groups = next_link (first_measure m title now) m.groups

  -- where the attachments begin
  abbrev n : ℕ
  n = length (sorted_blocks m title now)

  abbrev first : Link
  first = next_link n rows

  abbrev more : List Placed
  more = attachments_blocks n rows

  abbrev hd : List Placed
  hd = linked_head_blocks m.head entries groups first

  abbrev behind : List Placed
  behind = measures_blocks (first_measure m title now) m.groups ++ more

  same : blocks ≡ hd ++ behind
  same = header_named m title now first more

  has_head : Has blocks 0 hd
  has_head = record { front = []; rest = behind; split = same; number = refl }

  has_attachments : Has blocks n more
  has_attachments =
      let front = with_link (sorted_blocks m title now) 0 3 first in
      let whole : Has blocks 0 (front ++ more) = record { front = []; rest = []; split = sym (append-nil (front ++ more)); number = refl } in
      subst (λ (k : ℕ). Has blocks k more) (omega (arith, length-with_link (sorted_blocks m title now) 0 3 first)) (has_right blocks 0 front more whole)

  head : IsHead file (record m.head { first_dg = link_number blocks groups }) (placed_history blocks 1 entries)
  head = linked_head_stands file blocks all m.head entries groups first (head_clean source is.bytes m.head m.history is.head)
      (entries_clean source m title now (inr (inr (inr (inl refl)))) in_time is) has_head

  sorted : IsSortedOf m title now file
  sorted =
      kept_behind source rest m title now hd more (linked_head_long m.head entries groups first) is fit
      (subst (λ (given : List Placed). AllStand file given) same all)
      (subst (λ (given : List Placed). IsHead file (record m.head { first_dg = link_number given groups }) (placed_history given 1 entries)) same head)

  attached : AreAttachments file (placed_attachments blocks n rows)
  attached =
      let along = attachments_stand file blocks all n rows writable has_attachments in
      let ident = (ident_is rest).0 in record {
        begins = record { mdf = ident.mdf; version = ident.version; finalized = ident.finalized };
        header = head.block;
        chain = subst (λ (place : ℕ). IsChain file place At (map (λ (row : Attachment). row.at) (placed_attachments blocks n rows)))
            (sym (header_names file blocks all m.head entries groups first has_head)) along.chain;
        each = along.each;
      }

  -- the first one stands where the sorted file ends
  first_stands : (given : List Attachment) → link_number blocks (next_link n given) ≡ first_place given (length (sorted_file m title now))
  first_stands [] = refl
  first_stands (row ∷ behind_it) =
      let all_sorted = sorted_blocks m title now in
      let long : length (sorted_file m title now) ≡ end_of all_sorted = length-written finalized_ident all_sorted refl in
      ap end_of (take_at (with_link all_sorted 0 3 first) more n (length-with_link all_sorted 0 3 first))
      ∙ omega (arith, rooms_same all_sorted 0 3 first, long)

  attached_kept : IsAttachedOf m rows now file
  attached_kept = record {
    sorted = sorted;
    others = placed_attachments blocks n rows;
    attached = attached;
    few = few_too blocks n rows few;
    same = attachments_same blocks n rows;
    first = header_names file blocks all m.head entries groups first has_head ∙ first_stands rows;
  }

-- so are the bytes that are written of its blocks
pub spelled_kept : (source bytes : List ℕ) (given : List Placed) (m : Measured) (rows : List Attachment) (now : ℕ) → now < 2 ^ 64 → StandsIn source m
    → AllByRecursion (λ (one : Measure). one.count < 2 ^ 64) m.groups → AllByRecursion IsAttachmentWritable rows → AreFew rows
    → given ≡ attached_blocks m rows now → bytes ≡ written finalized_ident given → AllStand bytes given → IsAttachedOf m rows now bytes
spelled_kept source bytes given m rows now in_time stands fit writable few placed is stand =
    let all = attached_blocks m rows now in
    let same : bytes ≡ written finalized_ident all = is ∙ ap (λ (blocks : List Placed). written finalized_ident blocks) placed in
    let here = subst (λ (whole : List ℕ). AllStand whole all) same (subst (λ (blocks : List Placed). AllStand bytes blocks) placed stand) in
    subst (IsAttachedOf m rows now) (sym same)
    (attached_kept source (flat_map (block_bytes all) all) m rows now in_time stands fit writable few here)
