-- What is shown of a file of which as much was read as its counts need.
use Rattle.std.proofs.Common.{◌≡◌, ℕ, Bool, List, Result, Ok, Err, sym, ◌∙◌, ap, refl, subst}
use Rattle.mdf_block.specs.Refusal.{Refuses}
use Rattle.mdf_group.specs.declared.row.GroupRow.{GroupRow}
use Rattle.mdf_content.specs.declared.wanted.Wanted.TheVariants as wants
use Rattle.mdf_content.specs.Fault.{read_refusal}
use Rattle.mdf_disk.specs.State.{DiskState}
use Rattle.mdf_model.specs.declared.whole.WholeFound.{WholeFound}
use Rattle.mdf_model.specs.Kept.{found_kept, kept_whole}
use Rattle.mdf_command.specs.Faults.{READING_LIMIT, end_status}
use Rattle.mdf_command.specs.declared.fault.Fault.{Fault}
use Rattle.mdf_command.specs.declared.fault.Fault.TheVariants as fault
use Rattle.mdf_inspect.specs.Paged.{PagedComes, PagedFaultComes}
use Rattle.mdf_inspect.specs.Reading.{IsReading, IsRefused, Reading, ReadingComes, ReadingFaultComes, reading_end, reading_of}
use Rattle.mdf_paged.specs.Groups.{is_strict, shown_groups}
use Rattle.mdf_paged.proofs.Kepts.{kept_from, kept_refused, shown_kept, strict_kept}
use Rattle.mdf_inspect.proofs.Paging.{also_read}
use Rattle.mdf_inspect.proofs.Truths.{is_reading, is_refused}

-- where the places of some groups are counted alone, the same is shown
reading_kept : (all : WholeFound) → reading_of (kept_whole wants.Values all) ≡ reading_of all
reading_kept all =
    let make : List (GroupRow × ℕ) → Bool → Reading = λ groups strict.
    record { version = all.ident.ver; groups = groups; dropped = all.tree.dropped; strict = strict } in
    ap (λ (groups : List (GroupRow × ℕ)). make groups (is_strict (kept_whole wants.Values all))) (shown_kept wants.Values all)
    ∙ ap (λ (strict : Bool). make (shown_groups all) strict) (strict_kept wants.Values all)

counted_reading : (now : WholeFound) (file : List ℕ) → found_kept wants.Values file ≡ Ok now → IsReading (reading_of now) file
counted_reading now file read =
    let found = kept_from wants.Values file now read in
    let same : reading_of found.0 ≡ reading_of now = sym (reading_kept found.0) ∙ ap reading_of found.2 in
    subst (λ (shown : Reading). IsReading shown file) same (is_reading file found.0 found.1)

-- the status is that of what was read
pub same_status : (end : Result WholeFound Fault) → end_status end ≡ end_status (reading_end end)
same_status (Ok now) = refl
same_status (Err problem) = refl

module _ (old new : DiskState) where
  fault_shown : (problem : Fault) → PagedFaultComes READING_LIMIT (found_kept wants.Values) old new problem → ReadingFaultComes old new problem
  fault_shown (fault.Read refused) comes = (
    comes.0,
    also_read READING_LIMIT old (λ file. Refuses (read_refusal refused) (found_kept wants.Values file)) (IsRefused refused)
        (λ file refuses. is_refused file refused (kept_refused wants.Values file (read_refusal refused) refuses)) comes.1,
  )
  fault_shown problem comes = comes

  pub reading_shown : (end : Result WholeFound Fault) → PagedComes READING_LIMIT (found_kept wants.Values) old new end
      → ReadingComes old new (reading_end end)
  reading_shown (Ok now) comes =
      also_read READING_LIMIT old (λ file. found_kept wants.Values file ≡ Ok now) (IsReading (reading_of now)) (counted_reading now) comes
  reading_shown (Err problem) comes = fault_shown problem comes
