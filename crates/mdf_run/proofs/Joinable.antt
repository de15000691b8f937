-- A file is made of two sound ones, unless a disk fails or memory is wanted.
use Rattle.std.proofs.Common.{◌≡◌, ◌≤◌, ⊎_elim, ℕ, List, length, Option, Some, None, refl, sym, subst}
use Rattle.std.specs.Prelude.{IfSome}
use Rattle.mdf_port.specs.State.{SinkState}
use Rattle.mdf_disk.specs.State.{DiskState}
use Rattle.mdf_content.specs.Fault.{read_refusal}
use Rattle.mdf_model.specs.declared.part.Measure.{Measure}
use Rattle.mdf_make.specs.declared.said.Said.{Said}
use Rattle.mdf_model.specs.Measurement.{Measured, measurement}
use Rattle.tool_concat.specs.Concat.{AreRead, Joining}
use Rattle.tool_concat.specs.Difference.{AreAlike, IsFirstDifference}
use Rattle.tool_concat.specs.Wide.{IsFirstWide, NoneWideTo}
use Rattle.mdf_command.proofs.Pieces.{first_of}
use Rattle.mdf_command.specs.Faults.{INPUT_LIMIT, fault_status}
use Rattle.mdf_command.specs.declared.fault.Fault.{Fault}
use Rattle.mdf_command.specs.declared.fault.Fault.TheVariants as fault
use Rattle.mdf_make.specs.Attach.{AreNotCarried}
use Rattle.mdf_make.specs.Concat.{AreBothLoaded, AreNotJoined, OneIsOver, two_inputs}
use Rattle.mdf_make.specs.Making.{EndsMaking}
use Rattle.mdf_run.specs.Kept.{AreJoinable, IsDoneOrLacked, IsListable, IsMeasured}
use Rattle.mdf_run.proofs.Sound.{loaded_is, making_well, not_over, not_refused, not_refused_with, one_read}

-- groups that are the same differ nowhere
not_differing : (groups others : List Measure) (k : ℕ) → AreAlike groups others → ¬ IsFirstDifference groups others k
not_differing groups others k alike first = ⊎_elim (λ here. absurd (here.2 (alike.each k here.0))) (λ count. absurd (count.0 alike.count)) first.differs

-- and where none has an offset that is not held, none is the first that has one
not_wide : (groups others : List Measure) (group channel : ℕ) → NoneWideTo groups others (length groups) → ¬ IsFirstWide groups others group channel
not_wide groups others group channel held first =
    let d = first_of groups group first.there in absurd (held group d first.there channel (first.first d).wide)

-- what is known of the measurements of both files holds of those that were read
module _ (asked : Joining) (joinable : AreJoinable asked.first asked.second) where
  of_read : (P : Measured → Measured → Type 0) (read : AreRead asked) → P joinable.first joinable.second → P read.one read.other
  of_read P read holds =
      subst (λ other. P read.one other) (one_read (measurement asked.second) joinable.second read.other joinable.second_is_read read.second)
      (subst (λ first. P first joinable.second) (one_read (measurement asked.first) joinable.first read.one joinable.first_is_read read.first) holds)

  pub joinable_is_taken : (problem : Fault) → AreNotJoined asked problem → fault_status problem ≡ 7
  joinable_is_taken (fault.Read refused) refuses =
      ⊎_elim (λ first. not_refused (read_refusal refused) (measurement asked.first) joinable.first joinable.first_is_read first.1)
      (λ second. not_refused (read_refusal refused) (measurement asked.second) joinable.second joinable.second_is_read second.1.1)
      refuses
  joinable_is_taken (fault.Differs group) differs =
      absurd (not_differing differs.read.one.groups differs.read.other.groups group (of_read (λ a b. AreAlike a.groups b.groups) differs.read joinable.alike) differs.first)
  joinable_is_taken (fault.Wide group channel) wide =
      absurd (not_wide wide.read.one.groups wide.read.other.groups group channel (of_read (λ a b. NoneWideTo a.groups b.groups (length a.groups)) wide.read joinable.held) wide.first)
  joinable_is_taken fault.Memory known = refl
  joinable_is_taken problem refuses = absurd refuses

-- and attachments that are read are carried into a finished file
module _ (asked : Joining) (sound : IsListable asked.first × IsMeasured asked.second) where
  pub listable_is_taken : (problem : Fault) → AreNotCarried asked problem → fault_status problem ≡ 7
  listable_is_taken (fault.Read refused) refuses =
      ⊎_elim (λ first. absurd (not_refused_with asked.first sound.0 (fault.Read refused) first))
      (λ second. not_refused (read_refusal refused) (measurement asked.second) sound.1.found sound.1.is_read second.1.1)
      refuses
  listable_is_taken (fault.Attached at) refuses = absurd (not_refused_with asked.first sound.0 (fault.Attached at) refuses)
  listable_is_taken fault.Memory known = refl
  listable_is_taken problem refuses = absurd refuses

-- a command that makes a file of two inputs, which it refuses for want of memory alone
module _ (Makes : Joining → List ℕ → Said → Type 0) (Refuses : Joining → Fault → Type 0) (AreSound : List ℕ → List ℕ → Type 0)
    (takes : (asked : Joining) → AreSound asked.first asked.second → (problem : Fault) → Refuses asked problem → fault_status problem ≡ 7) where
  module _ (first second second' : DiskState) (one two : List ℕ) (told_one : first.content ≡ Some one) (told_two : second.content ≡ Some two)
      (short_one : length one ≤ INPUT_LIMIT) (short_two : length two ≤ INPUT_LIMIT) where
    none_over : (size limit : ℕ) → ¬ OneIsOver first second second' size limit
    none_over size limit over =
        ⊎_elim (λ first_over. absurd (not_over first one told_one INPUT_LIMIT short_one size limit first_over.0))
        (λ second_over. absurd (not_over second two told_two INPUT_LIMIT short_two size limit second_over.1))
        over

    loaded_taken : (now : ℕ) → AreSound one two → (asked : Joining) → AreBothLoaded now first second asked → (problem : Fault) → Refuses asked problem
        → fault_status problem ≡ 7
    loaded_taken now sound asked loaded problem refuses =
        takes asked (subst (λ b. AreSound asked.first b) (sym (loaded_is second two told_two asked.second loaded.second))
        (subst (λ a. AreSound a two) (sym (loaded_is first one told_one asked.first loaded.first)) sound)) problem refuses

  module _ (now : ℕ) (first first' second second' out out' : DiskState) (sink sink' : SinkState) (status : ℕ)
      (ends : EndsMaking (two_inputs now first first' second second') Makes Refuses out out' sink sink' status) where
    with_second : (one : List ℕ) → first.content ≡ Some one → (content : Option (List ℕ)) → second.content ≡ content
        → IfSome content (λ two. AreSound one two → length one ≤ INPUT_LIMIT → length two ≤ INPUT_LIMIT → IsDoneOrLacked status)
    with_second one told None other = tt
    with_second one told (Some two) other = λ sound short short_two.
        making_well (two_inputs now first first' second second') Makes Refuses out out' (none_over first second second' one two told other short short_two)
        (loaded_taken first second second' one two told other short short_two now sound) sink sink' status ends

    pub two_are_made : (content other : Option (List ℕ)) → first.content ≡ content → second.content ≡ other
        → IfSome content (λ one. IfSome other (λ two. AreSound one two → length one ≤ INPUT_LIMIT → length two ≤ INPUT_LIMIT → IsDoneOrLacked status))
    two_are_made None other told also = tt
    two_are_made (Some one) other told also = with_second one told other also
