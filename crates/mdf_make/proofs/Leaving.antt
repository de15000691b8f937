-- What is left of the output of a tool.
use Rattle.std.proofs.Common.{◌≡◌, ◌≤◌, ⊎_elim, inl, inr, ℕ, List, [], Option, Some, None, Bool, true, false, Result, Ok, Err, refl, sym, ◌∙◌, ap, subst, arith}
use Rattle.std.specs.Prelude.{ℤ}
use Rattle.mdf_disk.specs.Crash.{Adds, HoldsSince}
use Rattle.mdf_disk.specs.State.{DiskState}
use Rattle.mdf_disk.specs.Story.{MayLeave, Story, Agrees, IsFresh, LeftSince}
use Rattle.mdf_disk.proofs.Crash.{adds_none, settled_leaves}
use Rattle.mdf_gate.proofs.Appends.{none_later}
use Rattle.mdf_make.specs.declared.said.Said.{Said}
use Rattle.mdf_tool.specs.declared.fault.ToolFault.{ToolFault}
use Rattle.mdf_tool.specs.declared.fault.ToolFault.TheVariants as tool
use Rattle.tool_sort.specs.Sort.{SortEnds}
use Rattle.tool_cut.specs.Cut.{CutEnds, Cutting}
use Rattle.mdf_command.specs.Faults.{fault_of_tool}
use Rattle.mdf_make.specs.Sort.{IsNotMeasured, Sorts}
use Rattle.mdf_make.specs.Cut.{Cuts}
use Rattle.mdf_make.specs.Tool.{IsImage, ToolEnds}
use Rattle.tool_concat.specs.Concat.{ConcatEnds, Joining}
use Rattle.tool_concat.specs.declared.fault.ConcatFault.{ConcatFault}
use Rattle.tool_concat.specs.declared.fault.ConcatFault.TheVariants as concat
use Rattle.mdf_make.specs.Concat.{AreNotJoined, Joins, fault_of_concat}
use Rattle.mdf_format.specs.declared.kind.Kind.TheVariants.{At}
use Rattle.mdf_block.specs.Block.{is_named}
use Rattle.mdf_attach.specs.declared.fault.AttachFault.{AttachFault}
use Rattle.mdf_attach.specs.declared.fault.AttachFault.TheVariants as attach
use Rattle.mdf_attach.specs.Lacks.{AreRefused}
use Rattle.tool_attach.specs.Carry.{CarryEnds}
use Rattle.tool_attach.specs.declared.fault.CarryFault.{CarryFault}
use Rattle.tool_attach.specs.declared.fault.CarryFault.TheVariants as carry
use Rattle.mdf_command.specs.Attached.{attach_fault, many_fault}
use Rattle.mdf_make.specs.Attach.{AreNotCarried, Carries, carrying_of, fault_of_carry}
use Rattle.mdf_command.specs.Load.{IsCalm, IsOver, LoadFaultComes, LoadWants}
use Rattle.mdf_format.specs.Cause.{Rose}
use Rattle.mdf_make.specs.Making.{Inputs, MakeComes, MakesNothing, MakingComes}
use Rattle.mdf_command.specs.declared.fault.Fault.{Fault}
use Rattle.mdf_command.specs.declared.fault.Fault.TheVariants as fault

-- Of a disk that was asked for nothing, and is written on since, a crash leaves nothing or what is added.
since_fresh : (P : List ℕ → Type 0) → P [] → (old new : Option Story) (content : Option (List ℕ)) (clock : ℕ) → Agrees old content clock
    → IsFresh old → Adds old new P → HoldsSince new clock P
since_fresh P nothing None new content clock agrees fresh adds = λ file left. ⊎_elim (λ none. absurd none) (λ p. p) (adds clock file left)
since_fresh P nothing (Some old) new content clock agrees fresh adds = λ file left. ⊎_elim (from_fresh file) (λ p. p) (adds clock file left)
  where
    from_fresh : (file : List ℕ) → LeftSince (Some old) clock file → P file
    from_fresh file left = ⊎_elim
        (λ now. subst P (sym (settled_leaves [] file (subst (λ m. MayLeave m file) fresh now.1))) nothing)
        (λ before. absurd (none_later old.past clock file (omega (arith, agrees.moment_is)) before))
        left

-- where nothing was written since, what holds of nothing holds
still : (P : List ℕ → Type 0) → P [] → (old new : Option Story) (content : Option (List ℕ)) (clock : ℕ) → Agrees old content clock → IsFresh old → new ≡ old
    → HoldsSince new clock P
still P nothing old new content clock agrees fresh same =
    since_fresh P nothing old new content clock agrees fresh (subst (λ s. Adds old s P) (sym same) (adds_none old P))

-- it leaves nothing, and nothing is under its seal
pub still_nothing : (old new : Option Story) (content : Option (List ℕ)) (clock : ℕ) → Agrees old content clock → IsFresh old → new ≡ old
    → HoldsSince new clock (λ image. image ≡ [])
still_nothing = still (λ image. image ≡ []) refl

nothing_left : (Makes : List ℕ → Said → Type 0) → IsImage Makes []
nothing_left Makes = inl (record { no_mdf = λ mdf. absurd (omega (arith, mdf.long)); shut = inl (omega arith) })

pub still_no_mdf : (Makes : List ℕ → Said → Type 0) (old new : Option Story) (content : Option (List ℕ)) (clock : ℕ) → Agrees old content clock → IsFresh old
    → new ≡ old → HoldsSince new clock (IsImage Makes)
still_no_mdf Makes = still (IsImage Makes) (nothing_left Makes)

module _ (Makes : List ℕ → Said → Type 0) (Refuses : Fault → Type 0) (out mid out' : DiskState) (agrees : Agrees out.story out.content out.moment)
    (fresh : IsFresh out.story) (same : mid.story ≡ out.story) (later : out.faults ≤ mid.faults) where
  nothing : out' ≡ mid → MakesNothing out out'
  nothing is = still_nothing out.story out'.story out.content out.moment agrees fresh (ap (λ (d : DiskState). d.story) is ∙ same)

  still_attached : mid.attached ≡ true → out' ≡ mid → out'.attached ≡ true
  still_attached attached is = ap (λ (d : DiskState). d.attached) is ∙ attached

  still_calm : IsCalm out mid → out' ≡ mid → IsCalm out out'
  still_calm calm is = ap (λ (d : DiskState). d.faults) is ∙ calm

  -- why no file was made on the disk that was attached
  make_fault : mid.attached ≡ true → IsCalm out mid → (problem : Fault) → ToolEnds Makes Refuses mid out' (Err problem) → MakeComes Makes Refuses out out' (Err problem)
  make_fault attached calm fault.Device ends = omega (arith, later, ends)
  make_fault attached calm fault.Memory ends = (nothing ends.1, inr (still_attached attached ends.1, still_calm calm ends.1, ends.0))
  make_fault attached calm (fault.InputOver size limit) ends = absurd ends
  make_fault attached calm problem ends = (ends.0, nothing ends.1, still_attached attached ends.1)

  pub make_ends : mid.attached ≡ true → IsCalm out mid → (end : Result Said Fault) → ToolEnds Makes Refuses mid out' end → MakeComes Makes Refuses out out' end
  make_ends attached calm (Ok report) ends = record { bytes = ends.0; is_of = ends.1; kept = ends.2 }
  make_ends attached calm (Err problem) ends = make_fault attached calm problem ends

  pub make_leaves : Adds mid.story out'.story (IsImage Makes) → HoldsSince out'.story out.moment (IsImage Makes)
  make_leaves adds =
      since_fresh (IsImage Makes) (nothing_left Makes) out.story out'.story out.content out.moment agrees fresh
      (subst (λ s. Adds s out'.story (IsImage Makes)) same adds)

-- of inputs of which one was not loaded nothing was made
module _ {Input : Type 0} (inputs : Inputs Input) (Makes : Input → List ℕ → Said → Type 0) (Refuses : Input → Fault → Type 0) where
  pub load_fault : (old new out : DiskState) → (Rose old.faults new.faults → inputs.Failed) → ((size limit : ℕ) → IsOver old size limit → inputs.IsOver size limit)
      → (LoadWants old new → inputs.Wanted) → Agrees out.story out.content out.moment → IsFresh out.story → (problem : Fault) → LoadFaultComes old new problem
      → MakingComes inputs Makes Refuses out out (Err problem)
  load_fault old new out failed over wanted agrees fresh fault.Device comes = inl (failed comes, refl)
  load_fault old new out failed over wanted agrees fresh (fault.InputOver size limit) comes =
      (over size limit comes, still_nothing out.story out.story out.content out.moment agrees fresh refl, refl)
  load_fault old new out failed over wanted agrees fresh fault.Memory comes =
      (still_nothing out.story out.story out.content out.moment agrees fresh refl, inl (wanted comes, refl))
  load_fault old new out failed over wanted agrees fresh problem comes = absurd comes

  -- what was made of inputs that were loaded
  module _ (out out' : DiskState) (input : Input) (loaded : inputs.AreLoaded input) (calm : inputs.AreCalm) where
    made_of : (problem : Fault) → MakeComes (Makes input) (Refuses input) out out' (Err problem) → MakingComes inputs Makes Refuses out out' (Err problem)
    made_of fault.Device comes = inr comes
    made_of fault.Memory comes = (comes.0, inr (calm, (input, loaded, comes.1)))
    made_of (fault.InputOver size limit) comes = absurd comes
    made_of problem comes = ((input, loaded, comes.0), comes.1, comes.2)

    pub making_ends : (end : Result Said Fault) → MakeComes (Makes input) (Refuses input) out out' end → MakingComes inputs Makes Refuses out out' end
    making_ends (Ok report) made = (input, loaded, made)
    making_ends (Err problem) comes = made_of problem comes

-- the fault of a tool, as the program tells it
pub sort_fault : (file : List ℕ) (now : ℕ) (old new : DiskState) (problem : ToolFault) → SortEnds file now old new (Err problem)
    → ToolEnds (Sorts now file) (IsNotMeasured file) old new (Err (fault_of_tool problem))
sort_fault file now old new (tool.Read refused) ends = ((ends.0, ends.1), ends.2)
sort_fault file now old new tool.Failed ends = ends
sort_fault file now old new tool.Memory ends = ends

pub cut_fault : (file : List ℕ) (asked : Cutting) (old new : DiskState) (problem : ToolFault) → CutEnds file asked old new (Err problem)
    → ToolEnds (Cuts asked file) (IsNotMeasured file) old new (Err (fault_of_tool problem))
cut_fault file asked old new (tool.Read refused) ends = ((ends.0, ends.1), ends.2)
cut_fault file asked old new tool.Failed ends = ends
cut_fault file asked old new tool.Memory ends = ends

pub concat_fault : (asked : Joining) (old new : DiskState) (problem : ConcatFault) → ConcatEnds asked old new (Err problem)
    → ToolEnds (Joins asked) (AreNotJoined asked) old new (Err (fault_of_concat problem))
concat_fault asked old new (concat.First refused) ends = (inl (ends.0, ends.1), ends.2)
concat_fault asked old new (concat.Second refused) ends = (inr (ends.0, (ends.1, ends.2)), ends.3)
concat_fault asked old new (concat.Differs group) ends = ends
concat_fault asked old new (concat.Wide group channel) ends = ends
concat_fault asked old new concat.Failed ends = ends
concat_fault asked old new concat.Memory ends = ends

module _ (asked : Joining) (old new : DiskState) where
  -- it ends with this fault
  abbrev Refused : Fault → Type 0
  Refused problem = ToolEnds (Carries asked) (AreNotCarried asked) old new (Err problem)

  many_refused : (at : ℕ) (attachment : Bool) → is_named asked.first at At ≡ attachment → AreRefused asked.first (attach.TooMany at) → new ≡ old
      → Refused (many_fault attachment at)
  many_refused at true is refused same = ((attach.TooMany at, refused, ap (λ (b : Bool). many_fault b at) (sym is)), same)
  many_refused at false is refused same = (inl (attach.TooMany at, refused, ap (λ (b : Bool). many_fault b at) (sym is)), same)

  from_refused : (refused : AttachFault) → AreRefused asked.first refused → new ≡ old → Refused (attach_fault asked.first refused)
  from_refused attach.NotMdf is same = (inl (attach.NotMdf, is, refl), same)
  from_refused (attach.Version ver) is same = (inl (attach.Version ver, is, refl), same)
  from_refused (attach.Unfinalized std custom) is same = (inl (attach.Unfinalized std custom, is, refl), same)
  from_refused (attach.Bad at want) is same = (inl (attach.Bad at want, is, refl), same)
  from_refused (attach.TooMany at) is same = many_refused at (is_named asked.first at At) refl is same
  from_refused attach.Memory is same = absurd is

  pub carry_fault : (problem : CarryFault) → CarryEnds (carrying_of asked) old new (Err problem) → Refused (fault_of_carry asked.first problem)
  carry_fault (carry.From refused) ends = from_refused refused ends.0 ends.1
  carry_fault (carry.File refused) ends = (inr (ends.0, (ends.1, ends.2)), ends.3)
  carry_fault carry.Failed ends = ends
  carry_fault carry.Memory ends = ends

-- what holds of a range holds of the same one
pub same_range : (P : Cutting → Type 0) (from to from' to' : ℤ) (now : ℕ) → from' ≡ from → to' ≡ to → P (record { from = from'; to = to'; now = now })
    → P (record { from = from; to = to; now = now })
same_range P from to from' to' now first last holds =
    subst (λ t. P (record { from = from; to = t; now = now })) last (subst (λ f. P (record { from = f; to = to'; now = now })) first holds)
