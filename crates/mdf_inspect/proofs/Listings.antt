-- How the listing of the attachments of a file ends that was read through pages.
use Rattle.std.proofs.Common.{◌≡◌, ℕ, Bool, true, false, List, map, Option, Some, None, Ok, Err, refl, sym, ◌∙◌, ap, ⊎_elim}
use Rattle.std.specs.Prelude.{IsSome, if◌then◌else◌}
use Rattle.mdf_format.specs.declared.kind.Kind.TheVariants.{At}
use Rattle.mdf_block.specs.declared.what.What.TheVariants as whats
use Rattle.mdf_block.specs.Refusal.{Refusal, NotMdf, Unfinalized, NotRecording, Version, Bad, Compressed, TooMany, Deep, ChannelKind, ChannelType, Layout, UnknownId, Cut, Cycles, Offset, Read, Refuses, ◌>>=◌}
use Rattle.mdf_block.specs.Block.{is_named}
use Rattle.mdf_block.proofs.Refusals.{bind_ok, bind_err}
use Rattle.mdf_disk.specs.State.{DiskState}
use Rattle.mdf_head.specs.declared.identity.Ident.{Ident}
use Rattle.mdf_head.specs.Ident.{identify}
use Rattle.mdf_head.proofs.Heads.{ok_is}
use Rattle.mdf_content.specs.declared.fault.ReadFault.{ReadFault}
use Rattle.mdf_content.specs.declared.fault.ReadFault.TheVariants as reads
use Rattle.mdf_content.specs.Fault.{read_refusal}
use Rattle.mdf_model.specs.Tree.{finalized, finalized_by}
use Rattle.mdf_attach.specs.declared.attachment.Attachment.{Attachment}
use Rattle.mdf_attach.specs.declared.entry.Entry.{Entry}
use Rattle.mdf_attach.specs.declared.fault.AttachFault.{AttachFault}
use Rattle.mdf_attach.specs.declared.fault.AttachFault.TheVariants as attach
use Rattle.mdf_attach.specs.Listed.{attachments, attachments_by, header_attachments}
use Rattle.mdf_attach.specs.Lacks.{AreRefused}
use Rattle.mdf_attach.specs.Shown.{each_of, entry_of}
use Rattle.mdf_attach.proofs.Refused.{told_as, attachments_stand, attachments_lack}
use Rattle.mdf_command.specs.Attached.{attach_fault, many_fault}
use Rattle.mdf_command.specs.Faults.{INPUT_LIMIT}
use Rattle.mdf_command.specs.declared.fault.Fault.{Fault}
use Rattle.mdf_command.specs.declared.fault.Fault.TheVariants as fault
use Rattle.mdf_inspect.specs.Attachments.{AreListed, AreRefusedWith, ListingComes, ListingFaultComes, entries, listing_fault}
use Rattle.mdf_inspect.specs.Paged.{IfReadOf, PagedComes, PagedFaultComes}
use Rattle.mdf_inspect.proofs.Paging.{also_read}

-- the identification, and then the attachments behind it
module _ (f : List ℕ) where
  by_ident : (id : Ident) (refusal : Refusal) (closed : Bool) (listed : Read (List Attachment))
      → (if closed then listed else Err refusal) ≡ ((if closed then Ok id else Err refusal) >>= λ _. listed)
  by_ident id refusal true listed = refl
  by_ident id refusal false listed = refl

  behind_ident : (read : Read Ident) → (read >>= attachments_by f) ≡ ((read >>= finalized_by) >>= λ _. header_attachments f)
  behind_ident (Ok id) = by_ident id (Unfinalized id.std_flags id.custom_flags) id.finalized (header_attachments f)
  behind_ident (Err refusal) = refl

  attachments_behind : attachments f ≡ (finalized f >>= λ _. header_attachments f)
  unfolding attachments finalized
  attachments_behind = behind_ident (identify f)

  each_behind : (read : Read Ident)
      → each_of entry_of (read >>= λ _. header_attachments f) ≡ (read >>= λ _. each_of entry_of (header_attachments f))
  each_behind (Ok id) = refl
  each_behind (Err refusal) = refl

  entries_are : each_of entry_of (attachments f) ≡ entries f
  unfolding entries
  entries_are = ap (each_of entry_of) attachments_behind ∙ each_behind (finalized f)

-- the fault of each refusal
abbrev read_of : Refusal → ReadFault
read_of NotMdf = reads.NotMdf
read_of (Unfinalized std custom) = reads.Unfinalized std custom
read_of (NotRecording std custom) = reads.NotRecording std custom
read_of (Version ver) = reads.Version ver
read_of (Bad at want) = reads.Block at want
read_of (Compressed at) = reads.Compressed at
read_of (TooMany what at) = reads.TooMany what at
read_of (Deep at) = reads.Deep at
read_of (ChannelKind at kind) = reads.ChannelKind at kind
read_of (ChannelType at value) = reads.ChannelType at value
read_of (Layout at) = reads.Layout at
read_of (UnknownId id at) = reads.UnknownId id at
read_of (Cut at) = reads.Cut at
read_of (Cycles group said found) = reads.Cycles group said found
read_of (Offset channel row offset) = reads.Offset channel row offset

back : (refused : ReadFault) → (there : Refusal) → read_refusal refused ≡ Some there → refused ≡ read_of there
back reads.NotMdf there is = let same : NotMdf ≡ there = cc in ap read_of same
back (reads.Unfinalized std custom) there is = let same : Unfinalized std custom ≡ there = cc in ap read_of same
back (reads.NotRecording std custom) there is = let same : NotRecording std custom ≡ there = cc in ap read_of same
back (reads.Version ver) there is = let same : Version ver ≡ there = cc in ap read_of same
back (reads.Block at want) there is = let same : Bad at want ≡ there = cc in ap read_of same
back (reads.Compressed at) there is = let same : Compressed at ≡ there = cc in ap read_of same
back (reads.TooMany what at) there is = let same : TooMany what at ≡ there = cc in ap read_of same
back (reads.Deep at) there is = let same : Deep at ≡ there = cc in ap read_of same
back (reads.ChannelKind at kind) there is = let same : ChannelKind at kind ≡ there = cc in ap read_of same
back (reads.ChannelType at value) there is = let same : ChannelType at value ≡ there = cc in ap read_of same
back (reads.Layout at) there is = let same : Layout at ≡ there = cc in ap read_of same
back (reads.UnknownId id at) there is = let same : UnknownId id at ≡ there = cc in ap read_of same
back (reads.Cut at) there is = let same : Cut at ≡ there = cc in ap read_of same
back (reads.Cycles group said found) there is = let same : Cycles group said found ≡ there = cc in ap read_of same
back (reads.Offset channel row offset) there is = let same : Offset channel row offset ≡ there = cc in ap read_of same
back reads.Memory there is = let wrong : ◌≡◌ {A = Option Refusal} None (Some there) = is in cc

-- the fault that is printed is that of the attachments
many_is : (at : ℕ) (named : Bool) → listing_fault (fault.Read (reads.TooMany (if named then whats.Block else whats.Text) at)) ≡ many_fault named at
many_is at true = refl
many_is at false = refl

told_is : (f : List ℕ) (refused : AttachFault) → AreRefused f refused → listing_fault (fault.Read (read_of (told_as f refused))) ≡ attach_fault f refused
told_is f attach.NotMdf is = refl
told_is f (attach.Version ver) is = refl
told_is f (attach.Unfinalized std custom) is = refl
told_is f (attach.Bad at want) is = refl
told_is f (attach.TooMany at) is = many_is at (is_named f at At)
told_is f attach.Memory is = absurd is

-- what is listed of a file, and for what it is refused
entries_listed : (listed : List Entry) (f : List ℕ) → entries f ≡ Ok listed → AreListed f listed
entries_listed listed f is =
    let found = bind_ok (attachments f) (λ rows. Ok (map entry_of rows)) listed (entries_are f ∙ is) in
    let stand = attachments_stand f found.0 found.1 in
    (found.0, stand.0, stand.1, sym (ok_is (map entry_of found.0) listed found.2))

refused_as : (refused : ReadFault) (there : Refusal) (f : List ℕ) → read_refusal refused ≡ Some there → entries f ≡ Err there
    → AreRefusedWith f (listing_fault (fault.Read refused))
refused_as refused there f same is =
    let none : attachments f ≡ Err there = ⊎_elim (λ lacks. lacks) (λ found. absurd (let wrong : ◌≡◌ {A = Read (List Entry)} (Ok (map entry_of found.0)) (Err there) = found.2 in cc))
    (bind_err (attachments f) (λ rows. Ok (map entry_of rows)) there (entries_are f ∙ is)) in
    let lacks = attachments_lack f there none in (
      lacks.0,
      lacks.1,
      ap (λ (r : ReadFault). listing_fault (fault.Read r)) (back refused there same ∙ ap read_of lacks.2) ∙ told_is f lacks.0 lacks.1,
    )

refused_with : (refused : ReadFault) (said : Option Refusal) → read_refusal refused ≡ said → (f : List ℕ) → Refuses said (entries f)
    → AreRefusedWith f (listing_fault (fault.Read refused))
refused_with refused None same f is = absurd is
refused_with refused (Some there) same f is = refused_as refused there f same is

-- the printed fault, where the file is refused
module _ (old new : DiskState) where
  -- it is of attachments, or of a reader of files
  list_comes : (refused : ReadFault) → IsSome (read_refusal refused) → IfReadOf INPUT_LIMIT old (λ f. AreRefusedWith f (listing_fault (fault.Read refused)))
      → ListingFaultComes old new (listing_fault (fault.Read refused))
  list_comes (reads.TooMany whats.Block at) some with = with
  list_comes refused some with = (some, with)

  refused_comes : (refused : ReadFault) → PagedFaultComes INPUT_LIMIT entries old new (fault.Read refused)
      → ListingFaultComes old new (listing_fault (fault.Read refused))
  refused_comes refused comes =
      list_comes refused comes.0
      (also_read INPUT_LIMIT old (λ f. Refuses (read_refusal refused) (entries f)) (λ f. AreRefusedWith f (listing_fault (fault.Read refused)))
      (refused_with refused (read_refusal refused) refl) comes.1)

  pub listed_comes : (listed : List Entry) → PagedComes INPUT_LIMIT entries old new (Ok listed) → ListingComes old new (Ok listed)
  listed_comes listed comes =
      also_read INPUT_LIMIT old (λ f. entries f ≡ Ok listed) (λ f. AreListed f listed) (entries_listed listed) comes

  -- or it could not be had
  pub fault_comes : (problem : Fault) → PagedFaultComes INPUT_LIMIT entries old new problem → ListingFaultComes old new (listing_fault problem)
  fault_comes (fault.Read refused) comes = refused_comes refused comes
  fault_comes (fault.Attached at) comes = absurd comes
  fault_comes problem comes = comes
