-- The back of a book: its gated file.
use Rattle.std.specs.Prelude.{ℕ, ◌≡◌, ◌+◌, ◌^◌, ◌≤◌, ◌<◌, Bool, true, false, List, [], ◌∷◌, ◌++◌, length, take, drop, All, AllPairs, Option, is_some, IfSome}
use Rattle.std.specs.Bool.{OnTrue}
use Rattle.std.specs.List.{concat}
use Rattle.mdf_format.specs.Cause.{Rose}
use Rattle.mdf_disk.specs.Story.{Story}
use Rattle.mdf_disk.specs.declared.role.Role.{Role}
use Rattle.mdf_layout.specs.Layout.{Layout}
use Rattle.mdf_layout.specs.Record.{history_cost}
use Rattle.mdf_layout.specs.Behind.{AreEncodingsBehind}
use Rattle.mdf_layout.specs.declared.sample.Sample.{Sample}
use Rattle.mdf_gate.specs.Gated.{Gated, Buffered, RestsOn}
use Rattle.mdf_gate.specs.Images.{head_of}
use Rattle.book_owned.specs.Members.{DiskOf}
use Rattle.book_owned.specs.Kept.{MarksHold, StartHolds}
use Rattle.book_owned.specs.declared.mark.Mark.{Mark}
use Rattle.book_owned.specs.declared.written.Written.{Written}
use Rattle.book_owned.specs.declared.written.Written.TheVariants as written

-- What no call changes of a file: its head, the disk's moment and count of faults when it was made, whether the disk tells
-- its story, and what it was asked for.
pub record BackTerms : Type 0 where
  pub head : List ℕ
  pub start : ℕ
  pub faults : ℕ
  pub told : Bool
  pub asked : Option (List ℕ × Role)

abbrev pub back_terms : {D : Type 0} → DiskOf D → Gated D → BackTerms
back_terms disk back = record {
  head = head_of (disk.story back.disk) back.first;
  start = back.start;
  faults = back.faults;
  told = is_some (disk.story back.disk);
  asked = disk.asked back.disk;
}

-- the later mark is of no earlier moment, and of a later one where the disk tells its moments
abbrev pub Later : Bool → Mark → Mark → Type 0
Later told mark later = (mark.moment ≤ later.moment) × OnTrue told (mark.moment < later.moment)

-- What holds of these samples and marks whatever happens: each mark, what was so from the start on, and that the marks are
-- one later than the other.
pub record Keeps (layouts : List Layout) (head : List ℕ) (start : ℕ) (story : Option Story) (clock : ℕ) (samples : List Sample) (marks : List Mark) : Type 0 where
  pub marks_hold : MarksHold layouts head story clock samples marks
  pub start_holds : StartHolds layouts head story start samples
  pub moments : AllPairs (Later (is_some story)) marks

-- it holds of a file
abbrev pub BackKeeps : {D : Type 0} → DiskOf D → List Layout → Gated D → List Sample → List Mark → Type 0
BackKeeps disk layouts back samples marks =
    Keeps layouts (head_of (disk.story back.disk) back.first) back.start (disk.story back.disk) (disk.moment back.disk) samples marks

-- the file at rest holds the records of the samples, in blocks with at most so many bytes of data
pub record IsWritten (content : Option (List ℕ)) (story : Option Story) (first place most : ℕ) (layouts : List Layout) (samples : List Sample) : Type 0 where
  pub blocks : List (List ℕ)
  pub rests : RestsOn content story first blocks place
  pub within : All (λ body. length body ≤ most) blocks
  pub records : AreEncodingsBehind layouts [] (concat blocks) samples

-- The file holds these samples: it has not failed, it is written so, and it ends no further behind 2^61, or behind its head
-- where the disk tells its story, than what the samples cost.
pub record FileHolds {D : Type 0} (disk : DiskOf D) (layouts : List Layout) (most : ℕ) (back : Gated D) (samples : List Sample) : Type 0 where
  pub going : back.failed ≡ false
  pub written : IsWritten (disk.content back.disk) (disk.story back.disk) back.first back.place most layouts samples
  pub reach : back.place ≤ 2 ^ 61 + history_cost layouts samples
  pub near : IfSome (disk.story back.disk) (λ _. back.place ≤ length (head_of (disk.story back.disk) back.first) + history_cost layouts samples)

-- the block has the records of the samples from one number to another, in at most so many bytes
pub record IsHanded (layouts : List Layout) (most : ℕ) (block : Buffered) (samples : List Sample) (from through : ℕ) : Type 0 where
  pub more : from ≤ through
  pub within : through ≤ length samples
  pub short : length block.bytes ≤ most
  pub records : AreEncodingsBehind layouts (take from samples) block.bytes (drop from (take through samples))

-- what a write keeps: with a new mark that mark holds too, and the file holds the samples through it
abbrev pub WriteKeeps : {D : Type 0} → DiskOf D → List Layout → ℕ → Gated D → List Sample → List Mark → ℕ → Written → Type 0
WriteKeeps disk layouts most back samples marks through (written.Done mark block) =
    BackKeeps disk layouts back (take through samples) marks × BackKeeps disk layouts back (take through samples) (marks ++ mark ∷ [])
    × FileHolds disk layouts most back (take through samples)
WriteKeeps disk layouts most back samples marks through (written.DiskFault before after block) = BackKeeps disk layouts back (take through samples) marks
WriteKeeps disk layouts most back samples marks through written.Nothing = ⊥

-- what it answers: the mark is of the present moment and the block empty, or the disk failed and the block is as it was
abbrev pub WriteAnswers : {D : Type 0} → DiskOf D → Gated D → Gated D → ℕ → Buffered → Written → Type 0
WriteAnswers disk old new through block (written.Done mark back) =
    (new.failed ≡ false) × (mark.through ≡ through) × (mark.moment ≡ disk.moment new.disk) × (back.bytes ≡ []) × (back.limit ≡ block.limit)
WriteAnswers disk old new through block (written.DiskFault before after back) =
    (new.failed ≡ true) × (before ≡ disk.faults old.disk) × (after ≡ disk.faults new.disk) × Rose before after × (back ≡ block)
WriteAnswers disk old new through block written.Nothing = ⊥
