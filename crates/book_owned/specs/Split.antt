-- A book that is split into its halves, and the book of two halves.
use Rattle.std.specs.Prelude.{ℕ, ◌≡◌, true, false, take}
use Rattle.mdf_gate.specs.Gated.{Gated}
use Rattle.book_owned.specs.Members.{DiskOf, ViewOf}
use Rattle.book_owned.specs.Marks.{durable}
use Rattle.book_owned.specs.Account.{Account, Terms}
use Rattle.book_owned.specs.Answers.{IsFault, Passes}
use Rattle.book_owned.specs.BackHalf.{BackTerms, back_terms, BackKeeps, FileHolds}
use Rattle.book_owned.specs.FrontHalf.{FrontTerms, FrontAccount, front_account}
use Rattle.book_owned.specs.declared.fault.Fault.{Fault}
use Rattle.book_owned.specs.declared.in_memory.InMemory.{InMemory}

-- what the terms say of the front, and of the file
abbrev pub front_part : Terms → FrontTerms
front_part terms = record { layouts = terms.layouts; block_limit = terms.block_limit; session_limit = terms.session_limit; which = terms.which }

abbrev pub back_part : Terms → BackTerms
back_part terms = record { head = terms.head; start = terms.start; faults = terms.faults; told = terms.told; asked = terms.asked }

-- the terms of both
abbrev pub terms_of_parts : FrontTerms → BackTerms → Terms
terms_of_parts front back = record {
  layouts = front.layouts;
  block_limit = front.block_limit;
  session_limit = front.session_limit;
  which = front.which;
  head = back.head;
  start = back.start;
  faults = back.faults;
  told = back.told;
  asked = back.asked;
}

-- the front of a book: it has its spare block, and what is durable was handed over
abbrev pub front_of_book : {D V : Type 0} → Account D V → FrontAccount V
front_of_book book = record {
  history = book.history;
  marks = book.marks;
  stopped = book.stopped;
  spare = true;
  from = durable book.marks;
  terms = front_part book.terms;
  view = book.view;
}

-- and its file
pub record IsBackOf {D V : Type 0} (disk : DiskOf D) (book : Account D V) (half : Gated D) : Type 0 where
  pub disk_is : half.disk ≡ book.disk
  pub failed : half.failed ≡ book.stopped
  pub terms : back_terms disk half ≡ back_part book.terms
  pub keeps : BackKeeps disk book.terms.layouts half book.history book.marks
  pub holds : book.stopped ≡ false → FileHolds disk book.terms.layouts book.terms.block_limit half (take (durable book.marks) book.history)

-- Halves of one book: the front has its spare block and is stopped where the file has failed, and the file keeps the front's
-- history and marks and holds the durable samples.
pub record AreHalves {D V : Type 0} (disk : DiskOf D) (half : FrontAccount V) (file : Gated D) : Type 0 where
  pub spare : half.spare ≡ true
  pub stop : half.stopped ≡ file.failed
  pub keeps : BackKeeps disk half.terms.layouts file half.history half.marks
  pub holds : half.stopped ≡ false → FileHolds disk half.terms.layouts half.terms.block_limit file (take (durable half.marks) half.history)

-- their book
abbrev pub book_of_halves : {D V : Type 0} → DiskOf D → FrontAccount V → Gated D → Account D V
book_of_halves disk half file = record {
  history = half.history;
  marks = half.marks;
  stopped = file.failed;
  terms = terms_of_parts half.terms (back_terms disk file);
  disk = file.disk;
  view = half.view;
}

-- the book of what a front holds and of a file
abbrev pub book_of : {D V N : Type 0} → DiskOf D → ViewOf V N → InMemory V → Gated D → Account D V
book_of disk view front file = book_of_halves disk (front_account view front) file

-- the disk failed while room was made for so many bytes
pub record HasFaultOf {D V : Type 0} (disk : DiskOf D) (old new : Account D V) (size : ℕ) (fault : Fault) : Type 0 where
  pub fault_is : IsFault disk old new fault.before fault.after
  pub marks : new.marks ≡ old.marks
  pub view : new.view ≡ old.view
  pub passes : Passes old size
