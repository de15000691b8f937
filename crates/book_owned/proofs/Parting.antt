-- A book of two halves, over what its front does.
use Rattle.std.proofs.Common.{◌≡◌, ◌+◌, ◌≤◌, ◌++◌, ℕ, true, false, [], ◌∷◌, length, take, drop, Option, Some, None, refl, sym, ◌∙◌, ap, subst, inl, arith, append-nil}
use Rattle.std.proofs.lemmas.List.{take-append-le}
use Rattle.std.specs.Prelude.{is_some, IfNone, IfSome}
use Rattle.mdf_disk.specs.State.{state_of}
use Rattle.mdf_layout.specs.Behind.{AreEncodingsBehind}
use Rattle.mdf_layout.specs.Record.{encoded_size, history_size}
use Rattle.mdf_layout.specs.declared.sample.Sample.{Sample}
use Rattle.mdf_gate.specs.Gated.{Buffered, Gated}
use Rattle.mdf_gate.specs.Images.{head_of}
use Rattle.book_owned.specs.Members.{DiskOf, ViewOf}
use Rattle.book_owned.specs.Marks.{last_mark, durable}
use Rattle.book_owned.specs.Account.{Account, Steps}
use Rattle.book_owned.specs.Answers.{accepted_by, AppendAnswers, FitsBlock, HasRoom}
use Rattle.book_owned.specs.BackHalf.{FileHolds}
use Rattle.book_owned.specs.Events.{book_state_of, PutEvents, PutLeads}
use Rattle.book_owned.specs.FrontHalf.{FrontAccount, FrontFits, FrontPutEvents, FrontRoom, HasSpare, IsFront, IsSteady, PutTells, front_state_of}
use Rattle.book_owned.specs.Kept.{FitsOne, IsKept}
use Rattle.book_owned.specs.Split.{AreHalves, IsBackOf, book_of_halves, front_of_book}
use Rattle.book_owned.specs.declared.answer.Append.{Append}
use Rattle.book_owned.specs.declared.answer.Append.TheVariants.{Accepted, SessionFull, Stopped, DiskFault, Memory}
use Rattle.book_owned.specs.declared.in_memory.InMemory.{InMemory}
use Rattle.book_owned.proofs.Keeping.{kept_of, keeps_longer}
use Rattle.book_owned.proofs.Turning.{counted_as}

-- a front counts what it handed over from its last mark on
pub front_resting : {V N : Type 0} (view : ViewOf V N) (memory : InMemory V) (from : ℕ) → IsFront view memory → is_some memory.spare ≡ true
    → from ≡ durable memory.marks.items → IsFront view (record memory { from = from })
front_resting view memory from front there from_is =
    let steady = front.steady in
    let settled = steady.settled there in record {
      counted = counted_as memory (record memory { from = from }) refl refl refl front.counted;
      pending = record {
        records = λ going. subst (λ n. AreEncodingsBehind memory.shapes (take n memory.history.items) memory.block.bytes (drop n memory.history.items))
            (settled going ∙ sym from_is) (front.pending.records going);
        room = front.pending.room;
      };
      steady = record {
        throughs = steady.throughs;
        shown = steady.shown;
        low = omega (arith, from_is);
        within = omega (arith, from_is, steady.low, steady.within);
        settled = λ _ _. from_is;
        few = λ going. subst (λ n. history_size memory.shapes (drop n memory.history.items) ≤ memory.block.limit) (settled going ∙ sym from_is) (steady.few going);
        few_all = steady.few_all;
      };
      shared = front.shared;
      sealed = front.sealed;
      has_spare = has memory.spare there front.has_spare;
      few_handed = λ going. subst (λ n. history_size memory.shapes (drop (durable memory.marks.items) (take n memory.history.items)) ≤ memory.block.limit)
          (settled going ∙ sym from_is) (front.few_handed going);
    } where
      has : (spare : Option Buffered) → is_some spare ≡ true → HasSpare memory spare → HasSpare (record memory { from = from }) spare
      has None none spare = cc
      has (Some block) some spare = spare

module _ {D V N : Type 0} (disk : DiskOf D) (view : ViewOf V N) (front : FrontAccount V) (file : Gated D) (halves : AreHalves disk front file) where
  abbrev book : FrontAccount V → Account D V
  book half = book_of_halves disk half file

  -- what the book keeps of its disk
  pub book_kept : IsSteady view front → IsKept (book front).terms (state_of disk file.disk) front.history front.marks
  book_kept steady = kept_of (book front).terms (state_of disk file.disk) front.history front.marks halves.keeps steady.throughs steady.few_all

  pub book_fits : IsSteady view front → file.failed ≡ false → FitsOne (book front).terms front.history front.marks
  book_fits steady going =
      let goes = halves.stop ∙ going in
      subst (λ n. history_size front.terms.layouts (drop n front.history) ≤ front.terms.block_limit) (steady.settled halves.spare goes) (steady.few goes)

  -- its halves
  pub book_back : IsBackOf disk (book front) file
  book_back = record { disk_is = refl; failed = refl; terms = refl; keeps = halves.keeps; holds = λ going. halves.holds (halves.stop ∙ going) }

  -- its front, where all that was handed over is durable
  pub resting_front : record front { from = durable front.marks } ≡ front_of_book (book front)
  resting_front = ap (λ b. record front { from = durable front.marks; spare = b }) halves.spare ∙ ap (λ s. record front { from = durable front.marks; spare = true; stopped = s }) halves.stop

  -- what fits into its block fits into that of the front
  pub front_fits : (sample : Sample) → IsSteady view front → front.stopped ≡ false → FitsBlock (book front) sample → FrontFits front sample
  front_fits sample steady going fits =
      subst (λ n. history_size front.terms.layouts (drop n front.history) + encoded_size front.terms.layouts sample ≤ front.terms.block_limit)
      (sym (steady.settled halves.spare going)) fits

  -- a put, of which the file learns nothing
  module _ (new : FrontAccount V) (sample : Sample) where
    abbrev longer : FrontAccount V
    longer = record front { history = front.history ++ sample ∷ [] }

    accepted : IsSteady view front → AreHalves disk longer file
    accepted steady = record {
      spare = halves.spare;
      stop = halves.stop;
      keeps = keeps_longer front.terms.layouts (head_of (disk.story file.disk) file.first) file.start (disk.story file.disk) (disk.moment file.disk)
          front.history longer.history front.marks (sample ∷ [], refl) halves.keeps;
      holds = λ going. subst (FileHolds disk front.terms.layouts front.terms.block_limit file)
          (sym (take-append-le (durable front.marks) front.history (sample ∷ []) (omega (arith, steady.low, steady.within)))) (halves.holds going);
    }

    pub put_halves : (answer : Append) → IsSteady view front → PutTells front new sample answer → AreHalves disk new file
    put_halves (Accepted place) steady tells = subst (λ f. AreHalves disk f file) (sym tells.3) (accepted steady)
    put_halves (SessionFull held size limit) steady tells = subst (λ f. AreHalves disk f file) (sym tells.1) halves
    put_halves (Stopped mark) steady tells = subst (λ f. AreHalves disk f file) (sym tells.1) halves
    put_halves (DiskFault before after) steady tells = absurd tells
    put_halves Memory steady tells = subst (λ f. AreHalves disk f file) (sym tells.1) halves

    same_steps : new ≡ front → Steps (book front) (book new) []
    same_steps same = subst (λ f. Steps (book front) (book f) []) (sym same)
        (record { history = sym (append-nil front.history); marks = ([], append-nil front.marks); stopped = λ stopped. stopped; terms = refl })

    pub put_steps : (answer : Append) → PutTells front new sample answer → Steps (book front) (book new) (accepted_by answer sample)
    put_steps (Accepted place) tells = subst (λ f. Steps (book front) (book f) (sample ∷ [])) (sym tells.3)
        (record { history = refl; marks = ([], append-nil front.marks); stopped = λ stopped. stopped; terms = refl })
    put_steps (SessionFull held size limit) tells = same_steps tells.1
    put_steps (Stopped mark) tells = same_steps tells.1
    put_steps (DiskFault before after) tells = absurd tells
    put_steps Memory tells = same_steps tells.1

    goes : front.stopped ≡ false → file.failed ≡ false
    goes going = sym halves.stop ∙ going

    pub refused_answers : (answer : Append) → PutTells front new sample answer → accepted_by answer sample ≡ []
        → AppendAnswers disk view (book front) (book new) sample answer
    refused_answers (Accepted place) tells none = absurd (omega (arith, ap length none))
    refused_answers (SessionFull held size limit) tells none = (goes tells.0, ap book tells.1, tells.2, tells.3, tells.4, tells.5)
    refused_answers (Stopped mark) tells none = record {
      stopped = sym halves.stop ∙ tells.0;
      same = ap book tells.1;
      mark_is = tells.2 ∙ ap (λ f. last_mark f.marks) (sym tells.1);
    }
    refused_answers (DiskFault before after) tells none = absurd tells
    refused_answers Memory tells none = (goes tells.0, ap book tells.1, tells.2)

    pub put_answers : (answer : Append) → PutTells front new sample answer → FitsBlock (book front) sample
        → AppendAnswers disk view (book front) (book new) sample answer
    put_answers (Accepted place) tells fits =
        (goes tells.0, goes tells.0, tells.1, tells.2, inl (fits, ap (λ f. f.marks) tells.3, refl, ap (λ f. f.view) tells.3))
    put_answers (SessionFull held size limit) tells fits = refused_answers (SessionFull held size limit) tells refl
    put_answers (Stopped mark) tells fits = refused_answers (Stopped mark) tells refl
    put_answers (DiskFault before after) tells fits = absurd tells
    put_answers Memory tells fits = refused_answers Memory tells refl

  -- a refusal
  pub refused_none : (sample : Sample) (refused : Option Append) → IfNone refused ((front.stopped ≡ false) × FrontRoom front sample)
      → IfNone refused (((book front).stopped ≡ false) × HasRoom (book front) sample)
  refused_none sample None takes = (sym halves.stop ∙ takes.0, takes.1)
  refused_none sample (Some answer) takes = tt

  pub refused_some : (sample : Sample) (refused : Option Append) → IfSome refused (λ answer. PutTells front front sample answer × (accepted_by answer sample ≡ []))
      → IfSome refused (λ answer. AppendAnswers disk view (book front) (book front) sample answer × (accepted_by answer sample ≡ []))
  refused_some sample None refuses = tt
  refused_some sample (Some answer) refuses = (refused_answers front sample answer refuses.0 refuses.1, refuses.1)

  -- what its machine holds is what that of its front holds
  pub same_state : book_state_of view.count (book front) ≡ front_state_of view.count front
  same_state = ap (λ s. record (front_state_of view.count front) { stopped = s }) (sym halves.stop)

pub put_events : {D V N : Type 0} (disk : DiskOf D) (view : ViewOf V N) (old new : FrontAccount V) (file : Gated D) (sample : Sample) (answer : Append)
    → AreHalves disk old file → AreHalves disk new file → FrontPutEvents view.count old new sample answer
    → PutEvents view.count (book_of_halves disk old file) (book_of_halves disk new file) sample answer
put_events disk view old new file sample answer before after events =
    subst (λ s. PutLeads s (book_state_of view.count (book_of_halves disk new file)) sample answer) (sym (same_state disk view old file before))
    (subst (λ s. PutLeads (front_state_of view.count old) s sample answer) (sym (same_state disk view new file after)) events)
