-- A flush of the two halves of a book.
use Rattle.std.proofs.Common.{◌≡◌, ◌+◌, ◌<◌, ◌≤◌, ◌^◌, ℕ, true, false, List, [], ◌∷◌, ◌++◌, length, take, drop, refl, sym, ◌∙◌, ap, subst, inl, inr, ⊎_elim, arith, append-nil}
use Rattle.std.proofs.lemmas.Bool.{false≢true}
use Rattle.std.proofs.lemmas.List.{take_all, drop_all}
use Rattle.std.specs.List.{All}
use Rattle.mdf_layout.specs.Layout.{Layout}
use Rattle.mdf_layout.specs.Record.{history_cost, history_size}
use Rattle.mdf_layout.specs.Behind.{AreEncodingsBehind}
use Rattle.mdf_layout.specs.declared.sample.Sample.{Sample}
use Rattle.mdf_layout.proofs.Sizes.{encodings-length}
use Rattle.mdf_gate.specs.Gated.{Gated, Buffered}
use Rattle.book_owned.specs.Members.{DiskOf, ViewOf}
use Rattle.book_owned.specs.Marks.{durable}
use Rattle.book_owned.specs.Account.{Account, Steps}
use Rattle.book_owned.specs.Answers.{FlushAnswers, MakesRoom, Passes}
use Rattle.book_owned.specs.BackHalf.{BackKeeps, FileHolds, IsHanded, WriteAnswers, WriteKeeps, back_terms}
use Rattle.book_owned.specs.FrontHalf.{FrontAccount, FinishTells, HandTells, IsAwaited, IsFront, front_account}
use Rattle.book_owned.specs.Split.{AreHalves, book_of, book_of_halves, terms_of_parts}
use Rattle.book_owned.specs.declared.answer.Flush.{Flush}
use Rattle.book_owned.specs.declared.answer.Flush.TheVariants as flush
use Rattle.book_owned.specs.declared.handed.Handed.TheVariants as handed
use Rattle.book_owned.specs.declared.in_memory.InMemory.{InMemory}
use Rattle.book_owned.specs.declared.mark.Mark.{Mark}
use Rattle.book_owned.specs.declared.written.Written.{Written}
use Rattle.book_owned.specs.declared.written.Written.TheVariants as written
use Rattle.book_owned.proofs.Lasts.{last_mark-append}

-- what a flush leads to
pub record Flushed {D V N : Type 0} (disk : DiskOf D) (view : ViewOf V N) (old new : FrontAccount V) (file file' : Gated D) (result : Flush N) : Type 0 where
  pub halves : AreHalves disk new file'
  pub steps : Steps (book_of_halves disk old file) (book_of_halves disk new file') []
  pub answer : FlushAnswers disk view (book_of_halves disk old file) (book_of_halves disk new file') result

module _ {D V N : Type 0} (disk : DiskOf D) (view : ViewOf V N) (old : FrontAccount V) (file : Gated D) (halves : AreHalves disk old file) where
  abbrev history : List Sample
  history = old.history

  abbrev marks : List Mark
  marks = old.marks

  abbrev layouts : List Layout
  layouts = old.terms.layouts

  abbrev most : ℕ
  most = old.terms.block_limit

  abbrev book : FrontAccount V → Account D V
  book half = book_of_halves disk half file

  -- it was stopped
  pub flush_stopped : (new : FrontAccount V) (mark : Mark) → HandTells old new (handed.Stopped mark) → Flushed disk view old new file file (flush.Stopped mark)
  flush_stopped new mark (stopped, same, mark_is) = subst (λ f. Flushed disk view old f file file (flush.Stopped mark)) (sym same) (record {
    halves = halves;
    steps = record { history = sym (append-nil history); marks = ([], append-nil marks); stopped = λ s. s; terms = refl };
    answer = record { stopped = sym halves.stop ∙ stopped; same = refl; mark_is = mark_is };
  })

  -- nothing was pending
  pub flush_nothing : (given new : FrontAccount V) (result : Flush N) → HandTells old given handed.Nothing → FinishTells view given new written.Nothing result
      → Flushed disk view old new file file result
  flush_nothing given new result (going, same, all, settled) finished = at result (subst (λ f. FinishTells view f new written.Nothing result) same finished) where
    at : (result : Flush N) → FinishTells view old new written.Nothing result → Flushed disk view old new file file result
    at (flush.Done through shown note) (goes, new_is, through_is, shown_is, few, shows, tells) =
        let durable_is : durable marks ≡ length history = sym settled ∙ all in
        let failed : file.failed ≡ false = sym halves.stop ∙ going in record {
          halves = subst (λ f. AreHalves disk f file) (sym new_is) (record { spare = refl; stop = halves.stop; keeps = halves.keeps; holds = halves.holds });
          steps = record {
            history = ap (λ f. f.history) new_is ∙ sym (append-nil history);
            marks = ([], append-nil marks ∙ sym (ap (λ f. f.marks) new_is));
            stopped = λ s. s;
            terms = ap (λ f. terms_of_parts f.terms (back_terms disk file)) new_is;
          };
          answer = (failed, failed, through_is ∙ durable_is, shown_is, few, inl (ap (λ f. f.marks) new_is, refl, durable_is), shows, tells);
        }
    at (flush.DiskFault before after) none = absurd none
    at (flush.Stopped mark) none = absurd none

  -- the pending records are given out
  module _ (lent : FrontAccount V) (through : ℕ) (block : Buffered) (tells : HandTells old lent (handed.Given through block)) where
    abbrev going : old.stopped ≡ false
    going = tells.0

    abbrev all : through ≡ length history
    all = tells.1

    abbrev settled : old.from ≡ durable marks
    settled = tells.2

    abbrev lent_is : lent ≡ record old { from = through; spare = false }
    lent_is = tells.8

    whole : take through history ≡ history
    whole = take_all through history (omega (arith, all))

    pub write_going : file.failed ≡ false
    write_going = sym halves.stop ∙ going

    pub write_short : file.place + length block.bytes + 88 < 2 ^ 62
    write_short = omega (arith, (halves.holds going).reach, tells.7.size, ap (λ n. history_cost layouts (take n history)) settled)

    -- of which the file keeps this
    pub write_keeps : (file' : Gated D) (wrote : Written) → ((layouts : List Layout) (most : ℕ) (samples : List Sample) (marks : List Mark) (from : ℕ)
        → BackKeeps disk layouts file (take through samples) marks → FileHolds disk layouts most file (take from samples)
        → IsHanded layouts most block samples from through → All (λ mark. mark.through ≤ from) marks
        → WriteKeeps disk layouts most file' samples marks through wrote) → WriteKeeps disk layouts most file' history marks through wrote
    write_keeps file' wrote keeps = keeps layouts most history marks old.from
        (subst (λ h. BackKeeps disk layouts file h marks) (sym whole) halves.keeps)
        (subst (λ n. FileHolds disk layouts most file (take n history)) (sym settled) (halves.holds going))
        (record {
          more = omega (arith, tells.3);
          within = omega (arith, all);
          short = tells.7.short;
          records = subst (λ h. AreEncodingsBehind layouts (take old.from history) block.bytes (drop old.from h)) (sym whole) tells.6;
        })
        (subst (λ n. All (λ mark. mark.through ≤ n) marks) (sym settled) tells.7.fewer)

    pub write_awaited : (file' : Gated D) (wrote : Written) → WriteAnswers disk file file' through block wrote → IsAwaited lent wrote
    write_awaited file' wrote answers = subst (λ f. IsAwaited f wrote) (sym lent_is) (at wrote answers) where
      at : (wrote : Written) → WriteAnswers disk file file' through block wrote → IsAwaited (record old { from = through; spare = false }) wrote
      at (written.Done mark back) (goes, through_is, moment_is, emptied, limit_is) = (refl, through_is, limit_is ∙ tells.4)
      at (written.DiskFault before after back) (failed, before_is, after_is, rose, back_is) = (refl, ap (λ b. b.limit) back_is ∙ tells.4)
      at written.Nothing none = absurd none

    pub flush_written : (new : FrontAccount V) (file' : Gated D) (wrote : Written) (result : Flush N) → WriteAnswers disk file file' through block wrote
        → WriteKeeps disk layouts most file' history marks through wrote → back_terms disk file' ≡ back_terms disk file
        → FinishTells view lent new wrote result → Flushed disk view old new file file' result
    flush_written new file' wrote result answers keeps terms finished = at wrote result answers keeps (subst (λ f. FinishTells view f new wrote result) lent_is finished) where
      same_terms : new.terms ≡ old.terms → (book_of_halves disk new file').terms ≡ (book old).terms
      same_terms same = ap (λ t. terms_of_parts t (back_terms disk file')) same ∙ ap (terms_of_parts old.terms) terms

      at : (wrote : Written) (result : Flush N) → WriteAnswers disk file file' through block wrote → WriteKeeps disk layouts most file' history marks through wrote
          → FinishTells view (record old { from = through; spare = false }) new wrote result → Flushed disk view old new file file' result
      at (written.Done mark back) (flush.Done upto shown note) (goes, through_is, moment_is, emptied, limit_is) kept (still, new_is, upto_is, shown_is, few, shows, told) =
          let durable_is : durable (marks ++ mark ∷ []) ≡ through = ap (λ m. m.through) (last_mark-append marks mark) ∙ through_is in record {
            halves = subst (λ f. AreHalves disk f file') (sym new_is) (record {
              spare = refl;
              stop = going ∙ sym goes;
              keeps = subst (λ h. BackKeeps disk layouts file' h (marks ++ mark ∷ [])) whole kept.1;
              holds = λ _. subst (λ n. FileHolds disk layouts most file' (take n history)) (sym durable_is) kept.2;
            });
            steps = record {
              history = ap (λ f. f.history) new_is ∙ sym (append-nil history);
              marks = (mark ∷ [], sym (ap (λ f. f.marks) new_is));
              stopped = λ stopped. absurd (false≢true (sym write_going ∙ stopped));
              terms = same_terms (ap (λ f. f.terms) new_is);
            };
            answer = (
              write_going,
              goes,
              upto_is ∙ durable_is ∙ all,
              shown_is,
              few,
              inr (mark, ap (λ f. f.marks) new_is, through_is ∙ all, moment_is),
              shows,
              told,
            );
          }
      at (written.DiskFault before after back) (flush.DiskFault before' after') (failed, before_is, after_is, rose, back_is) kept (still, new_is, same_before, same_after) = record {
        halves = subst (λ f. AreHalves disk f file') (sym new_is) (record {
          spare = refl;
          stop = sym failed;
          keeps = subst (λ h. BackKeeps disk layouts file' h marks) whole kept;
          holds = λ goes. absurd (false≢true (sym goes));
        });
        steps = record {
          history = ap (λ f. f.history) new_is ∙ sym (append-nil history);
          marks = ([], append-nil marks ∙ sym (ap (λ f. f.marks) new_is));
          stopped = λ stopped. failed;
          terms = same_terms (ap (λ f. f.terms) new_is);
        };
        answer = (
          record {
            going = write_going;
            stopped = failed;
            before_is = same_before ∙ before_is;
            after_is = same_after ∙ after_is;
            rose = rw (same_before, same_after) rose;
          },
          ap (λ f. f.marks) new_is,
          ap (λ f. f.view) new_is,
          omega (arith, settled, tells.3, all),
        );
      }
      at (written.Done mark back) (flush.DiskFault before after) answers kept none = absurd none
      at (written.Done mark back) (flush.Stopped last) answers kept none = absurd none
      at (written.DiskFault before after back) (flush.Done upto shown note) answers kept none = absurd none
      at (written.DiskFault before after back) (flush.Stopped last) answers kept none = absurd none
      at written.Nothing result none kept finished = absurd none

-- how many bytes are pending, and when
pub pending_size : {V N : Type 0} (view : ViewOf V N) (front : InMemory V) → IsFront view front → front.stopped ≡ false → (front_account view front).spare ≡ true
    → length front.block.bytes ≡ history_size front.shapes (drop (durable front.marks.items) front.history.items)
pending_size view front is going there =
    encodings-length front.shapes (take front.from front.history.items) front.block.bytes (drop front.from front.history.items) (is.pending.records going)
    ∙ ap (λ n. history_size front.shapes (drop n front.history.items)) (is.steady.settled there going)

-- all pending records were written for what would pass the limit
module _ {D V N : Type 0} (disk : DiskOf D) (view : ViewOf V N) (old new : Account D V) (size : ℕ) (passes : Passes old size) (small : size ≤ old.terms.block_limit) where
  nothing_fits : durable old.marks ≡ length old.history → ⊥
  nothing_fits all = absurd (omega (
    arith,
    passes,
    small,
    ap (history_size old.terms.layouts) (drop_all (durable old.marks) old.history (omega (arith, all))),
  ))

  pub room_made : (through shown : ℕ) (note : N) → FlushAnswers disk view old new (flush.Done through shown note) → MakesRoom disk view old new size
  room_made through shown note (_, _, through_is, shown_is, few, marks, shows, tells) =
      inr (passes, ⊎_elim (λ none. absurd (nothing_fits none.2)) (λ has. has) marks, (shows.0, omega (arith, shows.1, through_is)))

  -- and all samples are durable
  pub made_durable : (through shown : ℕ) (note : N) → FlushAnswers disk view old new (flush.Done through shown note) → durable new.marks ≡ length old.history
  made_durable through shown note (_, _, through_is, shown_is, few, marks, shows, tells) =
      ⊎_elim (λ none. absurd (nothing_fits none.2)) (λ has. ap durable has.1 ∙ ap (λ m. m.through) (last_mark-append old.marks has.0) ∙ has.2) marks

  -- so that there is room
  pub made_room : (front : InMemory V) (file : Gated D) → IsFront view front → AreHalves disk (front_account view front) file → new ≡ book_of disk view front file
      → Steps old new [] → (through shown : ℕ) (note : N) → FlushAnswers disk view old new (flush.Done through shown note) → length front.block.bytes + size ≤ front.block.limit
  made_room front file is halves new_is steps through shown note answer =
      let all : durable front.marks.items ≡ length front.history.items =
      sym (ap (λ a. durable a.marks) new_is) ∙ made_durable through shown note answer ∙ ap length (sym (steps.history ∙ append-nil old.history)) ∙ ap (λ a. length a.history) new_is in
      omega (
        arith,
        small,
        pending_size view front is (halves.stop ∙ sym (ap (λ a. a.stopped) new_is) ∙ answer.1) halves.spare,
        ap (history_size front.shapes) (drop_all (durable front.marks.items) front.history.items (omega (arith, all))),
        ap (λ a. a.terms.block_limit) new_is,
        ap (λ t. t.block_limit) steps.terms,
      )
