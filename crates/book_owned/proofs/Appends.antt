-- An append to the two halves of a book.
use Rattle.std.proofs.Common.{◌≡◌, ◌+◌, ◌<◌, ◌≤◌, ℕ, false, List, [], ◌∷◌, ◌++◌, length, take, drop, sym, ◌∙◌, ap, subst, inl, inr, ⊎_elim, arith, append-nil}
use Rattle.std.proofs.lemmas.Bool.{false≢true}
use Rattle.mdf_layout.specs.Record.{cost_of, encoded_size, history_cost, history_size}
use Rattle.mdf_layout.specs.declared.sample.Sample.{Sample}
use Rattle.mdf_layout.proofs.Sizes.{encodings-length}
use Rattle.mdf_gate.specs.Gated.{Gated}
use Rattle.mdf_gate.proofs.Carrying.{prefix_trans}
use Rattle.book_owned.specs.Members.{DiskOf, ViewOf}
use Rattle.book_owned.specs.Marks.{durable}
use Rattle.book_owned.specs.Account.{Account, Steps}
use Rattle.book_owned.specs.Answers.{accepted_by, AppendAnswers, HasRoom, MakesRoom}
use Rattle.book_owned.specs.FrontHalf.{IsFront, PutTells, front_account}
use Rattle.book_owned.specs.Holds.{IsPut}
use Rattle.book_owned.specs.Split.{AreHalves, HasFaultOf, book_of, book_of_halves}
use Rattle.book_owned.specs.declared.answer.Append.{Append}
use Rattle.book_owned.specs.declared.answer.Append.TheVariants.{Accepted, DiskFault}
use Rattle.book_owned.specs.declared.fault.Fault.{Fault}
use Rattle.book_owned.specs.declared.in_memory.InMemory.{InMemory}
use Rattle.book_owned.proofs.Fronts.{front_put, front_reserved}
use Rattle.book_owned.proofs.Parting.{put_halves, put_steps}

-- what an append leads to
pub record Appended {D V N : Type 0} (disk : DiskOf D) (view : ViewOf V N) (old : Account D V) (new : InMemory V) (file : Gated D) (sample : Sample) (answer : Append) : Type 0 where
  pub front : IsFront view new
  pub halves : AreHalves disk (front_account view new) file
  pub steps : Steps old (book_of disk view new file) (accepted_by answer sample)
  pub answers : AppendAnswers disk view old (book_of disk view new file) sample answer

-- one step after another that accepted nothing
steps_then : {D V : Type 0} (old mid new : Account D V) (added : List Sample) → Steps old mid [] → Steps mid new added → Steps old new added
steps_then old mid new added one two = record {
  history = two.history ∙ ap (λ h. h ++ added) (one.history ∙ append-nil old.history);
  marks = prefix_trans old.marks mid.marks new.marks one.marks two.marks;
  stopped = λ stopped. two.stopped (one.stopped stopped);
  terms = two.terms ∙ one.terms;
}

-- room was found
pub same_account : {V N : Type 0} (view : ViewOf V N) (old reserved : InMemory V) → reserved ≡ record old { history = reserved.history; marks = reserved.marks }
    → reserved.history.items ≡ old.history.items → reserved.marks.items ≡ old.marks.items → front_account view reserved ≡ front_account view old
same_account view old reserved rest history marks =
    ap (front_account view) rest ∙ ap (λ h. record (front_account view old) { history = h; marks = reserved.marks.items }) history
    ∙ ap (λ m. record (front_account view old) { marks = m }) marks

-- a sample was put
put_account : {V N : Type 0} (view : ViewOf V N) (old new : InMemory V) (sample : Sample) → IsPut old new sample
    → front_account view new ≡ record (front_account view old) { history = old.history.items ++ sample ∷ [] }
put_account view old new sample put =
    ap (front_account view) put.rest ∙ ap (λ h. record (front_account view old) {
      history = h;
      terms = record { layouts = old.shapes; block_limit = new.block.limit; session_limit = old.session_limit; which = view.which old.view };
    }) put.history ∙ ap (λ (n : ℕ). record (front_account view old) {
      history = old.history.items ++ sample ∷ [];
      terms = record { layouts = old.shapes; block_limit = n; session_limit = old.session_limit; which = view.which old.view };
    }) put.limit

-- The book when room was found in memory for a sample of this size.
pub record Reserved {D V N : Type 0} (disk : DiskOf D) (view : ViewOf V N) (old : Account D V) (front : InMemory V) (file : Gated D) (sample : Sample) (size : ℕ) : Type 0 where
  pub is : IsFront view front
  pub halves : AreHalves disk (front_account view front) file
  pub same : book_of disk view front file ≡ old
  pub going : old.stopped ≡ false
  pub room : HasRoom old sample
  pub size_is : size ≡ encoded_size old.terms.layouts sample

pub reserved_of : {D V N : Type 0} (disk : DiskOf D) (view : ViewOf V N) (old : Account D V) (memory front : InMemory V) (file : Gated D) (sample : Sample) (size : ℕ)
    → IsFront view memory → AreHalves disk (front_account view memory) file → book_of disk view memory file ≡ old
    → front ≡ record memory { history = front.history; marks = front.marks } → front.history.items ≡ memory.history.items
    → front.history.chunks ≡ memory.history.chunks → front.marks.items ≡ memory.marks.items → memory.marks.spare ≤ front.marks.spare
    → memory.stopped ≡ false → memory.held + cost_of memory.shapes sample ≤ memory.session_limit → size ≡ encoded_size memory.shapes sample
    → Reserved disk view old front file sample size
reserved_of disk view old memory front file sample size is halves same rest history chunks marks spare going room size_is =
    let account = same_account view memory front rest history marks in record {
      is = front_reserved view memory is front rest history chunks marks spare;
      halves = subst (λ f. AreHalves disk f file) (sym account) halves;
      same = ap (λ f. book_of_halves disk f file) account ∙ same;
      going = sym (ap (λ a. a.stopped) same) ∙ sym halves.stop ∙ going;
      room = subst (λ a. HasRoom a sample) same (omega (arith, room, is.counted.held));
      size_is = size_is ∙ ap (λ a. encoded_size a.terms.layouts sample) same;
    }

module _ {D V N : Type 0} (disk : DiskOf D) (view : ViewOf V N) (old : Account D V) (made : InMemory V) (file : Gated D) (sample : Sample) (size : ℕ)
    (front : IsFront view made) (halves : AreHalves disk (front_account view made) file) (steps : Steps old (book_of disk view made file) [])
    (going : old.stopped ≡ false) (room : HasRoom old sample) (size_is : size ≡ encoded_size old.terms.layouts sample) where
  abbrev book : Account D V
  book = book_of disk view made file

  history_is : made.history.items ≡ old.history
  history_is = steps.history ∙ append-nil old.history

  -- the disk failed while room was made
  pub append_failed : (fault : Fault) → HasFaultOf disk old book size fault → Appended disk view old made file sample (DiskFault fault.before fault.after)
  append_failed fault has = record {
    front = front;
    halves = halves;
    steps = steps;
    answers = (room, has.fault_is, has.marks, subst (λ n. old.terms.block_limit < history_size old.terms.layouts (drop (durable old.marks) old.history) + n) size_is has.passes, has.view);
  }

  pub same_size : size ≡ encoded_size made.shapes sample
  same_size = size_is ∙ sym (ap (λ t. encoded_size t.layouts sample) steps.terms)

  pub has_room : HasRoom book sample
  has_room = subst (λ t. history_cost t.layouts made.history.items + cost_of t.layouts sample ≤ t.session_limit) (sym steps.terms)
      (subst (λ h. history_cost old.terms.layouts h + cost_of old.terms.layouts sample ≤ old.terms.session_limit) (sym history_is) room)

  -- the sample was put
  module _ (new : InMemory V) (place : ℕ) (put : IsPut made new sample) (one : 1 ≤ made.marks.spare) (still : made.stopped ≡ false) (fits : length made.block.bytes + size ≤ made.block.limit)
      (place_is : place ≡ length made.history.items) (makes : MakesRoom disk view old book size) where
    tells : PutTells (front_account view made) (front_account view new) sample (Accepted place)
    tells = (still, has_room, place_is, put_account view made new sample put)

    front_then : IsFront view new
    front_then = front_put view made front new sample put still one (λ away. absurd (false≢true (sym away ∙ halves.spare)))
        (omega (arith, front.counted.held, has_room))
        (omega (
          arith,
          fits,
          same_size,
          encodings-length made.shapes (take made.from made.history.items) made.block.bytes (drop made.from made.history.items) (front.pending.records still),
        ))

    abbrev after : Account D V
    after = book_of disk view new file

    same_marks : after.marks ≡ book.marks
    same_marks = ap (λ f. f.marks) tells.3

    same_view : after.view ≡ book.view
    same_view = ap (λ f. f.view) tells.3

    turned : MakesRoom disk view old after size
    turned = ⊎_elim
        (λ fits. inl (fits.0, same_marks ∙ fits.1, fits.2, same_view ∙ fits.3))
        (λ over. inr (
          over.0,
          (over.1.0, same_marks ∙ over.1.1, over.1.2, over.1.3),
          subst (λ v. (view.count old.view ≤ view.count v) × (view.count v ≤ length old.history)) (sym same_view) over.2,
        ))
        makes

    pub append_put : Appended disk view old new file sample (Accepted place)
    append_put = record {
      front = front_then;
      halves = put_halves disk view (front_account view made) file halves (front_account view new) sample (Accepted place) front.steady tells;
      steps = steps_then old book after (sample ∷ []) steps
          (put_steps disk view (front_account view made) file halves (front_account view new) sample (Accepted place) tells);
      answers = (
        going,
        sym halves.stop ∙ still,
        room,
        place_is ∙ ap length history_is,
        subst (MakesRoom disk view old after) size_is turned,
      );
    }
