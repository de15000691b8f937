-- What was handed out is written while the turn is another's.
use Rattle.std.proofs.Common.{◌≡◌, ℕ, ◌+◌, ◌<◌, ◌≤◌, false, List, [], ◌∷◌, ◌++◌, length, take, drop, All, sym, ap, ◌∙◌, subst, inl, inr, arith, append-nil}
use Rattle.std.specs.Prelude.{Option as Opt}
use Rattle.std.proofs.Math.Seq.{take-length}
use Rattle.atomic_table.specs.Table.{Step, rest}
use Rattle.mdf_disk.specs.declared.disk.Disk.{Ghosts as DiskOf}
use Rattle.mdf_layout.specs.Behind.{AreEncodingsBehind}
use Rattle.mdf_layout.specs.Record.{history_cost}
use Rattle.mdf_layout.specs.declared.sample.Sample.{Sample}
use Rattle.mdf_gate.specs.Gated.{Gated, Buffered}
use Rattle.book_owned.specs.Marks.{durable}
use Rattle.book_owned.specs.BackHalf.{WriteKeeps}
use Rattle.book_owned.specs.FrontHalf.{FrontTerms, FrontAccount}
use Rattle.book_owned.specs.declared.mark.Mark.{Mark}
use Rattle.book_owned.specs.declared.handed.Handed.TheVariants.{Given}
use Rattle.book_owned.specs.declared.written.Written.{Written}
use Rattle.book_owned.specs.declared.written.Written.TheVariants.{Done, DiskFault, Nothing}
use Rattle.book_shared.specs.Basis.{Basis, handed, resting, writing}
use Rattle.book_shared.specs.Rule.{KeepsAll, HoldsAll}
use Rattle.book_shared.specs.Plays.{Slot, Here, at_device, held_of, given, given_device, Does, Hands, Holds, BringsOut}
use Rattle.book_shared.specs.Turns.{TellsBy, told_by, Took, Writes, WritesOut}
use Rattle.book_shared.specs.Rounds.{HasHanded, HasWritten, IsWrittenAs, answered}
use Rattle.book_shared.specs.declared.half.Answer.{Answer}
use Rattle.book_shared.specs.declared.half.Half.TheVariants.{TheFront, TheBack}
use Rattle.book_shared.specs.declared.view.View.{View}
use Rattle.book_shared.proofs.Keeps.{seat_of, slot_front, slot_back}
use Rattle.book_shared.proofs.Stores.{some_counted, front_in}
use Rattle.book_shared.proofs.Takings.{carries}

module _ {D V : Type 0} (m : Here D V) (through : ℕ) (block : Buffered) (out : HasHanded m (Given through block)) where
  marks_same : out.new.marks ≡ out.old.marks
  marks_same = ap (λ (f : FrontAccount V). f.marks) out.tells.8

  history_same : out.new.history ≡ out.old.history
  history_same = ap (λ (f : FrontAccount V). f.history) out.tells.8

  -- the front owes no more than the hand-over
  pub hands_all : Hands (held_of out.old) out.new
  hands_all = (
    history_same,
    marks_same,
    ap (λ (f : FrontAccount V). f.from) out.tells.8 ∙ out.tells.1 ∙ sym (ap length history_same),
    out.tells.0,
    ap (λ (f : FrontAccount V). f.stopped) out.tells.8 ∙ out.tells.0,
    ap (λ (f : FrontAccount V). f.spare) out.tells.8,
  )

  pub handed_back : (front : FrontAccount V) × (m.1 ≡ (0, TheFront front) ∷ []) × Holds false m.0 front
  handed_back = (
    out.new,
    out.out,
    record {
      held = held_of out.old;
      turn_is = out.turn_is;
      returns = record {
        added = [];
        history_is = history_same ∙ sym (append-nil out.old.history);
        one = omega arith;
        own = tt;
        does = subst (λ d. Does d (held_of out.old) out.new) (sym out.device_is) (inr hands_all);
        makes = inl marks_same;
        terms = ap (λ (f : FrontAccount V). f.terms) out.tells.8 ∙ out.terms;
      };
    },
  )

  -- then its block is out to be written
  pub handed_now : (word : ℕ) (n : Here D V) → n ≡ seat_of (given false m.0 word out.new) [] → n.0.device ≡ handed
  handed_now word n is =
      ap (λ (x : Here D V). x.0.device) is ∙ ap (λ d. given_device d out.new.spare) out.device_is ∙ ap (given_device resting) (ap (λ (f : FrontAccount V). f.spare) out.tells.8)

  -- the samples that the file holds are those of the last hand-over
  held_before : take (durable out.new.marks) out.new.history ≡ take out.old.from out.old.history
  held_before = ap (λ (f : FrontAccount V). take (durable f.marks) f.history) out.tells.8 ∙ ap (λ n. take n out.old.history) (sym out.tells.2)

  module _ (disk : DiskOf D) (word : ℕ) (n : Here D V) (is : n ≡ seat_of (given false m.0 word out.new) []) (st : Step (Slot D V)) (r : ℕ) (o : Here D V) (brings : BringsOut disk st n r o) where
    abbrev came : BringsOut disk st (seat_of (given false m.0 word out.new) []) r o
    came = subst (λ (x : Here D V). BringsOut disk st x r o) is brings

    abbrev pub the_back : Gated D
    the_back = came.0

    pub is_out : o ≡ seat_of (at_device (given false m.0 word out.new) writing) ((1, slot_back the_back) ∷ [])
    is_out = came.1

    pub may_write : (back : Gated D) × (o.1 ≡ (1, TheBack back) ∷ rest o.1) × (back.failed ≡ false) × (1 ≤ length block.bytes)
        × (back.place + length block.bytes + 88 < 4611686018427387904)
    may_write = (
      the_back,
      carries o.1 (1, slot_back the_back) [] (ap (λ (x : Here D V). x.1) is_out),
      came.3.going,
      out.tells.5,
      omega (
        arith,
        came.3.reach,
        out.tells.7.size,
        ap (history_cost m.0.basis.terms.layouts) held_before,
        ap (λ (t : FrontTerms). history_cost t.layouts (take out.old.from out.old.history)) out.terms,
      ),
    )

    -- what is true of the back when it was written
    module _ (back : Gated D) (answer : Written) (wrote : WritesOut disk the_back back through block answer) where
      kept_now : WriteKeeps disk m.0.basis.terms.layouts m.0.basis.terms.block_limit back out.new.history out.new.marks through answer
      kept_now =
          let length_is : through ≡ length out.new.history = out.tells.1 ∙ sym (ap length history_same) in
          let all : take through out.new.history ≡ out.new.history = ap (λ k. take k out.new.history) length_is ∙ take-length out.new.history in
          let from : durable out.new.marks ≡ out.old.from = ap durable marks_same ∙ sym out.tells.2 in
          let layouts = m.0.basis.terms.layouts in
          wrote.keeps layouts m.0.basis.terms.block_limit out.new.history out.new.marks (durable out.new.marks)
          (subst (λ ss. KeepsAll disk m.0.basis the_back ss out.new.marks) (sym all) came.2)
          came.3
          record {
            more = omega (arith, from, out.tells.3);
            within = omega (arith, length_is);
            short = omega (arith, out.tells.7.short, ap (λ (t : FrontTerms). t.block_limit) out.terms);
            records = subst (λ ss. AreEncodingsBehind layouts ss block.bytes (drop (durable out.new.marks) (take through out.new.history))) (sym held_before)
                (subst (λ ss. AreEncodingsBehind layouts (take out.old.from out.old.history) block.bytes ss) (sym (ap (drop (durable out.new.marks)) (all ∙ history_same) ∙ ap (λ k. drop k out.old.history) from))
                (subst (λ (t : FrontTerms). AreEncodingsBehind t.layouts (take out.old.from out.old.history) block.bytes (drop out.old.from out.old.history)) out.terms out.tells.6));
          }
          (subst (λ ms. All (λ (mark : Mark). mark.through ≤ durable ms) ms) (sym marks_same) out.tells.7.fewer)

-- a write of all samples, as its answer has it
module _ {D : Type 0} (disk : DiskOf D) (basis : Basis) (old back : Gated D) (samples : List Sample) (marks : List Mark) (through : ℕ) (block : Buffered)
    (is : through ≡ length samples) (limit : block.limit ≡ basis.terms.block_limit) where
  all_taken : take through samples ≡ samples
  all_taken = ap (λ k. take k samples) is ∙ take-length samples

  pub written_as : (answer : Written) → WritesOut disk old back through block answer
      → WriteKeeps disk basis.terms.layouts basis.terms.block_limit back samples marks through answer → IsWrittenAs disk basis back samples marks answer
  written_as (Done mark spare) wrote kept = (
    subst (λ ss. KeepsAll disk basis back ss marks) all_taken kept.0,
    (subst (HoldsAll disk basis back) all_taken kept.2, subst (λ ss. KeepsAll disk basis back ss (marks ++ mark ∷ [])) all_taken kept.1),
    wrote.answers.1 ∙ is,
    wrote.answers.4 ∙ limit,
  )
  written_as (DiskFault before after spare) wrote kept = (
    subst (λ ss. KeepsAll disk basis back ss marks) all_taken kept,
    wrote.answers.0,
    record { old = old.disk; new = back.disk; before_is = wrote.answers.1; after_is = wrote.answers.2; rose = wrote.answers.3 },
    ap (λ (b : Buffered). b.limit) wrote.answers.4 ∙ limit,
  )
  written_as Nothing wrote kept = absurd wrote.answers

-- what the seat tells of it when it takes the turn again
pub tells_written : {D : Type 0} (disk : DiskOf D) (basis : Basis) (back : Gated D) (v : View) (samples : List Sample) (marks : List Mark) (answer : Written) → v.device ≡ writing → v.seen ≡ samples
    → IsWrittenAs disk basis back samples marks answer → TellsBy v (answered answer)
tells_written disk basis back v samples marks (Done mark spare) device seen by = (device, by.2 ∙ sym (ap length seen))
tells_written disk basis back v samples marks (DiskFault before after spare) device seen by = (device, by.2.rose)
tells_written disk basis back v samples marks Nothing device seen by = absurd by

module _ {D V : Type 0} (m : Here D V) (through : ℕ) (block : Buffered) (out : HasHanded m (Given through block)) (disk : DiskOf D) (word : ℕ)
    (n : Here D V) (is : n ≡ seat_of (given false m.0 (word + 1) out.new) []) (st : Step (Slot D V)) (r : ℕ) (o : Here D V) (brings : BringsOut disk st n r o)
    (p : Here D V) (same : p.0 ≡ o.0) (answer : Written) (writes : Writes o p (λ old new. WritesOut disk old new through block answer)) where
  abbrev old_back : Gated D
  old_back = the_back m through block out disk (word + 1) n is st r o brings

  now_out : o ≡ seat_of (at_device (given false m.0 (word + 1) out.new) writing) ((1, slot_back old_back) ∷ [])
  now_out = is_out m through block out disk (word + 1) n is st r o brings

  view_now : p.0 ≡ at_device (given false m.0 (word + 1) out.new) writing
  view_now = same ∙ ap (λ (x : Here D V). x.0) now_out

  abbrev done_now : (new : Gated D) × (p.1 ≡ (1, TheBack new) ∷ rest o.1) × WritesOut disk old_back new through block answer
  done_now = writes old_back (carries o.1 (1, slot_back old_back) [] (ap (λ (x : Here D V). x.1) now_out))

  by_now : IsWrittenAs disk m.0.basis done_now.0 out.new.history out.new.marks answer
  by_now = written_as disk m.0.basis old_back done_now.0 out.new.history out.new.marks through block
      (out.tells.1 ∙ sym (ap length (ap (λ (f : FrontAccount V). f.history) out.tells.8))) (out.tells.4 ∙ ap (λ (t : FrontTerms). t.block_limit) out.terms) answer done_now.2
      (kept_now m through block out disk (word + 1) n is st r o brings done_now.0 answer done_now.2)

  pub tells_now : (told : Opt Answer) → told ≡ answered answer → TellsBy p.0 told
  tells_now told said = subst (λ t. TellsBy p.0 t) (sym said)
      (tells_written disk m.0.basis done_now.0 p.0 out.new.history out.new.marks answer (ap (λ (y : View). y.device) view_now) (ap (λ (y : View). y.seen) view_now) by_now)

  pub sources_now : 0 < length m.0.mine → 0 < length p.0.mine
  sources_now some_mine = subst (λ (y : View). 0 < length y.mine) (sym view_now) (some_counted m.0.basis.owners out.new.history m.0.mine some_mine)

  pub wrote_now : (told : Opt Answer) → told ≡ answered answer → (q : Here D V) (word' : ℕ) → word' ≡ q.0.met
      → (front : FrontAccount V) × (q.1 ≡ (0, TheFront front) ∷ p.1) × Took p.0 q.0 (told_by p.0.device told) front → HasWritten disk m word out.new q word' answer
  wrote_now told said q word' met took = record {
    front = took.0;
    back = done_now.0;
    out = took.1 ∙ ap (λ b. (0, slot_front took.0) ∷ b) (done_now.1 ∙ ap (λ b. (1, slot_back done_now.0) ∷ b) (ap (λ (x : Here D V). rest x.1) now_out));
    met = met;
    took = subst (λ t. Took (at_device (given false m.0 (word + 1) out.new) writing) q.0 (told_by writing t) took.0) said
        (subst (λ (y : View). Took y q.0 (told_by y.device told) took.0) view_now took.2);
    by = by_now;
    terms = done_now.2.terms ∙ (came m through block out disk (word + 1) n is st r o brings).4;
  }

-- one front is carried
pub same_front : {D V : Type 0} (carried : List (ℕ × Slot D V)) (a b : FrontAccount V) → carried ≡ (0, TheFront a) ∷ [] → carried ≡ (0, TheFront b) ∷ [] → a ≡ b
same_front {D} {V} carried a b first second = ap (λ (c : List (ℕ × Slot D V)). front_in c b) (sym first ∙ second)
