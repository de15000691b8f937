-- What a book begins with, and what a front holds when a sample was put into it.
use Rattle.std.proofs.Common.{◌≡◌, ◌+◌, ◌*◌, ◌<◌, ◌≤◌, ℕ, false, true, zero, suc, List, [], ◌∷◌, ◌++◌, length, take, drop, get_or, Some, refl, sym, ◌∙◌, ap, subst, arith}
use Rattle.std.proofs.lemmas.List.{drop-append-le, take-append-le}
use Rattle.std.proofs.lemmas.List.Sums.{sum_by-append, sum_by-cons}
use Rattle.std.specs.Prelude.{AllPairs, is_some, IfSome}
use Rattle.std.specs.List.{All, concat}
use Rattle.std.proofs.lemmas.List.Elements.{All-push}
use mathlib.Core.List.{IsPrefix}
use Rattle.mdf_disk.specs.Crash.{HoldsSince}
use Rattle.mdf_layout.specs.Chunked.{joined}
use Rattle.mdf_layout.specs.Layout.{Layout}
use Rattle.mdf_layout.specs.Behind.{AreEncodingsBehind}
use Rattle.mdf_layout.specs.Next.{AreNext}
use Rattle.mdf_layout.specs.Record.{SampleFits, cost_of, encoded_size, history_cost, history_size}
use Rattle.mdf_layout.specs.declared.sample.Sample.{Sample}
use Rattle.mdf_layout.proofs.Behind.{pending_more, no_encodings}
use Rattle.mdf_layout.proofs.Sizes.{encodings-length}
use Rattle.mdf_gate.specs.Gated.{Buffered, Gated}
use Rattle.mdf_gate.specs.Images.{Opens, head_of}
use Rattle.mdf_gate.specs.Carried.{Carries}
use Rattle.mdf_gate.proofs.Carrying.{carries_opened, carries_begun}
use Rattle.book_owned.specs.Members.{DiskOf, ViewOf}
use Rattle.book_owned.specs.Marks.{durable}
use Rattle.book_owned.specs.Kept.{MarkHolds, MarksHold, IsShowing}
use Rattle.book_owned.specs.Begun.{IsNewFile, IsAdmissible}
use Rattle.book_owned.specs.Holds.{IsCounted, IsPending, IsPut}
use Rattle.book_owned.specs.BackHalf.{Later}
use Rattle.book_owned.specs.FrontHalf.{AreThroughs, FrontAccount, HasSpare, IsFront}
use Rattle.book_owned.specs.Split.{AreHalves}
use Rattle.book_owned.specs.declared.in_memory.InMemory.{InMemory}
use Rattle.book_owned.specs.declared.mark.Mark.{Mark}
use Rattle.book_owned.proofs.Costs.{history_cost-append}
use Rattle.book_owned.proofs.Sharing.{shares_nothing}
use Rattle.book_owned.proofs.Turning.{holds_told, told_on}

-- no samples begin any
nothing_begins : (samples : List Sample) → IsPrefix [] samples
nothing_begins samples = (samples, refl)

-- what one sample more costs
cost_one_more : (layouts : List Layout) (history : List Sample) (sample : Sample)
    → history_cost layouts (history ++ sample ∷ []) ≡ history_cost layouts history + cost_of layouts sample
cost_one_more layouts history sample =
    let one : history_cost layouts (sample ∷ []) ≡ cost_of layouts sample + 0 = sum_by-cons (cost_of layouts) sample [] in
    omega (arith, history_cost-append layouts history (sample ∷ []), one)

-- the pending records with that of one sample more
pub size_one_more : (layouts : List Layout) (history : List Sample) (through : ℕ) (sample : Sample) → through ≤ length history
    → history_size layouts (drop through (history ++ sample ∷ [])) ≡ history_size layouts (drop through history) + encoded_size layouts sample
size_one_more layouts history through sample within =
    let one : history_size layouts (sample ∷ []) ≡ encoded_size layouts sample + 0 = sum_by-cons (encoded_size layouts) sample [] in
    omega (
      arith,
      ap (history_size layouts) (drop-append-le through history (sample ∷ []) within),
      sum_by-append (encoded_size layouts) (drop through history) (sample ∷ []),
      one,
    )

-- What is held in memory, when a sample was put into it.
module _ {V : Type 0} (old new : InMemory V) (sample : Sample) (put : IsPut old new sample) where
  pub counted_put : IsCounted old → old.held + cost_of old.shapes sample ≤ old.session_limit → IsCounted new
  counted_put counted session = subst IsCounted (sym put.rest) (record {
    fit = subst (All (SampleFits old.shapes)) (sym put.history) (All-push (SampleFits old.shapes) old.history.items sample counted.fit put.fits);
    held = put.held ∙ ap (λ n. n + cost_of old.shapes sample) counted.held ∙ sym (cost_one_more old.shapes old.history.items sample)
        ∙ ap (history_cost old.shapes) (sym put.history);
    within = omega (arith, put.held, session);
    session = counted.session;
    some = omega (arith, counted.some, put.limit);
    block = omega (arith, counted.block, put.limit);
    groups = counted.groups;
    fields = counted.fields;
    disjoint = counted.disjoint;
    stored = counted.stored;
    variable = counted.variable;
    next = put.next;
  })

  pub pending_put : IsPending old → old.from ≤ length old.history.items → 1 ≤ old.marks.spare → IsPending new
  pending_put pending within spare =
      let from = old.from in
      let behind : drop from new.history.items ≡ drop from old.history.items ++ sample ∷ [] =
      ap (drop from) put.history ∙ drop-append-le from old.history.items (sample ∷ []) within in
      let same : take from new.history.items ≡ take from old.history.items =
      ap (take from) put.history ∙ take-append-le from old.history.items (sample ∷ []) within in
      subst IsPending (sym put.rest) (record {
        records = λ going. subst (λ bytes. AreEncodingsBehind old.shapes (take from new.history.items) bytes (drop from new.history.items)) (sym put.block)
            (subst (λ before. AreEncodingsBehind old.shapes before (old.block.bytes ++ put.record_bytes) (drop from new.history.items)) (sym same)
            (subst (AreEncodingsBehind old.shapes (take from old.history.items) (old.block.bytes ++ put.record_bytes)) (sym behind)
            (pending_more old.shapes old.history.items from old.block.bytes put.record_bytes sample (pending.records going) put.record_is)));
        room = λ some. spare;
      })

-- a view goes on to show what it showed where samples came behind those that are durable
pub showing_longer : {V N : Type 0} (view : ViewOf V N) (now : V) (history longer : List Sample) (sample : Sample) (marks : List Mark)
    → longer ≡ history ++ sample ∷ [] → durable marks ≤ length history → IsShowing view now history marks → IsShowing view now longer marks
showing_longer view now history longer sample marks grown within is =
    let same : (n : ℕ) → n ≤ length history → take n longer ≡ take n history =
    λ n less. ap (take n) grown ∙ take-append-le n history (sample ∷ []) less in
    record {
      most = is.most;
      shown = subst (view.shows now) (sym (same (view.count now) (omega (arith, is.most, within)))) is.shown;
      handed = λ handed before. subst (IsPrefix handed) (sym (same (durable marks) within)) (is.handed handed before);
    }

-- no samples at all
take_nil : (n : ℕ) → take {A = Sample} n [] ≡ []
take_nil zero = refl
take_nil (suc n) = refl

drop_nil : (n : ℕ) → drop {A = Sample} n [] ≡ []
drop_nil zero = refl
drop_nil (suc n) = refl

-- what a front begins with
pub front_begun : {V N : Type 0} (view : ViewOf V N) (front : InMemory V) (block : Buffered) (moment : ℕ) → IsAdmissible front.shapes front.block.limit front.session_limit
    → front.history.items ≡ [] → front.history.chunks ≡ [] → front.marks.items ≡ record { moment = moment; through = 0 } ∷ [] → front.held ≡ 0
    → front.block.bytes ≡ [] → front.spare ≡ Some block → block.bytes ≡ [] → block.limit ≡ front.block.limit → front.from ≡ 0
    → view.shows front.view [] → view.count front.view ≡ 0 → ((handed : List Sample) → view.hands front.view handed → handed ≡ [])
    → AreNext front.shapes [] front.next → IsFront view front
front_begun view front block moment admissible history_is chunks_are marks_are held_is bytes_are spare_is emptied limit from_is shown counted handed next =
    let durable_is : durable front.marks.items ≡ 0 = ap durable marks_are in
    let none : history_cost front.shapes front.history.items ≡ 0 = ap (history_cost front.shapes) history_is in
    let taken : (n : ℕ) → take n front.history.items ≡ [] = λ n. ap (take n) history_is ∙ take_nil n in
    let dropped : (n : ℕ) → drop n front.history.items ≡ [] = λ n. ap (drop n) history_is ∙ drop_nil n in
    let no_size : (n : ℕ) (most : ℕ) → history_size front.shapes (drop n front.history.items) ≤ most =
    λ n most. subst (λ samples. history_size front.shapes samples ≤ most) (sym (dropped n)) (omega arith) in
    record {
      counted = record {
        fit = subst (All (SampleFits front.shapes)) (sym history_is) (λ k d below. absurd (omega (arith, below)));
        held = held_is ∙ sym none;
        within = omega (arith, held_is);
        session = admissible.session;
        some = admissible.some;
        block = admissible.block;
        groups = admissible.groups;
        fields = admissible.fields;
        variable = admissible.variable;
        next = subst (λ h. AreNext front.shapes h front.next) (sym history_is) next;
        disjoint = admissible.disjoint;
        stored = admissible.stored;
      };
      pending = record {
        records = λ going. rw (bytes_are, dropped front.from) (no_encodings front.shapes (take front.from front.history.items));
        room = λ some. absurd (some bytes_are);
      };
      steady = record {
        throughs = subst AreThroughs (sym marks_are) (record { first = refl; rise = λ i j d less below. absurd (omega (arith, less, below)) });
        shown = record {
          most = omega (arith, counted);
          shown = subst (view.shows front.view) (sym (taken (view.count front.view))) shown;
          handed = λ h is. subst (λ xs. IsPrefix xs (take (durable front.marks.items) front.history.items)) (sym (handed h is)) (nothing_begins (take (durable front.marks.items) front.history.items));
        };
        low = omega (arith, durable_is);
        within = omega (arith, from_is);
        settled = λ there going. from_is ∙ sym durable_is;
        few = λ going. no_size front.from front.block.limit;
        few_all = no_size (durable front.marks.items) (2 * front.block.limit);
      };
      shared = shares_nothing view front.view front.history.chunks chunks_are shown counted handed;
      sealed = omega (arith, ap (λ (xs : List (List Sample)). length (joined xs)) chunks_are);
      has_spare = subst (HasSpare front) (sym spare_is) (emptied, limit);
      few_handed = λ going. subst (λ samples. history_size front.shapes samples ≤ front.block.limit)
          (sym (ap (drop (durable front.marks.items)) (taken front.from) ∙ drop_nil (durable front.marks.items))) (omega arith);
    }

-- its file was just created
module _ {D V : Type 0} (disk : DiskOf D) (front : FrontAccount V) (file : Gated D) where
  pub halves_begun : IsNewFile disk file → front.history ≡ [] → front.marks ≡ record { moment = disk.moment file.disk; through = 0 } ∷ []
      → front.spare ≡ true → front.stopped ≡ false
      → HoldsSince (disk.story file.disk) (disk.moment file.disk) (Opens (head_of (disk.story file.disk) file.first) [] file.place)
      → IfSome (disk.story file.disk) (λ _. file.place ≤ length (head_of (disk.story file.disk) file.first))
      → AreHalves disk front file
  halves_begun created history_is marks_are there going leaves bare =
      let layouts = front.terms.layouts in
      let head = head_of (disk.story file.disk) file.first in
      let first : Mark = record { moment = disk.moment file.disk; through = 0 } in
      let taken : (n : ℕ) → take n front.history ≡ [] = λ n. ap (take n) history_is ∙ take_nil n in
      let mark_holds : MarkHolds layouts head (disk.story file.disk) (disk.moment file.disk) front.history first = record {
        past = omega arith;
        within = omega arith;
        carries = holds_told (disk.story file.disk) (disk.moment file.disk) (Carries layouts head front.history 0) _ bare
            (λ close f left. carries_opened layouts head front.history [] [] file.place f (leaves f left) (no_encodings layouts []) (front.history, refl)
            (omega (arith, close)));
      } in
      record {
        spare = there;
        stop = going ∙ sym created.going;
        keeps = record {
          marks_hold = subst (MarksHold layouts head (disk.story file.disk) (disk.moment file.disk) front.history) (sym marks_are) (λ k d below. all_one first mark_holds k d below);
          start_holds = λ f left. carries_begun layouts head front.history f (created.begun f left);
          moments = subst (AllPairs (Later (is_some (disk.story file.disk)))) (sym marks_are) (λ i j d less below. absurd (omega (arith, less, below)));
        };
        holds = λ still. record {
          going = created.going;
          written = record {
            blocks = [];
            rests = created.rests;
            within = λ k d below. absurd (omega (arith, below));
            records = subst (AreEncodingsBehind layouts [] (concat [])) (sym (taken (durable front.marks))) (no_encodings layouts []);
          };
          reach = omega (arith, created.short);
          near = told_on (disk.story file.disk) (disk.story file.disk) _ _ refl (λ close. omega (arith, close)) bare;
        };
      } where
        all_one : (first : Mark) → MarkHolds front.terms.layouts (head_of (disk.story file.disk) file.first) (disk.story file.disk) (disk.moment file.disk) front.history first
            → (k : ℕ) (d : Mark) → k < 1 → MarkHolds front.terms.layouts (head_of (disk.story file.disk) file.first) (disk.story file.disk) (disk.moment file.disk) front.history (get_or (first ∷ []) k d)
        all_one first holds zero d below = holds
        all_one first holds (suc k) d below = absurd (omega (arith, below))

-- there is room for the sample's records in the block
pub room_for : {V : Type 0} (front reserved : InMemory V) (sample : Sample)
    → reserved ≡ record front { history = reserved.history; marks = reserved.marks } → IsPending front → front.stopped ≡ false
    → history_size front.shapes (drop front.from front.history.items) + encoded_size front.shapes sample ≤ front.block.limit
    → length reserved.block.bytes + encoded_size reserved.shapes sample ≤ reserved.block.limit
room_for front reserved sample rest pending going fits = omega (
  arith,
  fits,
  ap (λ f. length f.block.bytes) rest,
  encodings-length front.shapes (take front.from front.history.items) front.block.bytes (drop front.from front.history.items) (pending.records going),
  ap (λ f. encoded_size f.shapes sample) rest,
  ap (λ f. f.block.limit) rest,
)
