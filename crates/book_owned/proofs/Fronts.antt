-- What a front holds, over a put, a hand-over and what became of it.
use Rattle.std.proofs.Common.{◌≡◌, ◌≢◌, ◌+◌, ◌-◌, ◌*◌, ◌<◌, ◌≤◌, ℕ, false, List, [], ◌∷◌, ◌++◌, length, take, drop, Option, Some, None, refl, sym, ◌∙◌, ap, subst, arith, rules, length-append, length-take}
use Rattle.std.proofs.lemmas.Bool.{false≢true}
use Rattle.std.proofs.lemmas.List.{take_all, drop_all, take-append-le, drop-take, drop-drop}
use Rattle.std.proofs.lemmas.List.Sums.{sum_by-take-drop}
use Rattle.std.specs.Prelude.{is_some}
use Rattle.mdf_layout.specs.Behind.{AreEncodingsBehind}
use Rattle.mdf_layout.specs.Chunked.{joined}
use Rattle.mdf_layout.specs.Layout.{Layout}
use Rattle.mdf_layout.specs.Record.{cost_of, encoded_size, history_size}
use Rattle.mdf_layout.specs.Stock.{Stock}
use Rattle.mdf_layout.specs.declared.sample.Sample.{Sample}
use Rattle.mdf_layout.proofs.Behind.{no_encodings}
use Rattle.mdf_layout.proofs.Sizes.{encodings-length}
use Rattle.mdf_gate.specs.Gated.{Buffered}
use Rattle.book_owned.specs.Members.{ViewOf}
use Rattle.book_owned.specs.Marks.{durable}
use Rattle.book_owned.specs.Kept.{IsShowing}
use Rattle.book_owned.specs.Shared.{IsShared}
use Rattle.book_owned.specs.Holds.{IsPut}
use Rattle.book_owned.specs.FrontHalf.{AreThroughs, HandTells, HasSpare, IsFront, front_account}
use Rattle.book_owned.specs.declared.handed.Handed.TheVariants as handed
use Rattle.book_owned.specs.declared.in_memory.InMemory.{InMemory}
use Rattle.book_owned.specs.declared.mark.Mark.{Mark}
use Rattle.book_owned.proofs.Keeping.{throughs_most, throughs-push}
use Rattle.book_owned.proofs.Lasts.{last_mark-append}
use Rattle.book_owned.proofs.Putting.{counted_put, pending_put, showing_longer, size_one_more}
use Rattle.book_owned.proofs.Turning.{block_small, cost_parts, counted_as, some_pending}

-- nothing lies between a number of samples and itself
pub none_between : {A : Type 0} (n : ℕ) (xs : List A) → drop n (take n xs) ≡ []
none_between n xs = drop_all n (take n xs) (omega (arith, length-take n xs))

-- the samples behind one number are those up to another and those behind that
size_parts : (layouts : List Layout) (history : List Sample) (low from : ℕ) → low ≤ from
    → history_size layouts (drop low history) ≡ history_size layouts (drop low (take from history)) + history_size layouts (drop from history)
size_parts layouts history low from less =
    let place : low + (from - low) ≡ from = omega (arith, less) in
    let front : drop low (take from history) ≡ take (from - low) (drop low history) =
    ap (λ n. drop low (take n history)) (sym place) ∙ drop-take low (from - low) history in
    let back : drop (from - low) (drop low history) ≡ drop from history = drop-drop (from - low) low history ∙ ap (λ n. drop n history) place in
    omega (
      arith,
      sum_by-take-drop (encoded_size layouts) (drop low history) (from - low),
      ap (history_size layouts) front,
      ap (history_size layouts) back,
    )

module _ {V : Type 0} (memory : InMemory V) where
  -- without its spare block a mark is missing, and there is room for it
  pub spare_lent : (spare : Option Buffered) → is_some spare ≡ false → HasSpare memory spare → HasSpare memory None
  spare_lent None none has = has
  spare_lent (Some block) is has = absurd (false≢true (sym is))

  spare_kept : (reserved : InMemory V) → reserved ≡ record memory { history = reserved.history; marks = reserved.marks }
      → reserved.marks.items ≡ memory.marks.items → memory.marks.spare ≤ reserved.marks.spare
      → (spare : Option Buffered) → HasSpare memory spare → HasSpare reserved spare
  spare_kept reserved rest same more None has = search (rules, rest, same, more, has)
  spare_kept reserved rest same more (Some block) has = search (rules, rest, same, has)

module _ {V N : Type 0} (view : ViewOf V N) (memory : InMemory V) (front : IsFront view memory) where
  abbrev history : List Sample
  history = memory.history.items

  abbrev marks : List Mark
  marks = memory.marks.items

  abbrev from : ℕ
  from = memory.from

  -- room was found
  pub front_reserved : (reserved : InMemory V) → reserved ≡ record memory { history = reserved.history; marks = reserved.marks }
      → reserved.history.items ≡ history → reserved.history.chunks ≡ memory.history.chunks → reserved.marks.items ≡ marks
      → memory.marks.spare ≤ reserved.marks.spare → IsFront view reserved
  front_reserved reserved rest same_history same_chunks same_marks more =
      let has = spare_kept memory reserved rest same_marks more memory.spare front.has_spare in
      search (rules, rest, same_history, same_chunks, same_marks, front, has)

  -- a sample was put
  pub front_put : (new : InMemory V) (sample : Sample) → IsPut memory new sample → memory.stopped ≡ false → 1 ≤ memory.marks.spare
      → (is_some memory.spare ≡ false → 2 ≤ memory.marks.spare) → memory.held + cost_of memory.shapes sample ≤ memory.session_limit
      → history_size memory.shapes (drop from history) + encoded_size memory.shapes sample ≤ memory.block.limit
      → IsFront view new
  front_put new sample put going one two session fits =
      let at : InMemory V = record memory { history = new.history; held = new.held; block = new.block; next = new.next } in
      let put_at : IsPut memory at sample = subst (λ f. IsPut memory f sample) put.rest put in
      let within = front.steady.within in
      let handed : take from new.history.items ≡ take from history =
      ap (take from) put.history ∙ take-append-le from history (sample ∷ []) within in
      let more : history_size memory.shapes (drop from new.history.items) ≤ new.block.limit = omega (
        arith,
        fits,
        put.limit,
        ap (λ h. history_size memory.shapes (drop from h)) put.history,
        size_one_more memory.shapes history from sample within,
      ) in
      let once : history_size memory.shapes (drop (durable marks) (take from new.history.items)) ≤ new.block.limit =
      omega (arith, front.few_handed going, put.limit, ap (λ h. history_size memory.shapes (drop (durable marks) h)) handed) in
      subst (IsFront view) (sym put.rest) (record {
        counted = counted_put memory at sample put_at front.counted session;
        pending = pending_put memory at sample put_at front.pending within one;
        steady = record {
          throughs = front.steady.throughs;
          shown = showing_longer view memory.view history new.history.items sample marks put.history (omega (arith, front.steady.low, within)) front.steady.shown;
          low = front.steady.low;
          within = omega (arith, within, ap length put.history, length-append history (sample ∷ []));
          settled = front.steady.settled;
          few = λ _. more;
          few_all = omega (arith, more, once, size_parts memory.shapes new.history.items (durable marks) from front.steady.low, put.limit);
        };
        shared = subst (IsShared view memory.view) (sym put.chunks) front.shared;
        sealed = omega (arith, front.sealed, ap (λ (xs : List (List Sample)). length (joined xs)) put.chunks);
        has_spare = still memory.spare front.has_spare two;
        few_handed = λ _. once;
      }) where
        still : (spare : Option Buffered) → HasSpare memory spare → (is_some spare ≡ false → 2 ≤ memory.marks.spare)
            → HasSpare (record memory { history = new.history; held = new.held; block = new.block; next = new.next }) spare
        still None has room = (has.0, has.1, has.2, λ some. room refl)
        still (Some block) has room = (has.0, has.1 ∙ sym put.limit)

  -- The pending records are given out.
  module _ (block dest : Buffered) (through : ℕ) (has : memory.spare ≡ Some block) (dest_is : dest ≡ block) (going : memory.stopped ≡ false) (some : memory.block.bytes ≢ [])
      (all : through ≡ length history) where
    abbrev lent : InMemory V
    lent = record memory { block = dest; spare = None; from = through }

    given : (dest.bytes ≡ []) × (dest.limit ≡ memory.block.limit)
    given = subst (λ b. (b.bytes ≡ []) × (b.limit ≡ memory.block.limit)) (sym dest_is) (subst (HasSpare memory) has front.has_spare)

    settled : from ≡ durable marks
    settled = front.steady.settled (ap is_some has) going

    more : from < length history
    more = some_pending memory.shapes history from memory.block.bytes (front.pending.records going) some

    whole : take through history ≡ history
    whole = take_all through history (omega (arith, all))

    none : drop through history ≡ []
    none = drop_all through history (omega (arith, all))

    pub front_handed : IsFront view lent
    front_handed = record {
      counted = counted_as memory lent refl refl given.1 front.counted;
      pending = record {
        records = λ g. rw (given.0, none) (no_encodings memory.shapes (take through history));
        room = λ bytes. absurd (bytes given.0);
      };
      steady = record {
        throughs = front.steady.throughs;
        shown = front.steady.shown;
        low = omega (arith, front.steady.low, more, all);
        within = omega (arith, all);
        settled = λ there. absurd (false≢true there);
        few = λ _. subst (λ samples. history_size memory.shapes samples ≤ dest.limit) (sym none) (omega arith);
        few_all = omega (arith, front.steady.few_all, given.1);
      };
      shared = front.shared;
      sealed = front.sealed;
      has_spare = (going, omega (arith, settled, more, all), front.pending.room some, λ bytes. absurd (bytes given.0));
      few_handed = λ _. omega (
        arith,
        front.steady.few going,
        given.1,
        ap (λ h. history_size memory.shapes (drop (durable marks) h)) whole,
        ap (λ n. history_size memory.shapes (drop n history)) settled,
      );
    }

    pub handed_tells : HandTells (front_account view memory) (front_account view lent) (handed.Given through memory.block)
    handed_tells =
        let records = front.pending.records going in
        let counted = front.counted in (
          going,
          all,
          settled,
          omega (arith, more, all),
          refl,
          long memory.block.bytes some,
          records,
          record {
            fewer = throughs_most marks front.steady.throughs;
            short = omega (arith, front.steady.few going, encodings-length memory.shapes (take from history) memory.block.bytes (drop from history) records);
            size = omega (
              arith,
              block_small memory.shapes (take from history) (drop from history) memory.block.bytes records some,
              cost_parts memory.shapes history from,
              counted.held,
              counted.within,
              counted.session,
            );
          },
          ap (λ (n : ℕ). record (front_account view lent) {
            terms = record { layouts = memory.shapes; block_limit = n; session_limit = memory.session_limit; which = view.which memory.view };
          }) given.1,
        ) where
          long : (bytes : List ℕ) → bytes ≢ [] → 1 ≤ length bytes
          long [] is = absurd (is refl)
          long (b ∷ bytes) is = omega arith

  -- The block came back, and its records are written.
  pub front_marked : (new : InMemory V) (more : Stock Mark) (mark : Mark) (block : Buffered) → new ≡ record memory { history = new.history; marks = more; view = new.view }
      → new.history.items ≡ history → is_some memory.spare ≡ false → mark.through ≡ from → more.items ≡ marks ++ mark ∷ [] → more.spare ≡ memory.marks.spare - 1
      → IsShowing view new.view new.history.items new.marks.items → IsShared view new.view new.history.chunks
      → length (joined new.history.chunks) ≤ durable new.marks.items → block.bytes ≡ [] → block.limit ≡ memory.block.limit
      → IsFront view (record new { spare = Some block })
  front_marked new more mark block rest same away through_is marks_are room shown shared sealed emptied limit =
      let has = spare_lent memory memory.spare away front.has_spare in
      let is : durable more.items ≡ from = ap durable marks_are ∙ ap (λ m. m.through) (last_mark-append marks mark) ∙ through_is in
      let after : InMemory V = record memory { history = new.history; marks = more; view = new.view; spare = Some block } in
      let back : (P : List Sample → Type 0) → P history → P new.history.items = λ P. subst P (sym same) in
      subst (λ f. IsFront view (record f { spare = Some block })) (sym rest) (record {
        counted = counted_as memory after refl same refl front.counted;
        pending = record {
          records = λ going. back (λ h. AreEncodingsBehind memory.shapes (take from h) memory.block.bytes (drop from h)) (front.pending.records going);
          room = λ some. let two = has.3 some in omega (arith, room, two);
        };
        steady = record {
          throughs = subst AreThroughs (sym marks_are) (throughs-push marks mark front.steady.throughs (omega (arith, has.1, through_is)));
          shown = subst (λ f. IsShowing view new.view new.history.items f.marks.items) rest shown;
          low = omega (arith, is);
          within = back (λ h. from ≤ length h) front.steady.within;
          settled = λ there going. sym is;
          few = λ going. back (λ h. history_size memory.shapes (drop from h) ≤ memory.block.limit) (front.steady.few going);
          few_all = back (λ h. history_size memory.shapes (drop (durable more.items) h) ≤ 2 * memory.block.limit)
              (omega (arith, front.steady.few has.0, ap (λ n. history_size memory.shapes (drop n history)) is));
        };
        shared = shared;
        sealed = subst (λ f. length (joined new.history.chunks) ≤ durable f.marks.items) rest sealed;
        has_spare = (emptied, limit);
        few_handed = λ _. back (λ h. history_size memory.shapes (drop (durable more.items) (take from h)) ≤ memory.block.limit)
            (subst (λ n. history_size memory.shapes (drop n (take from history)) ≤ memory.block.limit) (sym is)
            (subst (λ samples. history_size memory.shapes samples ≤ memory.block.limit) (sym (none_between from history)) (omega arith)));
      })
