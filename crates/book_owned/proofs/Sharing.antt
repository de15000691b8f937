-- The chunks that a view shows, over a chunk more, and over more chunks.
use Rattle.std.proofs.Common.{◌≡◌, ◌+◌, ◌<◌, ◌≤◌, ℕ, List, [], ◌++◌, length, get_or, take, drop, refl, sym, ◌∙◌, ap, subst, inl, inr, arith, append-nil, length-append, take-append-drop}
use Rattle.std.specs.List.{All}
use Rattle.std.proofs.lemmas.Bool.{cases_lt}
use Rattle.std.proofs.lemmas.List.{take_at, take_more, take-take, take-append-le}
use Rattle.std.proofs.lemmas.Option.{get_or_from_slice_get, slice_get_within}
use Rattle.std.proofs.Math.Seq.{take_all}
use mathlib.Core.List.{IsPrefix}
use Rattle.mdf_layout.specs.Chunked.{joined, start_of, BeginsAt}
use Rattle.mdf_layout.specs.declared.sample.Sample.{Sample}
use Rattle.mdf_layout.proofs.Joined.{joined-append, joined_more, start_more, start_past, starts_rise}
use Rattle.mdf_gate.proofs.Carrying.{prefix_self, prefix_take, prefix_trans}
use Rattle.book_owned.specs.Members.{ViewOf}
use Rattle.book_owned.specs.Marks.{durable}
use Rattle.book_owned.specs.Kept.{IsShowing}
use Rattle.book_owned.specs.Shared.{IsShared}
use Rattle.book_owned.specs.declared.in_memory.InMemory.{InMemory}
use Rattle.book_owned.specs.declared.mark.Mark.{Mark}

-- the first chunks begin all
pub first_begin : (chunks : List (List Sample)) (n : ℕ) → IsPrefix (joined (take n chunks)) (joined chunks)
first_begin chunks n = (joined (drop n chunks), sym (joined-append (take n chunks) (drop n chunks)) ∙ ap joined (take-append-drop n chunks))

-- and more of them
fewer_begin : (chunks : List (List Sample)) (n m : ℕ) → n ≤ m → IsPrefix (joined (take n chunks)) (joined (take m chunks))
fewer_begin chunks n m less =
    subst (λ (xs : List (List Sample)). IsPrefix (joined xs) (joined (take m chunks))) (take-take n m chunks less) (first_begin (take m chunks) n)

-- where no chunk is empty no two of them begin at one place
same_place : (chunks : List (List Sample)) (j k : ℕ) → All (λ chunk. 1 ≤ length chunk) chunks → k ≤ length chunks → start_of chunks j ≡ start_of chunks k → k ≤ j
same_place chunks j k some within same = elim (cases_lt j k) [
  | inl less ↦
      let one = some j [] (omega (arith, less, within)) in
      absurd (omega (arith, same, one, start_more chunks j [] (omega (arith, less, within)), starts_rise chunks (j + 1) k (omega (arith, less))))
  | inr past ↦ past
]

module _ {V N : Type 0} (view : ViewOf V N) (now : V) (chunks : List (List Sample)) (is : IsShared view now chunks) where
  -- it shows some of the samples of the chunks
  pub shared_within : view.count now ≤ length (joined chunks)
  shared_within = omega (arith, is.count_is, starts_rise chunks is.place (length chunks) is.there, start_past chunks (length chunks) (omega arith))

  -- the chunk behind those that are shown
  module _ (chunk : List Sample) (some : All (λ chunk. 1 ≤ length chunk) chunks) (begins : BeginsAt chunks (view.count now) chunk) where
    abbrev pub shown : List Sample
    shown = joined (take is.place chunks)

    place_is : is.place ≡ begins.0
    place_is =
        let within = slice_get_within chunks begins.0 chunk begins.2 in
        let same : start_of chunks is.place ≡ start_of chunks begins.0 = sym is.count_is ∙ begins.1 in
        omega (arith, same_place chunks is.place begins.0 some (omega (arith, within)) same, same_place chunks begins.0 is.place some is.there (sym same))

    below : is.place < length chunks
    below = omega (arith, place_is, slice_get_within chunks begins.0 chunk begins.2)

    chunk_is : get_or chunks is.place chunk ≡ chunk
    chunk_is = ap (λ k. get_or chunks k chunk) place_is ∙ get_or_from_slice_get chunks begins.0 chunk chunk begins.2

    pub with_chunk : shown ++ chunk ≡ joined (take (is.place + 1) chunks)
    with_chunk = ap (λ xs. shown ++ xs) (sym chunk_is) ∙ sym (joined_more (take is.place chunks) (get_or chunks is.place chunk))
        ∙ sym (ap joined (take_more chunks is.place chunk below))

    longer : view.count now + length chunk ≡ start_of chunks (is.place + 1)
    longer = omega (arith, is.count_is, ap length with_chunk, length-append shown chunk)

    pub chunk_within : view.count now + length chunk ≤ length (joined chunks)
    chunk_within = omega (arith, longer, starts_rise chunks (is.place + 1) (length chunks) (omega (arith, below)), start_past chunks (length chunks) (omega arith))

    pub chunk_some : 1 ≤ length chunk
    chunk_some = subst (λ (xs : List Sample). 1 ≤ length xs) chunk_is (some is.place chunk below)

    pub begun : (handed : List Sample) → view.hands now handed → IsPrefix handed (shown ++ chunk)
    begun handed before = subst (IsPrefix handed) (sym with_chunk) (is.handed handed before)

    module _ (new : V) (handed : (shown : List Sample) → view.shows now shown → ((handed : List Sample) → view.hands now handed → IsPrefix handed (shown ++ chunk))
        → (handed : List Sample) → view.hands new handed → IsPrefix handed (shown ++ chunk)) where
      handed_then : (h : List Sample) → view.hands new h → IsPrefix h (joined (take (is.place + 1) chunks))
      handed_then h before = subst (IsPrefix h) with_chunk (handed shown is.shown begun h before)

      -- it was shown
      pub shared_more : ((shown : List Sample) → view.shows now shown → view.shows new (shown ++ chunk)) → view.count new ≡ view.count now + length chunk → IsShared view new chunks
      shared_more shows counted = record {
        place = is.place + 1;
        there = omega (arith, below);
        count_is = counted ∙ longer;
        shown = subst (view.shows new) with_chunk (shows shown is.shown);
        handed = λ h before. prefix_trans h (joined (take (is.place + 1) chunks)) (joined (take (is.place + 1 + 1) chunks)) (handed_then h before)
            (fewer_begin chunks (is.place + 1) (is.place + 1 + 1) (omega arith));
      }

      -- it found no memory
      pub shared_still : ((shown : List Sample) → view.shows now shown → view.shows new shown) → view.count new ≡ view.count now → IsShared view new chunks
      shared_still shows counted = record {
        place = is.place;
        there = is.there;
        count_is = counted ∙ is.count_is;
        shown = shows shown is.shown;
        handed = handed_then;
      }

  -- the samples that are shown are the first of all
  shown_part : (history : List Sample) → IsPrefix (joined chunks) history → IsPrefix (joined (take is.place chunks)) history
  shown_part history = prefix_trans (joined (take is.place chunks)) (joined chunks) history (first_begin chunks is.place)

  pub shown_first : (history : List Sample) → IsPrefix (joined chunks) history → view.shows now (take (view.count now) history)
  shown_first history begins =
      let part = shown_part history begins in
      subst (view.shows now) (sym (ap (take (view.count now)) (sym part.1) ∙ take_at (joined (take is.place chunks)) part.0 (view.count now) (sym is.count_is))) is.shown

  -- and what was handed on begins those that are durable
  pub showing : (history : List Sample) (marks : List Mark) → IsPrefix (joined chunks) history → length (joined chunks) ≤ durable marks
      → IsShowing view now history marks
  showing history marks begins less =
      let all : take (length (joined chunks)) history ≡ joined chunks = ap (take (length (joined chunks))) (sym begins.1) ∙ take_at (joined chunks) begins.0 (length (joined chunks)) refl in
      let some : IsPrefix (joined chunks) (take (durable marks) history) =
      subst (λ xs. IsPrefix xs (take (durable marks) history)) (take-take (length (joined chunks)) (durable marks) history less ∙ all)
      (prefix_take (length (joined chunks)) (take (durable marks) history)) in
      record {
        most = omega (arith, shared_within, less);
        shown = shown_first history begins;
        handed = λ h before. prefix_trans h (joined chunks) (take (durable marks) history)
            (prefix_trans h (joined (take (is.place + 1) chunks)) (joined chunks) (is.handed h before) (first_begin chunks (is.place + 1))) some;
      }

  -- more chunks were sealed
  pub shared_longer : (after : List (List Sample)) → IsPrefix chunks after → IsShared view now after
  shared_longer after more =
      let same : (n : ℕ) → n ≤ length chunks → take n after ≡ take n chunks = λ n less. ap (take n) (sym more.1) ∙ take-append-le n chunks more.0 less in
      let here = same is.place is.there in
      record {
        place = is.place;
        there = omega (arith, is.there, ap length more.1, length-append chunks more.0);
        count_is = is.count_is ∙ ap (λ (xs : List (List Sample)). length (joined xs)) (sym here);
        shown = subst (λ (xs : List (List Sample)). view.shows now (joined xs)) (sym here) is.shown;
        handed = λ h before. prefix_trans h (joined (take (is.place + 1) chunks)) (joined (take (is.place + 1) after)) (is.handed h before) next;
      } where
        next : IsPrefix (joined (take (is.place + 1) chunks)) (joined (take (is.place + 1) after))
        next = elim (cases_lt is.place (length chunks)) [
          | inl less ↦
              subst (λ (xs : List (List Sample)). IsPrefix (joined (take (is.place + 1) chunks)) (joined xs))
              (sym (ap (take (is.place + 1)) (sym more.1) ∙ take-append-le (is.place + 1) chunks more.0 (omega (arith, less)))) (prefix_self (joined (take (is.place + 1) chunks)))
          | inr all ↦
              let whole : take is.place after ≡ chunks =
              ap (take is.place) (sym more.1) ∙ take_at chunks more.0 is.place (omega (arith, all, is.there)) in
              subst (λ (xs : List (List Sample)). IsPrefix (joined xs) (joined (take (is.place + 1) after)))
              (whole ∙ sym (take_all (is.place + 1) chunks (omega (arith, all))))
              (fewer_begin after is.place (is.place + 1) (omega arith))
        ]

  -- a note was made
  pub shared_told : (new : V) → ((shown : List Sample) → view.shows now shown → view.shows new shown) → ((handed : List Sample) → view.hands new handed → view.hands now handed)
      → view.count new ≡ view.count now → IsShared view new chunks
  shared_told new shows hands counted = record {
    place = is.place;
    there = is.there;
    count_is = counted ∙ is.count_is;
    shown = shows (joined (take is.place chunks)) is.shown;
    handed = λ h before. is.handed h (hands h before);
  }

-- the samples of a front were shown up to the durable ones
module _ {V N : Type 0} (view : ViewOf V N) (front after : InMemory V) (through : ℕ) (rest : after ≡ record front { history = after.history; view = after.view })
    (is : through ≡ durable front.marks.items) (few : length (joined after.history.chunks) ≤ through) where
  pub sealed_then : length (joined after.history.chunks) ≤ durable after.marks.items
  sealed_then = omega (arith, few, is, ap (λ f. durable f.marks.items) rest)

  pub shown_then : IsShared view after.view after.history.chunks → IsPrefix (joined after.history.chunks) after.history.items
      → IsShowing view after.view after.history.items after.marks.items
  shown_then shared begins =
      showing view after.view after.history.chunks shared after.history.items after.marks.items begins sealed_then

-- a view that shows nothing yet
pub shares_nothing : {V N : Type 0} (view : ViewOf V N) (now : V) (chunks : List (List Sample)) → chunks ≡ [] → view.shows now [] → view.count now ≡ 0
    → ((handed : List Sample) → view.hands now handed → handed ≡ []) → IsShared view now chunks
shares_nothing view now chunks none shows counted hands = subst (IsShared view now) (sym none) (record {
  place = 0;
  there = omega arith;
  count_is = counted;
  shown = shows;
  handed = λ h before. ([], append-nil h ∙ hands h before);
})
