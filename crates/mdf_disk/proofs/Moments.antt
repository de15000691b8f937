-- The moments of a story stay in it, and each of the images of a call is one that a crash may leave.
use Rattle.std.proofs.Common.{◌≡◌, ◌⊎◌, inl, inr, ⊎_elim, ℕ, ◌+◌, ◌-◌, ◌≤◌, ◌<◌, List, [], ◌∷◌, ◌++◌, length, take, drop, replicate, fold, get_or, true, false, refl, sym, ◌∙◌, ap, subst, arith, length-append, take-append-drop, append_assoc}
use Rattle.std.proofs.lemmas.List.{take_all, drop_all, get_or_append_left, length-replicate, append-nil}
use Rattle.std.proofs.lemmas.Bool.{cases_lt}
use Rattle.std.proofs.lemmas.List.Sums.{fold-append}
use Rattle.std.specs.List.{AllByRecursion}
use Rattle.mdf_disk.specs.Story.{Range, Moment, Story, MayLeave, LeftInOne}
use Rattle.mdf_disk.specs.Calls.{touched}
use Rattle.mdf_disk.specs.Tape.{story_of, told_by, moments_of, inside, first_story}
use Rattle.mdf_disk.specs.Image.{moment_inside, moment_before, filled, image_of}
use Rattle.mdf_disk.specs.declared.call.Call.{Call}
use Rattle.mdf_disk.specs.declared.call.Call.TheVariants.{Attach, Size, Read, Refused, Write, Sync}
use Rattle.mdf_disk.specs.declared.image.Pick.{Pick}
use Rattle.mdf_disk.specs.declared.image.Pick.TheVariants.{Stable, Content, Filled}
use Rattle.mdf_format.specs.Number.{patched}
use Rattle.mdf_disk.proofs.Patches.{length-patched, get_or-patched}
use Rattle.mdf_disk.proofs.Tapes.{IsPossible, story_of-more}

-- a story and what it was before
pub record GoesOn (old new : Story) : Type 0 where
  pub front : List Moment
  pub behind : moments_of new ≡ front ++ moments_of old

one_call : (story : Story) (call : Call) → GoesOn story (told_by story call)
one_call story Attach = record { front = []; behind = refl }
one_call story Size = record { front = []; behind = refl }
one_call story Read = record { front = []; behind = refl }
one_call story Refused = record { front = []; behind = refl }
one_call story (Write at bytes done) = record { front = (told_by story (Write at bytes done)).now ∷ []; behind = refl }
one_call story (Sync done) = record { front = (told_by story (Sync done)).now ∷ []; behind = refl }

goes_further : (a b c : Story) → GoesOn a b → GoesOn b c → GoesOn a c
goes_further a b c first second = record {
  front = second.front ++ first.front;
  behind = second.behind ∙ ap (λ (ms : List Moment). second.front ++ ms) first.behind ∙ sym (append_assoc second.front first.front (moments_of a));
}

more_calls : (story : Story) (calls : List Call) → GoesOn story (fold told_by story calls)
more_calls story [] = record { front = []; behind = refl }
more_calls story (call ∷ calls) =
    goes_further story (told_by story call) _ (one_call story call) (more_calls (told_by story call) calls)

-- the story of the first calls goes on to that of all
pub of_all : (calls : List Call) (k : ℕ) → GoesOn (story_of (take k calls)) (story_of calls)
of_all calls k =
    let parts : story_of calls ≡ fold told_by (story_of (take k calls)) (drop k calls) =
    ap story_of (sym (take-append-drop k calls)) ∙ fold-append told_by first_story (take k calls) (drop k calls) in
    subst (λ (s : Story). GoesOn (story_of (take k calls)) s) (sym parts) (more_calls (story_of (take k calls)) (drop k calls))

left_behind : (front moments : List Moment) (t : ℕ) (file : List ℕ) → LeftInOne moments t file → LeftInOne (front ++ moments) t file
left_behind [] moments t file left = left
left_behind (m ∷ front) moments t file left = inr (left_behind front moments t file left)

pub left_later : (old new : Story) → GoesOn old new → (t : ℕ) (file : List ℕ) → LeftInOne (moments_of old) t file → LeftInOne (moments_of new) t file
left_later old new on t file left =
    subst (λ (ms : List Moment). LeftInOne ms t file) (sym on.behind) (left_behind on.front (moments_of old) t file left)

all_behind : (P : Moment → Type 0) (front moments : List Moment) → AllByRecursion P (front ++ moments) → AllByRecursion P moments
all_behind P [] moments all = all
all_behind P (m ∷ front) moments all = all_behind P front moments all.1

pub all_before : (P : Moment → Type 0) (old new : Story) → GoesOn old new → AllByRecursion P (moments_of new) → AllByRecursion P (moments_of old)
all_before P old new on all = all_behind P on.front (moments_of old) (subst (AllByRecursion P) on.behind all)

-- the moment inside a call is the one before it or the one after it
pub record IsMomentOf (story : Story) (moment : Moment) (t : ℕ) : Type 0 where
  pub left : (file : List ℕ) → MayLeave moment file → LeftInOne (moments_of story) t file
  pub possible : AllByRecursion IsPossible (moments_of story) → IsPossible moment

now_is : (story : Story) → IsMomentOf story story.now (length story.past)
now_is story = record { left = λ file left. inl (omega arith, left); possible = λ all. all.0 }

inside_one : (story : Story) (call : Call) → IsMomentOf (told_by story call) (inside call story.now) (length story.past)
inside_one story Attach = now_is story
inside_one story Size = now_is story
inside_one story Read = now_is story
inside_one story Refused = now_is story
inside_one story (Write at bytes true) = record { left = λ file left. inl (omega arith, left); possible = λ all. all.0 }
inside_one story (Write at bytes false) = record { left = λ file left. inl (omega arith, left); possible = λ all. all.0 }
inside_one story (Sync done) = record { left = λ file left. inr (inl (omega arith, left)); possible = λ all. all.1.0 }

pub inside_all : (calls : List Call) (k : ℕ) → k < length calls → IsMomentOf (story_of calls) (moment_inside calls k) (moment_before calls k)
inside_all calls k within =
    let call = get_or calls k Attach in
    let before = story_of (take k calls) in
    let one = subst (λ (s : Story). IsMomentOf s (inside call before.now) (length before.past)) (sym (story_of-more calls k Attach within)) (inside_one before call) in
    let on = of_all calls (k + 1) in record {
      left = λ file left. left_later _ _ on _ file (one.left file left);
      possible = λ all. one.possible (all_before IsPossible _ _ on all);
    }

-- bytes put past the end come right behind it
past_end : (at : ℕ) (part file : List ℕ) → length file < at → patched at part file ≡ file ++ part
past_end at part file above =
    ap (λ (front : List ℕ). front ++ part ++ drop (at + length part) file) (take_all at file (omega arith))
    ∙ ap (λ (rest : List ℕ). file ++ part ++ rest) (drop_all (at + length part) file (omega arith))
    ∙ append-nil (file ++ part)

-- what lies behind a range lies behind its bytes, or before it where it ends before it begins
beside : (range : Range) (part : List ℕ) → length part ≡ range.behind - range.first → (place : ℕ) → range.behind ≤ place
    → (place < range.first) ⊎ (range.first + length part ≤ place)
beside range part long place behind = elim (cases_lt place range.first) [
  | inl below ↦ inl below
  | inr above ↦ inr (omega (arith, long))
]

-- one range more that is filled up
fills : (moment : Moment) (range : Range) (part file : List ℕ) → length part ≡ range.behind - range.first → MayLeave moment file
    → (length file < range.first) ⊎ (range.first ≤ length file)
    → MayLeave (touched range moment.content moment) (patched range.first part file)
fills moment range part file long left (inr within) =
    let size = length-patched range.first part file within in record {
      not_shorter = omega (arith, size, left.not_shorter);
      not_longer = omega (arith, size, long, left.not_longer);
      kept = λ place below outside.
          get_or-patched range.first part file within place (⊎_elim inl (λ behind. beside range part long place behind) outside.0) ∙ left.kept place below outside.1;
    }
fills moment range part file long left (inl past) =
    let is = past_end range.first part file past in
    let size = length-append file part in
    subst (MayLeave (touched range moment.content moment)) (sym is) (record {
      not_shorter = omega (arith, size, left.not_shorter);
      not_longer = omega (arith, size, long, left.not_longer);
      kept = λ place below outside. get_or_append_left file part 0 place (omega (arith, left.not_shorter)) ∙ left.kept place below outside.1;
    })

-- a file filled up in each range that was written
filled_left : (byte : ℕ) (stable content : List ℕ) (writes : List Range) → MayLeave (record { stable = stable; writes = writes; content = content }) (filled byte stable writes)
filled_left byte stable content [] = record { not_shorter = omega arith; not_longer = omega arith; kept = λ place below outside. refl }
filled_left byte stable content (range ∷ writes) =
    let file = filled byte stable writes in
    fills (record { stable = stable; writes = writes; content = content }) range (replicate (range.behind - range.first) byte) file
    (length-replicate (range.behind - range.first) byte) (filled_left byte stable content writes) (cases_lt (length file) range.first)

-- each pick names a file that a crash may leave
pub picked_left : (pick : Pick) (moment : Moment) → IsPossible moment → MayLeave moment (image_of pick moment)
picked_left Stable moment possible = record { not_shorter = omega arith; not_longer = omega arith; kept = λ place below outside. refl }
picked_left Content moment possible = possible
picked_left (Filled byte) moment possible = filled_left byte moment.stable moment.content moment.writes
