-- A reader knows what was shown when it has learnt a note.
use Rattle.std.proofs.Common.{◌≡◌, ℕ, zero, suc, ◌≤◌, ◌<◌, max, map, All, List, [], ◌∷◌, length, take, Option, Some, None, refl, sym, ◌∙◌, ap, subst, ⊎_elim, arith, length-append}
use Rattle.std.proofs.lemmas.Bool.{cases_lt}
use Rattle.std.proofs.Math.Seq.{take-append_seam}
use Rattle.std.proofs.lemmas.List.{length-take-le}
use mathlib.Core.List.{IsPrefix}
use Rattle.mdf_layout.specs.declared.sample.Sample.{Sample}
use Rattle.mdf_gate.proofs.Carrying.{prefix_take, prefix_trans}
use Rattle.book_view.specs.Known.{Known, Note}
use Rattle.acq_run.specs.Audience.{tells_of}
use Rattle.acq_run.specs.Watching.{AnyLooked, AnyLooks, HasLooked, IsFresh, IsOf, Looks, Watches, told_by}
use Rattle.acq_run.specs.declared.watcher.Watcher.{Watcher}

-- so many samples of the history are the note's
noted : (seen samples : List Sample) (shown : ℕ) → samples ≡ take shown seen → take (length samples) seen ≡ samples
noted seen samples shown is =
    let begins : IsPrefix samples seen = subst (λ list. IsPrefix list seen) (sym is) (prefix_take shown seen) in
    ap (take (length samples)) (sym begins.1) ∙ take-append_seam samples begins.0

not_more : (seen samples : List Sample) (shown : ℕ) → samples ≡ take shown seen → length samples ≤ length seen
not_more seen samples shown is =
    let begins : IsPrefix samples seen = subst (λ list. IsPrefix list seen) (sym is) (prefix_take shown seen) in
    omega (arith, ap length begins.1, length-append samples begins.0)

module _ (watcher : Watcher) (which shown : ℕ) (seen : List Sample) (note : Note) (is : Watches watcher which seen) (note_is : note.samples ≡ take shown seen) (told flushes : ℕ) (told_is : told ≡ max watcher.told (length note.samples)) where
  within : told ≤ length seen
  within = omega (arith, told_is, is.within, not_more seen note.samples shown note_is)

  module _ (before now : Known) (there : watcher.reader ≡ Some before) (looks : Looks before note now) where
    knows : IsPrefix (take told seen) now.samples
    knows =
        ⊎_elim
        (λ (less : watcher.told < length note.samples).
        let same : take told seen ≡ note.samples = ap (λ n. take n seen) (omega (arith, told_is, less)) ∙ noted seen note.samples shown note_is in
        subst (λ list. IsPrefix list now.samples) (sym same) looks.told)
        (λ (more : length note.samples ≤ watcher.told).
        let same : take told seen ≡ take watcher.told seen = ap (λ n. take n seen) (omega (arith, told_is, more)) in
        subst (λ list. IsPrefix list now.samples) (sym same) (prefix_trans (take watcher.told seen) before.samples now.samples (is.knows before there) looks.seen))
        (cases_lt watcher.told (length note.samples))

    watches_reader : Watches (record { reader = Some now; told = told; flushes = flushes }) which seen
    watches_reader = record {
      within = within;
      of_view = ap suc looks.which ∙ subst (λ (r : Option Known). IsOf r which) there is.of_view;
      knows = λ reader same. let is_now : now ≡ reader = cc in subst (λ r. IsPrefix (take told seen) r.samples) is_now knows;
    }

  -- it has learnt a note of what is shown
  pub watches_noted : (before now : Option Known) → watcher.reader ≡ before → AnyLooks before note now → Watches (record { reader = now; told = told; flushes = flushes }) which seen
  watches_noted None now there looks = record {
    within = within;
    of_view = subst (λ (r : Option Known). IsOf r which) (there ∙ sym looks) is.of_view;
    knows = λ reader same. absurd (cc (looks, same));
  }
  watches_noted (Some before) None there looks = absurd looks
  watches_noted (Some before) (Some now) there looks = watches_reader before now there looks

-- the count of flushes says nothing of what was shown
pub watches_counted : (watcher : Watcher) (which : ℕ) (seen : List Sample) (flushes : ℕ) → Watches watcher which seen
    → Watches (record { reader = watcher.reader; told = watcher.told; flushes = flushes }) which seen
watches_counted watcher which seen flushes is = record { within = is.within; of_view = is.of_view; knows = is.knows }

-- readers that know nothing, when nothing was seen
pub watch_first : (which : ℕ) (readers : List Known) → All (λ reader. reader ≡ record { samples = []; which = which; refusals = 0; views = 0 }) readers
    → All (λ (watcher : Watcher). Watches watcher (suc which) []) (map (λ (reader : Known). record { reader = Some reader; told = 0; flushes = 0 }) readers)
watch_first which [] each k d within = absurd (omega (arith, within))
watch_first which (reader ∷ readers) each zero d within = record {
  within = omega arith;
  of_view = ap (λ (r : Known). suc r.which) (each 0 reader (omega arith));
  knows = λ other is. (other.samples, refl);
}
watch_first which (reader ∷ readers) each (suc k) d within = watch_first which readers (λ j e less. each (suc j) e (omega (arith, less))) k d (omega (arith, within))

-- no flush has told anything to the watchers of readers that were just made, and these have not looked
pub fresh_readers : (which : ℕ) (readers : List Known) → All (λ reader. reader ≡ record { samples = []; which = which; refusals = 0; views = 0 }) readers
    → All IsFresh (map (λ (reader : Known). record { reader = Some reader; told = 0; flushes = 0 }) readers)
fresh_readers which [] each k d within = absurd (omega (arith, within))
fresh_readers which (reader ∷ readers) each zero d within = record {
  told = refl;
  flushes = refl;
  looks = λ other is.
      let first : reader ≡ record { samples = []; which = which; refusals = 0; views = 0 } = each 0 reader (omega arith) in
      let same : other ≡ record { samples = []; which = which; refusals = 0; views = 0 } = cc (first, is) in
      (ap (λ (r : Known). r.views) same, ap (λ (r : Known). r.refusals) same);
}
fresh_readers which (reader ∷ readers) each (suc k) d within = fresh_readers which readers (λ j e less. each (suc j) e (omega (arith, less))) k d (omega (arith, within))

-- watchers with no reader follow a book that nobody looks at, and no flush has told them anything
pub watch_nobody : (watchers : List Watcher) → All (λ watcher. watcher ≡ record { reader = None; told = 0; flushes = 0 }) watchers
    → All (λ (watcher : Watcher). Watches watcher 0 []) watchers
watch_nobody watchers each k d within =
    subst (λ watcher. Watches watcher 0 []) (sym (each k d within)) (record { within = omega arith; of_view = refl; knows = λ other is. absurd (cc is) })

pub fresh_nobody : (watchers : List Watcher) → All (λ watcher. watcher ≡ record { reader = None; told = 0; flushes = 0 }) watchers → All IsFresh watchers
fresh_nobody watchers each k d within =
    subst IsFresh (sym (each k d within)) (record { told = refl; flushes = refl; looks = λ other is. absurd (cc is) })

-- a reader that learnt a note looked once
has_looked : (before : Known) (note : Note) (now : Known) → Looks before note now → HasLooked before 1 now
has_looked before note now looks =
    ⊎_elim
    (λ took. (omega (arith, took.0, took.1), (λ less. omega (arith, took.0, took.1, less))))
    (λ refused. (omega (arith, refused.0, refused.1), (λ less. omega (arith, refused.0, refused.1, less))))
    looks.looked

pub any_looked : (before now : Option Known) (note : Note) → AnyLooks before note now → AnyLooked before 1 now
any_looked None now note looks = looks
any_looked (Some before) None note looks = absurd looks
any_looked (Some before) (Some now) note looks = has_looked before note now looks

-- nobody looks where there is no note
pub nobody_looked : (reader : Option Known) (which : ℕ) (note : Option Note) (samples : List Sample) → IsOf reader which → tells_of note which samples
    → ((told : Note) → note ≡ Some told → ⊥) → AnyLooked reader 1 reader
nobody_looked reader which (Some note) samples of_view tells not = absurd (not note refl)
nobody_looked None which None samples of_view tells not = refl
nobody_looked (Some reader) which None samples of_view tells not = absurd (omega (arith, of_view, tells))

-- what is told behind a note, where there is one
pub told_noted : (reader : Option Known) (which shown : ℕ) (seen : List Sample) (note : Note) → IsOf reader which → shown ≤ length seen
    → tells_of (Some note) which (take shown seen) → (told now : ℕ) → now ≡ max told (length note.samples) → now ≡ told_by reader told (shown ∷ [])
told_noted None which shown seen note of_view within tells told now is = absurd (omega (arith, of_view, tells.1))
told_noted (Some reader) which shown seen note of_view within tells told now is =
    is ∙ ap (λ (samples : List Sample). max told (length samples)) tells.0 ∙ ap (max told) (length-take-le shown seen within)

-- and behind none
pub told_nobody : (reader : Option Known) (which : ℕ) (note : Option Note) (samples : List Sample) (shown told : ℕ) → IsOf reader which → tells_of note which samples
    → ((noted : Note) → note ≡ Some noted → ⊥) → told ≡ told_by reader told (shown ∷ [])
told_nobody reader which (Some note) samples shown told of_view tells not = absurd (not note refl)
told_nobody None which None samples shown told of_view tells not = refl
told_nobody (Some reader) which None samples shown told of_view tells not = absurd (omega (arith, of_view, tells))
