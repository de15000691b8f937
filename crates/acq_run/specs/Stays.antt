-- A reader knows what was shown when its source has seen more, and what it was told adds up.
use Rattle.std.proofs.Common.{◌≡◌, ◌+◌, ◌++◌, ◌∷◌, [], fold, max, ℕ, List, length, take, Option, Some, None, refl, sym, ◌∙◌, ap, subst, arith, length-append}
use Rattle.std.proofs.lemmas.List.{take-append-le}
use mathlib.Core.List.{IsPrefix}
use Rattle.mdf_layout.specs.declared.sample.Sample.{Sample}
use Rattle.book_view.specs.Known.{Known}
use Rattle.acq_run.specs.Watching.{AnyLooked, Hears, Watches, told_by}
use Rattle.acq_run.specs.declared.watcher.Watcher.{Watcher}

pub watches_on : (watcher : Watcher) (which : ℕ) (seen more : List Sample) → Watches watcher which seen → IsPrefix seen more → Watches watcher which more
watches_on watcher which seen more is (rest, begins) =
    let same : take watcher.told seen ≡ take watcher.told more =
    sym (take-append-le watcher.told seen rest is.within) ∙ ap (take watcher.told) begins in record {
      within = omega (arith, is.within, ap length begins, length-append seen rest);
      of_view = is.of_view;
      knows = λ reader there. subst (λ told. IsPrefix told reader.samples) same (is.knows reader there);
    }

-- a reader that is the same did not look
looked_none : (reader : Option Known) → AnyLooked reader 0 reader
looked_none None = refl
looked_none (Some reader) = (omega arith, (λ less. omega arith))

-- the looks of two steps add up
looked_more : (first second third : Option Known) (n m : ℕ) → AnyLooked first n second → AnyLooked second m third → AnyLooked first (n + m) third
looked_more None None third n m one two = two
looked_more None (Some middle) third n m one two = absurd (cc one)
looked_more (Some before) None third n m one two = absurd one
looked_more (Some before) (Some middle) None n m one two = absurd two
looked_more (Some before) (Some middle) (Some now) n m one two =
    (omega (arith, one.0, two.0), (λ less. omega (arith, two.1 less, one.1 (omega (arith, less, two.1 less)))))

told_none : (reader : Option Known) (told : ℕ) → told ≡ told_by reader told []
told_none None told = refl
told_none (Some reader) told = refl

fold_behind : (told : ℕ) (shown more : List ℕ) → fold max told (shown ++ more) ≡ fold max (fold max told shown) more
fold_behind told [] more = refl
fold_behind told (n ∷ shown) more = fold_behind (max told n) shown more

-- so do the numbers that were told
told_more : (first second : Option Known) (n told middle last : ℕ) (shown more : List ℕ) → AnyLooked first n second → middle ≡ told_by first told shown
    → last ≡ told_by second middle more → last ≡ told_by first told (shown ++ more)
told_more None None n told middle last shown more looked one two = two ∙ one
told_more None (Some reader) n told middle last shown more looked one two = absurd (cc looked)
told_more (Some before) None n told middle last shown more looked one two = absurd looked
told_more (Some before) (Some reader) n told middle last shown more looked one two =
    two ∙ ap (λ k. fold max k more) one ∙ sym (fold_behind told shown more)

pub hears_none : (watcher : Watcher) → Hears watcher [] watcher
hears_none watcher = (omega arith, (λ less. omega arith), told_none watcher.reader watcher.told, looked_none watcher.reader)

pub hears_more : (first second third : Watcher) (shown more : List ℕ) → Hears first shown second → Hears second more third → Hears first (shown ++ more) third
hears_more first second third shown more one two =
    let both = length-append shown more in (
      omega (arith, both, one.0, two.0),
      (λ less. omega (arith, both, two.1 less, one.1 (omega (arith, less, two.1 less)))),
      told_more first.reader second.reader (length shown) first.told second.told third.told shown more one.3 one.2 two.2,
      subst (λ n. AnyLooked first.reader n third.reader) (sym both) (looked_more first.reader second.reader third.reader (length shown) (length more) one.3 two.3),
    )
