-- All is recovered where all is durable.
use Rattle.std.proofs.Common.{◌≡◌, ◌-◌, ◌<◌, ◌≤◌, ℕ, List, [], ◌∷◌, ◌++◌, length, get_or, fold, Option, refl, sym, ◌∙◌, ap, subst, arith, length-append, append-nil}
use Rattle.mdf_disk.specs.Story.{Story, LeftSince}
use Rattle.mdf_disk.specs.Crash.{HoldsSince}
use Rattle.mdf_layout.specs.declared.sample.Sample.{Sample}
use Rattle.mdf_carried.specs.Samples.{IsRecovered}
use Rattle.book_owned.specs.Marks.{last_mark, durable}
use Rattle.book_owned.specs.declared.mark.Mark.{Mark}
use Rattle.mdf_record.specs.Recovers.{MarksRecover}

-- the last mark stands last
fold_at : (first : Mark) (marks : List Mark) (d : Mark) → get_or (first ∷ marks) (length marks) d ≡ fold (λ before mark. mark) first marks
fold_at first [] d = refl
fold_at first (mark ∷ marks) d = fold_at mark marks d

last_there : (marks : List Mark) (d : Mark) → 0 < length marks → get_or marks (length marks - 1) d ≡ last_mark marks
last_there [] d some = absurd (omega (arith, some))
last_there (first ∷ marks) d some =
    let place : length (first ∷ marks) - 1 ≡ length marks = omega arith in
    ap (λ n. get_or (first ∷ marks) n d) place ∙ fold_at first marks d

-- a beginning as long as the whole is the whole
whole_prefix : (samples history rest : List Sample) → samples ++ rest ≡ history → length history ≤ length samples → samples ≡ history
whole_prefix samples history [] is long = sym (append-nil samples) ∙ is
whole_prefix samples history (sample ∷ rest) is long = absurd (omega (arith, ap length is, length-append samples (sample ∷ rest), long))

pub all_is_recovered : (story : Option Story) (clock : ℕ) (history : List Sample) (marks : List Mark) → MarksRecover story clock history marks
    → (0 < length marks) × (durable marks ≡ length history) → HoldsSince story (last_mark marks).moment (λ file. IsRecovered file history)
all_is_recovered story clock history marks recover (some, all) = λ file may.
    let d = last_mark marks in
    let last = last_there marks d some in
    let hold = recover (length marks - 1) d (omega (arith, some)) in
    let moment : (last_mark marks).moment ≡ (get_or marks (length marks - 1) d).moment = ap (λ (m : Mark). m.moment) (sym last) in
    let one = hold.recovers file (subst (λ t. LeftSince story t file) moment may) in
    let through : (get_or marks (length marks - 1) d).through ≡ length history = ap (λ (m : Mark). m.through) last ∙ all in
    subst (IsRecovered file) (whole_prefix one.samples history one.beginning.0 one.beginning.1 (omega (arith, one.enough, through))) one.recovered
