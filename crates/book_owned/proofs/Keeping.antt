-- What a book keeps of its file, over the calls that change the file or the history.
use Rattle.std.proofs.Common.{◌≡◌, ◌⊎◌, ◌-◌, ◌*◌, ◌<◌, ◌≤◌, ℕ, Bool, true, false, List, [], ◌∷◌, ◌++◌, length, drop, get_or, slice_get, Option, sym, ◌∙◌, ap, subst, inl, inr, ⊎_elim, arith, length-append}
use Rattle.std.specs.Prelude.{AllPairs, IsSomeAnd, is_some}
use Rattle.std.specs.Bool.{OnTrue}
use Rattle.std.specs.List.{All}
use Rattle.std.proofs.lemmas.List.{get_or_append_left}
use Rattle.std.proofs.Math.Seq.{get_or-append_right}
use Rattle.std.proofs.lemmas.List.Elements.{All-weaker, All-push}
use Rattle.std.proofs.lemmas.Bool.{cases_lt}
use mathlib.Core.List.{IsPrefix}
use Rattle.mdf_disk.specs.Story.{Story}
use Rattle.mdf_disk.specs.Crash.{Adds, HoldsSince}
use Rattle.mdf_disk.specs.State.{DiskState}
use Rattle.mdf_disk.proofs.Crash.{adds_more, holds_after}
use Rattle.mdf_layout.specs.Layout.{Layout}
use Rattle.mdf_layout.specs.Record.{history_size}
use Rattle.mdf_layout.specs.declared.sample.Sample.{Sample}
use Rattle.mdf_gate.specs.Images.{IsNotMdf}
use Rattle.mdf_gate.specs.Carried.{Carries}
use Rattle.mdf_gate.proofs.Carrying.{carries_longer, carries_fewer}
use Rattle.book_owned.specs.Marks.{last_mark, durable}
use Rattle.book_owned.specs.Account.{Terms}
use Rattle.book_owned.specs.Kept.{MarkHolds, StartHolds, IsKept}
use Rattle.book_owned.specs.BackHalf.{Later, Keeps}
use Rattle.book_owned.specs.FrontHalf.{AreThroughs}
use Rattle.book_owned.specs.declared.mark.Mark.{Mark}
use Rattle.book_owned.proofs.Lasts.{last_mark_at}

module _ (layouts : List Layout) (head : List ℕ) (history : List Sample) where
  abbrev pub carry : ℕ → List ℕ → Type 0
  carry through file = Carries layouts head history through file

  -- a mark goes on to hold where only files join that carry as much
  mark_later : (old new : Option Story) (clock clock' through : ℕ) (mark : Mark) → Adds old new (carry through) → clock ≤ clock'
      → mark.through ≤ through → MarkHolds layouts head old clock history mark
      → MarkHolds layouts head new clock' history mark
  mark_later old new clock clock' through mark adds later less holds = record {
    past = omega (arith, holds.past);
    within = holds.within;
    carries = holds_after old new mark.moment (carry mark.through) holds.carries
        (adds_more old new (carry through) (carry mark.through)
        (λ file. carries_fewer layouts head history through mark.through file less) adds);
  }

  -- and what holds since the start
  start_later : (old new : Option Story) (start through : ℕ) → Adds old new (carry through)
      → StartHolds layouts head old start history → StartHolds layouts head new start history
  start_later old new start through adds holds =
      holds_after old new start (λ file. IsNotMdf file ⊎ carry 0 file) holds
      (adds_more old new (carry through) (λ file. IsNotMdf file ⊎ carry 0 file)
      (λ file c. inr (carries_fewer layouts head history through 0 file (omega arith) c)) adds)

-- what holds of each two of these holds of each two with one more
pairs-push : {A : Type 0} (R : A → A → Type 0) (xs : List A) (x : A) → AllPairs R xs → All (λ y. R y x) xs → AllPairs R (xs ++ x ∷ [])
pairs-push R xs x pairs last i j d less below = elim (cases_lt j (length xs)) [
  | inl inside ↦
      subst (λ y. R y (get_or (xs ++ x ∷ []) j d)) (sym (get_or_append_left xs (x ∷ []) d i (omega (arith, less, inside))))
      (subst (R (get_or xs i d)) (sym (get_or_append_left xs (x ∷ []) d j inside)) (pairs i j d less inside))
  | inr behind ↦
      let place : j ≡ length xs = omega (arith, below, behind, length-append xs (x ∷ [])) in
      let at_last : get_or (xs ++ x ∷ []) j d ≡ x =
      get_or-append_right xs (x ∷ []) j d behind ∙ ap (λ n. get_or (x ∷ []) n d) (zero_of place) in
      let inside : i < length xs = omega (arith, less, place) in
      subst (λ y. R y (get_or (xs ++ x ∷ []) j d)) (sym (get_or_append_left xs (x ∷ []) d i inside))
      (subst (R (get_or xs i d)) (sym at_last) (last i d inside))
] where
  zero_of : {j n : ℕ} → j ≡ n → j - n ≡ 0
  zero_of same = omega (arith, same)

-- and of each two of a beginning
pairs-fewer : {A : Type 0} (R : A → A → Type 0) (fewer xs : List A) → IsPrefix fewer xs → AllPairs R xs → AllPairs R fewer
pairs-fewer R fewer xs (rest, is) pairs i j d less below =
    let whole : AllPairs R (fewer ++ rest) = subst (AllPairs R) (sym is) pairs in
    subst (λ y. R y (get_or fewer j d)) (get_or_append_left fewer rest d i (omega (arith, less, below)))
    (subst (R (get_or (fewer ++ rest) i d)) (get_or_append_left fewer rest d j below)
    (whole i j d less (omega (arith, below, length-append fewer rest))))

pub all-fewer : {A : Type 0} (P : A → Type 0) (fewer xs : List A) → IsPrefix fewer xs → All P xs → All P fewer
all-fewer P fewer xs (rest, is) all k d below =
    subst P (get_or_append_left fewer rest d k below)
    (subst (All P) (sym is) all k d (omega (arith, below, length-append fewer rest)))

-- each mark goes through no more samples than the last one
pub throughs_most : (marks : List Mark) → AreThroughs marks → All (λ mark. mark.through ≤ durable marks) marks
throughs_most marks throughs k d within =
    let last : get_or marks (length marks - 1) d ≡ last_mark marks = last_mark_at marks d (omega (arith, within)) in
    elim (cases_lt k (length marks - 1)) [
      | inl before ↦
          let through = throughs.rise k (length marks - 1) d before (omega (arith, within)) in
          let same = ap (λ m. m.through) last in
          omega (arith, through, same)
      | inr not ↦
          let place : k ≡ length marks - 1 = omega (arith, within) in
          let same = ap (λ m. m.through) (ap (λ i. get_or marks i d) place ∙ last) in
          omega (arith, same)
    ]

-- one mark more has more samples
pub throughs-push : (marks : List Mark) (mark : Mark) → AreThroughs marks → durable marks < mark.through → AreThroughs (marks ++ mark ∷ [])
throughs-push marks mark throughs more = record {
  first = first marks throughs.first;
  rise = pairs-push (λ m later. m.through < later.through) marks mark throughs.rise
      (All-weaker (λ m. m.through ≤ durable marks) (λ m. m.through < mark.through) (λ m less. omega (arith, less, more)) marks (throughs_most marks throughs));
} where
  first : (ms : List Mark) → IsSomeAnd (slice_get ms 0) (λ m. m.through ≡ 0) → IsSomeAnd (slice_get (ms ++ mark ∷ []) 0) (λ m. m.through ≡ 0)
  first [] none = absurd none
  first (m ∷ ms) is = is

module _ (layouts : List Layout) (head : List ℕ) (start : ℕ) where
  -- The file went on by what carries as much as these marks have.
  pub keeps_later : (old new : Option Story) (clock clock' through : ℕ) (samples : List Sample) (marks : List Mark)
      → Adds old new (Carries layouts head samples through) → clock ≤ clock' → is_some new ≡ is_some old → All (λ mark. mark.through ≤ through) marks
      → Keeps layouts head start old clock samples marks → Keeps layouts head start new clock' samples marks
  keeps_later old new clock clock' through samples marks adds later told less keeps = record {
    marks_hold = λ k d within. mark_later layouts head samples old new clock clock' through (get_or marks k d) adds later (less k d within) (keeps.marks_hold k d within);
    start_holds = start_later layouts head samples old new start through adds keeps.start_holds;
    moments = subst (λ t. AllPairs (Later t) marks) (sym told) keeps.moments;
  }

  module _ (story : Option Story) (clock : ℕ) where
    -- A mark was made of the present moment, which is later than those of the others, with all samples.
    pub keeps_marked : (before : ℕ) (samples : List Sample) (marks : List Mark) (mark : Mark) → Keeps layouts head start story clock samples marks
        → All (λ m. m.moment ≤ before) marks → mark.moment ≡ clock → mark.through ≡ length samples → before ≤ clock
        → OnTrue (is_some story) (before < clock) → HoldsSince story clock (Carries layouts head samples (length samples))
        → Keeps layouts head start story clock samples (marks ++ mark ∷ [])
    keeps_marked before samples marks mark keeps past moment through later strictly holds = record {
      marks_hold = All-push (MarkHolds layouts head story clock samples) marks mark keeps.marks_hold (record {
        past = omega (arith, moment);
        within = omega (arith, through);
        carries = rw (moment, through) holds;
      });
      start_holds = keeps.start_holds;
      moments = pairs-push (Later (is_some story)) marks mark keeps.moments
          (All-weaker (λ m. m.moment ≤ before) (λ m. Later (is_some story) m mark) (λ m less. (omega (arith, less, moment, later), strict (is_some story) m less strictly)) marks past);
    } where
      strict : (t : Bool) (m : Mark) → m.moment ≤ before → OnTrue t (before < clock) → OnTrue t (m.moment < mark.moment)
      strict true m less more = omega (arith, less, more, moment)
      strict false m less more = tt

    -- It is kept of more samples, and of fewer marks.
    pub keeps_longer : (samples longer : List Sample) (marks : List Mark) → IsPrefix samples longer
        → Keeps layouts head start story clock samples marks → Keeps layouts head start story clock longer marks
    keeps_longer samples longer marks begins keeps = record {
      marks_hold = All-weaker (MarkHolds layouts head story clock samples) (MarkHolds layouts head story clock longer) (λ mark h. record {
        past = h.past;
        within = omega (arith, h.within, prefix_long samples longer begins);
        carries = λ file left. carries_longer layouts head samples longer mark.through file begins (h.carries file left);
      }) marks keeps.marks_hold;
      start_holds = λ file left. ⊎_elim inl (λ c. inr (carries_longer layouts head samples longer 0 file begins c)) (keeps.start_holds file left);
      moments = keeps.moments;
    } where
      prefix_long : (xs ys : List Sample) → IsPrefix xs ys → length xs ≤ length ys
      prefix_long xs ys (rest, is) = omega (arith, ap length is, length-append xs rest)

    pub keeps_fewer : (samples : List Sample) (marks fewer : List Mark) → IsPrefix fewer marks
        → Keeps layouts head start story clock samples marks → Keeps layouts head start story clock samples fewer
    keeps_fewer samples marks fewer begins keeps = record {
      marks_hold = all-fewer (MarkHolds layouts head story clock samples) fewer marks begins keeps.marks_hold;
      start_holds = keeps.start_holds;
      moments = pairs-fewer (Later (is_some story)) fewer marks begins keeps.moments;
    }

-- What a book keeps is what its file keeps, and that the marks have more and more samples.
module _ (terms : Terms) (disk : DiskState) (history : List Sample) (marks : List Mark) where
  abbrev pub FileKeeps : Type 0
  FileKeeps = Keeps terms.layouts terms.head terms.start disk.story disk.moment history marks

  pub kept_of : FileKeeps → AreThroughs marks → history_size terms.layouts (drop (durable marks) history) ≤ 2 * terms.block_limit → IsKept terms disk history marks
  kept_of keeps throughs pending = record {
    marks_hold = keeps.marks_hold;
    start_holds = keeps.start_holds;
    marks_rise = record {
      first = throughs.first;
      rise = λ i j d less below. record {
        through = throughs.rise i j d less below;
        moment = (keeps.moments i j d less below).0;
        strictly = (keeps.moments i j d less below).1;
      };
    };
    pending = pending;
  }

  pub keeps_of : IsKept terms disk history marks → FileKeeps
  keeps_of kept = record {
    marks_hold = kept.marks_hold;
    start_holds = kept.start_holds;
    moments = λ i j d less below. let rises = kept.marks_rise.rise i j d less below in (rises.moment, rises.strictly);
  }

  pub throughs_of : IsKept terms disk history marks → AreThroughs marks
  throughs_of kept = record {
    first = kept.marks_rise.first;
    rise = λ i j d less below. let rises = kept.marks_rise.rise i j d less below in rises.through;
  }
