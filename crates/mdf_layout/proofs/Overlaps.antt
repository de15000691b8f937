-- The runs of the bits of fields, and what they tell of channels that share a bit.
use Rattle.std.proofs.Common.{◌≡◌, ◌<◌, ◌≤◌, ◌+◌, ◌-◌, ◌*◌, ◌/◌, ◌%◌, ◌⊎◌, ℕ, Bool, true, false, List, [], ◌∷◌, ◌++◌, length, get_or, if◌then◌else◌, sym, ◌∙◌, ap, subst, arith, inl, inr}
use Rattle.std.specs.Prelude.{nat_lt}
use Rattle.std.specs.List.{Contains}
use Rattle.std.specs.List.Sorted.{IsNonDecreasingBy}
use Rattle.std.proofs.lemmas.Bool.{lt-ltb, cases_eq, cases_lt, false_from_ne_true}
use Rattle.std.proofs.lemmas.List.Elements.{Contains-append_left, Contains-push}
use Rattle.std.proofs.lemmas.Option.{slice_get_within}
use Rattle.mdf_layout.specs.Rule.{is_variable, any_below, meets_at}
use Rattle.mdf_layout.specs.Run.{with_run, IsInRun, AreRuns, KeepRuns, Overlap, MeetNone}
use Rattle.mdf_layout.specs.declared.field.FieldRow.{FieldRow}
use Rattle.mdf_layout.specs.declared.runs.Run.{Run}
use Rattle.mdf_layout.proofs.Rules.{meets_law}

-- a run behind others
kept_where : (b : Bool) (runs : List Run) (run : Run) → KeepRuns runs (if b then runs ++ run ∷ [] else runs)
kept_where true runs run one there = Contains-append_left runs (run ∷ []) one there
kept_where false runs run one there = there

pub keeps : (old new : List Run) (run : Run) → new ≡ with_run old run → KeepRuns old new
keeps old new run is = subst (KeepRuns old) (sym is) (kept_where (nat_lt run.start run.end) old run)

pub keeps_both : (one two three : List Run) → KeepRuns one two → KeepRuns two three → KeepRuns one three
keeps_both one two three first second run there = second run (first run there)

has : (old new : List Run) (run : Run) → new ≡ with_run old run → run.start < run.end → Contains new run
has old new run is some =
    subst (λ runs. Contains runs run) (sym (is ∙ ap (λ b. if b then old ++ run ∷ [] else old) (lt-ltb run.start run.end some))) (Contains-push old run)

pub still_in : (old new : List Run) (k : ℕ) (row : FieldRow) (p : ℕ) → KeepRuns old new → IsInRun old k row p → IsInRun new k row p
still_in old new k row p kept found = record {
  run = found.run;
  there = kept found.run found.there;
  channel = found.channel;
  variable = found.variable;
  low = found.low;
  high = found.high;
}

pub is_in : (old new : List Run) (run : Run) (k : ℕ) (row : FieldRow) (p : ℕ) → new ≡ with_run old run
    → run.channel ≡ k → run.variable ≡ is_variable row → run.start ≤ p → p < run.end → IsInRun new k row p
is_in old new run k row p is channel variable low high = record {
  run = run;
  there = has old new run is (omega (arith, low, high));
  channel = channel;
  variable = variable;
  low = low;
  high = high;
}

-- where bit k of a field of size bytes, highest first, lies: in the first of the bytes that it has bits in, between, or in the last
pub record Between (start end p : ℕ) : Type 0 where
  pub low : start ≤ p
  pub high : p < end

pub one_byte : (byte bit bits size k : ℕ) → size ≡ (bit + bits + 7) / 8 → bit ≤ k → k < bit + bits
    → 8 * byte ≡ 8 * byte + 8 * (size - 1 - bit / 8)
    → Between (8 * byte + 8 * (size - 1 - bit / 8) + bit % 8) (8 * byte + (bit + bits - 1) % 8 + 1) (8 * (byte + (size - 1 - k / 8)) + k % 8)
one_byte byte bit bits size k long low high same = record { low = omega arith; high = omega arith }

pub many_bytes : (byte bit bits size k : ℕ) → size ≡ (bit + bits + 7) / 8 → bit ≤ k → k < bit + bits
    → Between (8 * byte) (8 * byte + (bit + bits - 1) % 8 + 1) (8 * (byte + (size - 1 - k / 8)) + k % 8)
    ⊎ (Between (8 * byte + 8) (8 * byte + 8 * (size - 1 - bit / 8)) (8 * (byte + (size - 1 - k / 8)) + k % 8)
    ⊎ Between (8 * byte + 8 * (size - 1 - bit / 8) + bit % 8) (8 * byte + 8 * (size - 1 - bit / 8) + 8) (8 * (byte + (size - 1 - k / 8)) + k % 8))
many_bytes byte bit bits size k long low high = elim (cases_eq (k / 8) (size - 1)) [
  | inl first ↦ inl (record { low = omega arith; high = omega (arith, first) })
  | inr more ↦ elim (cases_eq (k / 8) (bit / 8)) [
    | inl last ↦ inr (inr (record { low = omega (arith, last); high = omega (arith, last) }))
    | inr between ↦ inr (inl (record { low = omega (arith, more); high = omega (arith, more, between) }))
  ]
]

-- the runs in the order of their starts: a run that overlaps another starts before the end of one before it, or ends behind
-- the start of the next
pub overlap_told : (runs : List Run) (at m end next result : ℕ) (d run : Run)
    → IsNonDecreasingBy (λ run. run.start) runs → m < length runs → get_or runs at d ≡ run
    → ((j : ℕ) (d : Run) → j < at → (get_or runs j d).end ≤ end)
    → ((d : Run) → at + 1 < length runs → next ≡ (get_or runs (at + 1) d).start)
    → (run.variable ≡ true → run.start < end → result ≤ run.channel)
    → (run.variable ≡ true → next < run.end → result ≤ run.channel)
    → Overlap run (get_or runs m d) → result ≤ run.channel
overlap_told runs at m end next result d run sorted inside here ends starts before behind over = elim (cases_lt m at) [
  | inl earlier ↦ before over.variable (omega (arith, over.behind, ends m d earlier))
  | inr rest ↦ elim (cases_eq m at) [
    | inl same ↦ absurd (over.differ (ap (λ i. (get_or runs i d).channel) same ∙ ap (λ (r : Run). r.channel) here))
    | inr other ↦
        let later : at + 1 ≤ m = omega (arith, rest, other) in
        behind over.variable (omega (arith, over.before, sorted (at + 1) m d later inside, starts d (omega (arith, later, inside))))
  ]
]

-- no channel before one that is at most each channel of variable length with a run that overlaps another's
pub none_met : (rows : List FieldRow) (runs : List Run) (least : ℕ) → AreRuns runs rows (length rows)
    → ((run other : Run) → Contains runs run → Contains runs other → Overlap run other → least ≤ run.channel)
    → MeetNone rows least
none_met rows runs least are told k row below there is = false_from_ne_true (any_below (length rows) (meets_at rows k row)) (λ meets.
    let found = (meets_law rows k row).to meets in
    let j = found.0 in
    let other = found.1 in
    let shares = found.4 in
    let mine = are k row (slice_get_within rows k row there) there shares.p shares.first in
    let its = are j other (slice_get_within rows j other found.3) found.3 shares.p shares.second in
    let over : Overlap mine.run its.run = record {
      variable = mine.variable ∙ is;
      differ = λ same. found.2 (sym its.channel ∙ same ∙ mine.channel);
      before = omega (arith, its.low, mine.high);
      behind = omega (arith, mine.low, its.high);
    } in
    absurd (omega (arith, told mine.run its.run mine.there its.there over, mine.channel, below)))
