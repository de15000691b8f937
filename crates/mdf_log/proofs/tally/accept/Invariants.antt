use Rattle.std.proofs.Common.{◌≡◌, ◌<◌, ◌≤◌, ◌+◌, ◌^◌, ℕ, length}
use Rattle.std.specs.List.{slice_index_or}
use Rattle.acq_run.specs.declared.work.Driven.{Driven}
use Rattle.mdf_log.proofs.tally.accept.Given as goal

-- those of the sources so far were added
abbrev pub invariant-loop-source : goal.invariant-loop-source
invariant-loop-source l = record {
  same : length l.totals.items ≡ length l.fn.totals.items;
  done : (source : ℕ) (d : ℕ) (one : Driven) → source < l.source → slice_index_or l.totals.items source d ≡ slice_index_or l.fn.totals.items source d + (slice_index_or l.all source one).accepted;
  left : (source : ℕ) (d : ℕ) → l.source ≤ source → slice_index_or l.totals.items source d ≡ slice_index_or l.fn.totals.items source d;
  few : (source : ℕ) (d : ℕ) → slice_index_or l.totals.items source d ≤ slice_index_or l.fn.totals.items source d + 2 ^ 64;
}
