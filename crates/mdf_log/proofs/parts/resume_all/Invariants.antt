use Rattle.std.proofs.Common.{◌≡◌, ◌<◌, ◌≤◌, ℕ, length}
use Rattle.std.specs.List.{slice_index_or}
use Rattle.acq_lines.specs.Handled.{Resumes}
use Rattle.mdf_log.proofs.parts.resume_all.Given as goal

-- those so far were taken up
abbrev pub invariant-loop-source : goal.invariant-loop-source
invariant-loop-source g l = record {
  count : length l.feeds.items ≡ length l.fn.feeds.items;
  done : (source : ℕ) (d : _) → source < l.source → Resumes g.K.Sink (slice_index_or l.fn.feeds.items source d) (slice_index_or l.feeds.items source d);
  left : (source : ℕ) (d : _) → l.source ≤ source → slice_index_or l.feeds.items source d ≡ slice_index_or l.fn.feeds.items source d;
}
