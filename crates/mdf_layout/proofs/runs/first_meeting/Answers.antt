use Rattle.std.proofs.Common.{sym, subst, List}
use Rattle.std.specs.List.{Contains}
use Rattle.mdf_layout.specs.declared.runs.Run.{Run}
use Rattle.mdf_layout.proofs.Overlaps.{none_met}
use Rattle.mdf_layout.proofs.runs.first_meeting.Goals as goal

pub returns : goal.returns
returns c =
    let sorted : (run : Run) → Contains c.in_ok-runs.runs.items run → Contains c.as_slice.result.now run =
    λ run there. subst (λ (runs : List Run). Contains runs run) (sym c.as_slice.ensures.value) (c.sort_runs.ensures.kept run there) in
    none_met c.args.rows.now c.in_ok-runs.runs.items c.least_overlapping.result c.in_ok-runs.ensures
    (λ run other there there' over. c.least_overlapping.ensures run other (sorted run there) (sorted other there') over)
