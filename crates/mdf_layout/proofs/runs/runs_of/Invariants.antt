use Rattle.mdf_layout.specs.Run.{AreRuns}
use Rattle.mdf_layout.proofs.runs.runs_of.Given as goal

-- the runs of the channels so far
abbrev pub invariant-loop-channel : goal.invariant-loop-channel
invariant-loop-channel l = AreRuns l.runs.items l.rows l.channel
