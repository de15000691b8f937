use borrow.Author.Count.{below_more}
use Rattle.std.proofs.Common.{ℕ, get_or, arith}
use Rattle.mdf_model.specs.declared.part.Measure.{Measure}
use Rattle.tool_concat.specs.Wide.{IsNoneWide}
use Rattle.tool_concat.proofs.wide.first_wide.Goals as goal

pub loop-group-preserved : goal.loop-group-preserved
loop-group-preserved c = λ g d within.
    below_more (λ (j : ℕ). (e : Measure) → IsNoneWide (get_or c.args.first.now.groups j e) (get_or c.args.second.now.groups j e)) c.loop-group.group
    (λ j below e. c.loop-group.invariant j e below) (λ e. c.in-None.ensures.held e) g within d

pub returns-clause-held : goal.returns-clause-held
returns-clause-held c = λ g d below. c.loop-group.invariant g d (omega (arith, below, c.loop-group-test.false, c.groups-group-end.ensures))
