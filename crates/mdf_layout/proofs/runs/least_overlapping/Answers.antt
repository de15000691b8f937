use Rattle.std.proofs.Common.{◌≡◌, ◌≤◌, ◌∙◌, get_or, sym, subst, arith, below_more}
use Rattle.std.proofs.lemmas.List.{get_or_default}
use Rattle.mdf_layout.specs.Run.{Overlap}
use Rattle.mdf_layout.specs.declared.runs.Run.{Run}
use Rattle.mdf_layout.proofs.Overlaps.{overlap_told}
use Rattle.mdf_layout.proofs.runs.least_overlapping.Goals as goal

pub loop-at-preserved : goal.loop-at-preserved
loop-at-preserved c =
    let runs = c.args.runs.now in
    let at = c.loop-at.at in
    let before = c.loop-at.invariant in
    let end = c.later-end.result in
    let least = c.least_with-least.result in
    let run = c.run_at-run.result in
    record {
      ends = λ j d within. below_more (λ j. (get_or runs j d).end ≤ end) at
          (λ j within. omega (arith, before.ends j d within, c.later-end.ensures.one))
          (subst (λ (r : Run). r.end ≤ end) (sym (c.run_at-run.ensures d)) c.later-end.ensures.other)
          j within;
      told = λ j m d within inside. below_more (λ j. Overlap (get_or runs j d) (get_or runs m d) → least ≤ (get_or runs j d).channel) at
          (λ j within over. omega (arith, before.told j m d within inside over, c.least_with-least.ensures.kept))
          (subst (λ (r : Run). Overlap r (get_or runs m d) → least ≤ r.channel) (sym (c.run_at-run.ensures d))
          (overlap_told runs at m c.loop-at.end c.next_start.result least d run c.requires.sorted inside (c.run_at-run.ensures d)
          before.ends c.next_start.ensures c.least_with-least.ensures.before c.least_with-least.ensures.behind))
          j within;
    }

pub returns : goal.returns
returns c = λ run other there there' over.
    let runs = c.args.runs.now in
    let j = there.0 in
    let m = there'.0 in
    let same : get_or runs m run ≡ other = get_or_default runs m run other there'.1 ∙ there'.2 in
    subst (λ (r : Run). c.loop-at.least ≤ r.channel) there.2
    (c.loop-at.invariant.told j m run (omega (arith, there.1, c.loop-at-test.false)) there'.1
    (subst (Overlap (get_or runs j run)) (sym same) (subst (λ r. Overlap r other) (sym there.2) over)))
