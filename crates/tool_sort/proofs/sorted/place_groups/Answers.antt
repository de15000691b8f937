use Rattle.std.proofs.Common.{◌≡◌, ◌+◌, ◌<◌, ◌++◌, ℕ, List, length, drop, get_or, sym, ◌∙◌, ap, arith, drop-drop, length-drop}
use Rattle.std.proofs.lemmas.List.{get_or_default}
use Rattle.std.specs.Prelude.{nat_lt}
use Rattle.mdf_model.specs.declared.part.Measure.{Measure}
use Rattle.mdf_tree.specs.Group.{next_if}
use Rattle.tool_sort.specs.Sorted.{past_part, part_blocks}
use Rattle.tool_sort.proofs.Parts.{measure_placed, no_measures, fit_more, fit_all, some_measure, same_left}
use Rattle.tool_sort.proofs.sorted.place_groups.Goals as goal

pub place_next-requires : goal.place_next-requires
place_next-requires c =
    let groups = c.args.measurement.now.groups in
    let now = c.loop-i.measurement.groups in
    let i = c.loop-i.i in
    omega (arith, c.loop-i-test.true, c.groups-count.ensures, ap (λ (left : List Measure). length left) c.loop-i.invariant.rest, length-drop i now, length-drop i groups)

pub loop-i-preserved : goal.loop-i-preserved
loop-i-preserved c =
    let groups = c.args.measurement.now.groups in
    let now = c.loop-i.measurement.groups in
    let i = c.loop-i.i in
    let w = c.loop-i.draft in
    let rest = c.loop-i.invariant.rest in
    let below : i < length groups = omega (arith, c.loop-i-test.true, c.groups-count.ensures) in
    let d = some_measure groups (omega (arith, below)) in
    let m = get_or now i d in
    let is : (e : Measure) → m ≡ get_or groups i e = λ e. same_left now groups i d rest ∙ get_or_default groups i d e below in
    let placed = c.in_ok-place_next.ensures.placed d
    ∙ ap (λ (n : ℕ). w ++ part_blocks (length w) (next_if (nat_lt (i + 1) n) (past_part (length w) m.part)) m.part m.count) c.groups-count.ensures in
    record {
      placed = measure_placed c.args.draft.now w c.place_next.new.draft groups i m.part m.count below
          (λ e. ap (λ (one : Measure). one.part) (is e)) (λ e. ap (λ (one : Measure). one.count) (is e)) placed c.loop-i.invariant.placed;
      fit = fit_more groups i m.count below (λ e. ap (λ (one : Measure). one.count) (is e)) (c.in_ok-place_next.ensures.fits d) c.loop-i.invariant.fit;
      rest = c.place_next.ensures.rest
          ∙ sym (drop-drop 1 i now)
          ∙ ap (drop 1) rest
          ∙ drop-drop 1 i groups;
    }

pub returns-clause-placed : goal.returns-clause-placed
returns-clause-placed c =
    no_measures c.loop-i.draft c.args.measurement.now.groups c.loop-i.i (omega (arith, c.loop-i-test.false, c.groups-count.ensures))
    ∙ c.loop-i.invariant.placed

pub returns-clause-fit : goal.returns-clause-fit
returns-clause-fit c =
    fit_all c.args.measurement.now.groups c.loop-i.i (omega (arith, c.loop-i-test.false, c.groups-count.ensures)) c.loop-i.invariant.fit
