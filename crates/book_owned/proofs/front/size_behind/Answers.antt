use Rattle.std.proofs.Common.{arith, drop}
use Rattle.std.proofs.lemmas.List.Elements.{All-drop}
use Rattle.std.proofs.lemmas.List.Sums.{sum_by-take-drop}
use Rattle.mdf_layout.specs.Record.{SampleFits, encoded_size}
use Rattle.book_owned.proofs.Costs.{history_cost-least, part_counted, part_within}
use Rattle.book_owned.proofs.Keeping.{all-fewer}
use Rattle.book_owned.proofs.front.size_behind.Goals as goal

pub size_of-size-requires-clause-fit : goal.size_of-size-requires-clause-fit
size_of-size-requires-clause-fit g c =
    let front = c.args.front.now in
    let at = c.loop-at.at in
    all-fewer (SampleFits front.shapes) c.part_from-part.result.now (drop at front.history.items) c.part_from-part.ensures.part
    (All-drop (SampleFits front.shapes) at front.history.items c.requires.counted.fit)

pub size_of-size-requires-clause-few : goal.size_of-size-requires-clause-few
size_of-size-requires-clause-few g c =
    let front = c.args.front.now in
    omega (
      arith,
      c.loop-at.invariant.counted,
      part_counted front.history.items c.part_from-part.result.now c.loop-at.at c.part_from-part.ensures.part front.shapes,
      sum_by-take-drop (encoded_size front.shapes) front.history.items c.args.from,
      history_cost-least front.shapes front.history.items,
      c.requires.counted.held,
      c.requires.counted.within,
      c.requires.counted.session,
    )

pub overflow_add-size : goal.overflow_add-size
overflow_add-size g c =
    let front = c.args.front.now in
    omega (
      arith,
      c.loop-at.invariant.counted,
      c.size_of-size.ensures,
      part_counted front.history.items c.part_from-part.result.now c.loop-at.at c.part_from-part.ensures.part front.shapes,
      sum_by-take-drop (encoded_size front.shapes) front.history.items c.args.from,
      history_cost-least front.shapes front.history.items,
      c.requires.counted.held,
      c.requires.counted.within,
      c.requires.counted.session,
    )

pub overflow_add-at : goal.overflow_add-at
overflow_add-at g c =
    let within = part_within c.args.front.now.history.items c.part_from-part.result.now c.loop-at.at c.part_from-part.ensures.part in
    omega (arith, within, c.len-len.ensures, c.len-len.type_inv)

pub loop-at-preserved : goal.loop-at-preserved
loop-at-preserved g c =
    let front = c.args.front.now in
    let part = c.part_from-part.result.now in
    let before = c.loop-at in record {
      within = omega (arith, part_within front.history.items part before.at c.part_from-part.ensures.part);
      counted = omega (arith, before.invariant.counted, c.size_of-size.ensures, part_counted front.history.items part before.at c.part_from-part.ensures.part front.shapes);
    }
