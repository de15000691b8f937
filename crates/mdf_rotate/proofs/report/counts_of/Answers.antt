use Rattle.std.proofs.Common.{◌≡◌, ◌+◌, ◌<◌, ap, arith, length}
use Rattle.std.proofs.lemmas.Bool.Decides.{nat_tests}
use Rattle.mdf_rotate.proofs.Counts.{at_most_one, begun_more, none_begun, one_begun, one_of, samples_more}
use Rattle.mdf_rotate.proofs.report.counts_of.Goals as goal
use Rattle.mdf_rotate.proofs.report.counts_of.Goals.{then-not-is_empty, else-not-is_empty}

-- one part more
pub loop-part-preserved : goal.loop-part-preserved
loop-part-preserved g c =
    let parts = c.args.parts.now in
    let i = c.loop-part.part-index in
    let part = c.part-item.result in
    let so_far = c.loop-part.invariant in
    let marks = part.marks.items in
    let rest : c.rest.result.now ≡ marks = c.rest.ensures in
    let one : c.if-not-is_empty.begun ≡ c.loop-part.begun + one_of marks = elim c.if-not-is_empty.branch [
      | then-not-is_empty w ↦
          let some : 0 < length marks = grind (arith, nat_tests, c.is_empty.ensures, w.if-not-is_empty.true, ap length rest) in
          omega (arith, w.begun-is, one_begun marks some)
      | else-not-is_empty w ↦
          let none : length marks ≡ 0 = grind (arith, nat_tests, c.is_empty.ensures, w.if-not-is_empty.false, ap length rest) in
          omega (arith, w.begun-is, none_begun marks none)
    ] in
    record {
      begun = omega (arith, so_far.begun, one, begun_more parts i part c.loop-part-test.true c.part-item.is);
      samples = omega (arith, so_far.samples, c.from-samples.ensures, c.len.ensures, samples_more parts i part c.loop-part-test.true c.part-item.is);
      few = omega (arith, so_far.few, one, at_most_one marks);
      less = omega (arith, so_far.less, c.from-samples.ensures, c.len.type_inv);
    }
