use Rattle.std.proofs.Common.{ap, arith}
use Rattle.std.proofs.lemmas.List.Sums.{sum_by_more_le}
use Rattle.mdf_layout.specs.Record.{encoded_size}
use Rattle.book_owned.proofs.front.size_of.Goals as goal

pub overflow_add-size : goal.overflow_add-size
overflow_add-size c =
    let size = encoded_size c.args.shapes.now in
    let one = sum_by_more_le size c.args.samples.now c.loop-sample.sample-index c.sample-item.result c.loop-sample-test.true in
    omega (arith, c.loop-sample.invariant, one, ap size c.sample-item.is, c.encoded_size-size.ensures, c.requires.few)
