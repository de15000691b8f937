use Rattle.std.proofs.Common.{◌++◌, ◌∙◌, ap, arith, length, length-append, length-take, sym, subst, take}
use mathlib.Core.List.{IsPrefix}
use Rattle.book_view.proofs.Beginnings.{one_more, part_begins}
use Rattle.mdf_gate.proofs.Carrying.{prefix_append}
use Rattle.book_view.proofs.handing.lengthen.Goals as goal

pub add-requires-clause-room : goal.add-requires-clause-room
add-requires-clause-room c =
    let before = c.args.log.now.seen.log in
    let added = take c.loop-sample.sample-index c.args.samples.now in
    omega (
      arith,
      ap length c.loop-sample.invariant.longer,
      length-append before added,
      length-take c.loop-sample.sample-index c.args.samples.now,
      c.loop-sample-test.true,
      c.requires.room,
    )

-- where a sample was not added, those before it were
pub returns-then-not-add-clause-grows : goal.returns-then-not-add-clause-grows
returns-then-not-add-clause-grows c =
    let before = c.args.log.now.seen.log in
    let added = take c.loop-sample.sample-index c.args.samples.now in
    subst (IsPrefix before) (sym (ap (λ front. front.seen.log) c.if-not-add.ensures.added ∙ c.loop-sample.invariant.longer)) (prefix_append before added)

pub returns-then-not-add-clause-within : goal.returns-then-not-add-clause-within
returns-then-not-add-clause-within c =
    let before = c.args.log.now.seen.log in
    subst (λ log. IsPrefix log (before ++ c.args.samples.now)) (sym (ap (λ front. front.seen.log) c.if-not-add.ensures.added ∙ c.loop-sample.invariant.longer))
    (part_begins before c.args.samples.now c.loop-sample.sample-index)

pub loop-sample-preserved : goal.loop-sample-preserved
loop-sample-preserved c = record {
  longer = c.if-not-add.ensures.added
      ∙ one_more c.args.log.now.seen.log c.args.samples.now c.loop-sample.log.seen.log c.loop-sample.sample-index c.sample-item.result c.loop-sample-test.true c.sample-item.is
      c.loop-sample.invariant.longer;
  book = c.add.ensures.book ∙ c.loop-sample.invariant.book;
}
