use borrow.Author.Count.{below_more}
use Rattle.std.proofs.Common.{get_or, refl, subst}
use Rattle.std.proofs.lemmas.List.{get_or_default}
use Rattle.mdf_layout.specs.Written.{IsApart}
use Rattle.mdf_layout.proofs.fitting.is_apart_from.Goals as goal

pub loop-other-preserved : goal.loop-other-preserved
loop-other-preserved c = λ k d within.
    below_more (λ i. IsApart c.args.row (get_or c.args.others.now i d)) c.loop-other.other-index
    (λ i below. c.loop-other.invariant i d below)
    (subst (IsApart c.args.row) (get_or_default c.args.others.now c.loop-other.other-index _ d c.loop-other-test.true) (c.if-not-is_apart.ensures.0 refl))
    k within
