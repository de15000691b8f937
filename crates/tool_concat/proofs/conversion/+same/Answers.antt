use borrow.Author.Count.{below_more}
use Rattle.std.proofs.Common.{◌≡◌, ℕ, List, false, get_or, refl, ap, arith}
use Rattle.std.proofs.lemmas.Bool.{both_ways}
use Rattle.std.proofs.lemmas.List.{same_lists}
use Rattle.mdf_conv.specs.declared.row.Ref.{Ref}
use Rattle.tool_concat.proofs.Steps.{at_place, of_place}
use Rattle.tool_concat.proofs.conversion.+same.Goals as goal

pub same_refs-returns-then-not-same_ref : goal.same_refs-returns-then-not-same_ref
same_refs-returns-then-not-same_ref t c = (
  λ wrong. absurd (both_ways false refl wrong),
  λ same.
      let x = c.index-one-k.result in
      absurd (both_ways c.same_ref.result c.if-not-same_ref.true (c.same_ref.ensures.1
      (of_place (◌≡◌ {A = Ref}) c.args.one.now c.args.other.now c.loop-k.k x c.index-other-k.result x (omega (arith, c.loop-k-test.true))
      (omega (arith, c.loop-k-test.true, c.if-one-other.false)) c.index-one-k.is c.index-other-k.is (ap (λ (refs : List Ref). get_or refs c.loop-k.k x) same)))),
)

pub same_refs-loop-k-preserved : goal.same_refs-loop-k-preserved
same_refs-loop-k-preserved t c = λ j d within.
    let one = c.args.one.now in
    let other = c.args.other.now in
    let k = c.loop-k.k in
    below_more (λ (i : ℕ). (e : Ref) → (◌≡◌ {A = Ref}) (get_or one i e) (get_or other i e)) k (λ i below e. c.loop-k.invariant i e below)
    (λ e. at_place (◌≡◌ {A = Ref}) one other k c.index-one-k.result c.index-other-k.result e (omega (arith, c.loop-k-test.true))
    (omega (arith, c.loop-k-test.true, c.if-one-other.false)) c.index-one-k.is c.index-other-k.is (c.same_ref.ensures.0 c.if-not-same_ref.false)) j within d

pub same_refs-returns : goal.same_refs-returns
same_refs-returns t c = (
  λ _. same_lists c.args.one.now c.args.other.now (omega (arith, c.if-one-other.false))
      (λ j d below. c.loop-k.invariant j d (omega (arith, below, c.loop-k-test.false))),
  λ _. refl,
)
