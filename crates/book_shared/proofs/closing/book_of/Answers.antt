use Rattle.std.proofs.Common.{◌∙◌, Bool, List, false, ap, sym, subst, arith, get_or-set_other}
use Rattle.std.specs.Bool.{IsTrue}
use Rattle.std.specs.Prelude.{slice_index_or, slice_set}
use mathlib.Core.Option.{some-injective}
use lib.ListN.{get_elem?}
use Rattle.book_shared.specs.declared.half.Half.TheVariants.{TheFront, TheBack}
use Rattle.book_shared.proofs.Covering.{both_taken}
use Rattle.book_shared.proofs.closing.book_of.Goals as goal

pub take-requires : goal.take-requires
take-requires g c = (omega (arith, c.requires.count), c.requires.full 0 (omega arith) (omega (arith, c.requires.count)))

pub front_of-front-requires : goal.front_of-front-requires
front_of-front-requires g c =
    let halves = c.requires.halves in
    (halves.0, some-injective c.take.result (TheFront halves.0) (sym c.take.ensures.value ∙ halves.2))

pub take-requires-2 : goal.take-requires-2
take-requires-2 g c =
    let filled = c.args.closed.slots.filled in
    let taken = c.take.ensures.others in (
      omega (arith, taken.2, c.requires.count),
      subst IsTrue
          (sym (ap (λ (places : List Bool). slice_index_or places 1 false) taken.1 ∙ get_or-set_other filled 0 1 false false (λ is. omega (arith, is))))
          (c.requires.full 1 (omega arith) (omega (arith, c.requires.count))),
    )

pub back_of-back-requires : goal.back_of-back-requires
back_of-back-requires g c =
    let halves = c.requires.halves in (
      halves.1,
      some-injective c.take-2.result (TheBack halves.1)
          (sym c.take-2.ensures.value ∙ ap (λ items. get_elem? items 1) c.take.ensures.others.0 ∙ halves.3),
    )

pub free-requires : goal.free-requires
free-requires g c k less =
    let first = c.take.ensures.others in
    let second = c.take-2.ensures.others in
    ap (λ (places : List Bool). slice_index_or places k false) (second.1 ∙ ap (λ (places : List Bool). slice_set places 1 false) first.1)
    ∙ both_taken c.args.closed.slots.filled (omega (arith, c.args.closed.slots.ok.1, c.requires.count)) k (omega (arith, less, second.2, first.2, c.requires.count))
