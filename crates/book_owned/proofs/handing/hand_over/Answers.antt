use Rattle.std.proofs.Common.{◌∙◌, sym, subst, refl}
use Rattle.std.proofs.lemmas.Bool.{false≢true}
use Rattle.book_owned.specs.FrontHalf.{HandTells, IsFront, front_account}
use Rattle.book_owned.specs.declared.handed.Handed.TheVariants as handed
use Rattle.book_owned.proofs.Fronts.{front_handed, handed_tells}
use Rattle.book_owned.proofs.Turning.{all_handed}
use Rattle.book_owned.proofs.handing.hand_over.Goals as goal

pub returns-then-is_empty-clause-tells : goal.returns-then-is_empty-clause-tells
returns-then-is_empty-clause-tells g c =
    let front = c.requires.front in (
      c.if-front.false,
      refl,
      all_handed c.args.front.now front.pending front.steady.within c.if-front.false (c.if-is_empty.ensures.0 refl),
      front.steady.settled c.requires.spare c.if-front.false,
    )

pub returns-clause-front : goal.returns-clause-front
returns-clause-front g c =
    let old = c.args.front.now in
    subst (λ spare. IsFront g.V.Shown (record old { block = c.replace-block.new.dest; spare = spare; from = c.len-through.result })) (sym c.take.ensures.after)
    (front_handed g.V.Shown old c.requires.front c.in-Some.spare c.replace-block.new.dest c.len-through.result
    (sym c.take.ensures.value ∙ c.in-Some.is) c.replace-block.ensures.after c.if-front.false (λ none. absurd (false≢true (c.if-is_empty.ensures.1 none))) c.len-through.ensures)

pub returns-clause-tells : goal.returns-clause-tells
returns-clause-tells g c =
    let old = c.args.front.now in
    subst (λ b. HandTells (front_account g.V.Shown old)
    (front_account g.V.Shown (record old { block = c.replace-block.new.dest; spare = c.take.new.self; from = c.len-through.result }))
    (handed.Given c.len-through.result b)) (sym c.replace-block.ensures.value)
    (subst (λ spare. HandTells (front_account g.V.Shown old)
    (front_account g.V.Shown (record old { block = c.replace-block.new.dest; spare = spare; from = c.len-through.result }))
    (handed.Given c.len-through.result old.block)) (sym c.take.ensures.after)
    (handed_tells g.V.Shown old c.requires.front c.in-Some.spare c.replace-block.new.dest c.len-through.result
    (sym c.take.ensures.value ∙ c.in-Some.is) c.replace-block.ensures.after c.if-front.false (λ none. absurd (false≢true (c.if-is_empty.ensures.1 none))) c.len-through.ensures))
