use Rattle.std.proofs.Common.{List, ℕ, length, ◌∙◌, ap, subst, sym, arith}
use Rattle.std.proofs.lemmas.Result.{IfOk-weaker}
use Rattle.mdf_block.specs.Draft.{Placed, end_of, written, AllStand}
use Rattle.mdf_block.proofs.Laid.{laid_end}
use Rattle.mdf_block.proofs.Laying.{length-written}
use Rattle.mdf_block.proofs.Standing.{all_stand}
use Rattle.mdf_block.proofs.draft.Draft.into_pieces.Goals as goal

pub returns-clause-len : goal.returns-clause-len
returns-clause-len c =
    let view = c.self.view_is in
    IfOk-weaker c.pieces_of.result _ _
    (λ bytes is. ap (λ (xs : List ℕ). length xs) is ∙ length-written c.args.ident.now _ c.told-ident ∙ ap end_of view)
    c.pieces_of.ensures

pub returns-clause-stand : goal.returns-clause-stand
returns-clause-stand c =
    let view = c.self.view_is in
    let end = laid_end 64 c.self.inside.items.items c.self.inside.end c.self.invariant.0 ∙ ap end_of c.self.view_is in
    IfOk-weaker c.pieces_of.result _ _
    (λ bytes is.
    let same = is ∙ ap (λ (blocks : List Placed). written c.args.ident.now blocks) view in
    subst (λ (xs : List ℕ). AllStand xs c.args.self) (sym same)
    (all_stand c.args.ident.now c.args.self c.told-ident (omega (arith, end, c.self.invariant.1))))
    c.pieces_of.ensures
