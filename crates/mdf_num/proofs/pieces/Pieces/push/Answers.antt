use Rattle.std.proofs.Common.{◌++◌, ℕ, List, length, ◌∙◌, ap, arith}
use Rattle.std.specs.List.{concat}
use Rattle.mdf_num.proofs.Joins.{concat-push, length-concat-push}
use Rattle.mdf_num.proofs.pieces.Pieces.push.Goals as goal

pub invariant_of-self-2 : goal.invariant_of-self-2
invariant_of-self-2 c =
    let pieces = c.self.inside.items.items in
    let piece = c.args.piece in
    rw c.in_ok-push.ensures.items (
      omega (
        arith,
        c.self.invariant.0,
        ap (λ (bytes : List ℕ). length bytes) c.as_slice.ensures,
        length-concat-push pieces piece,
      ),
      omega (arith, c.if-count-ge-TOO_LONG.false),
    )

pub returns-clause-ok : goal.returns-clause-ok
returns-clause-ok c =
    ap (λ (pieces : List (List ℕ)). concat pieces) c.in_ok-push.ensures.items
    ∙ concat-push c.self.inside.items.items c.args.piece
    ∙ ap (λ (bytes : List ℕ). bytes ++ c.args.piece) c.self.view_is
