use Rattle.std.proofs.Common.{List, ℕ, ◌++◌, ◌∙◌, ap}
use Rattle.mdf_num.proofs.Joins.{concat-take}
use Rattle.mdf_num.proofs.pieces.Pieces.joined.Goals as goal

pub loop-piece-preserved : goal.loop-piece-preserved
loop-piece-preserved c =
    let before = c.loop-piece.bytes in
    c.in_ok-push_slice.ensures.ok
    ∙ ap (λ (piece : List ℕ). before ++ piece) c.as_slice.ensures
    ∙ ap (λ (bytes : List ℕ). bytes ++ c.piece-item.result) c.loop-piece.invariant
    ∙ concat-take c.as_slice-piece-items.result.now c.loop-piece.piece-index c.piece-item.result c.loop-piece-test.true c.piece-item.is
