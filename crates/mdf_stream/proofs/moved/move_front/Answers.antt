use Rattle.std.proofs.Common.{refl, arith}
use Rattle.mdf_stream.proofs.Moves.{goes_on}
use Rattle.mdf_stream.proofs.moved.move_front.Goals as goal

pub loop-at-init : goal.loop-at-init
loop-at-init c = record {
  moves = record { front = refl; rest = refl; len = refl };
  within = omega arith;
}

pub loop-at-preserved : goal.loop-at-preserved
loop-at-preserved c =
    let loop = c.loop-at in
    let piece = c.move_part-at in record {
      moves = goes_on c.args.bytes.now c.args.view.now c.requires.inside c.requires.behind loop.at piece.result loop.bytes piece.new.bytes
          piece.ensures.front piece.ensures.rest piece.ensures.len loop.invariant.moves;
      within = omega (arith, piece.ensures.most, loop.invariant.within);
    }
