use Rattle.std.proofs.Common.{sym, subst, arith, drop, ◌+◌}
use Rattle.std.proofs.lemmas.List.{take_all}
use Rattle.std.specs.Io.KnownBytes.{Appends}
use Rattle.std.proofs.lemmas.Result.{err_from_is_err_and}
use Rattle.mdf_port.proofs.Streams.{appends_more, appends_none}
use Rattle.mdf_command.specs.Texts.{pieces_text}
use Rattle.mdf_command.proofs.Pieces.{gives_behind, gives_failed, gives_same, pieces_more, pieces_around}
use Rattle.mdf_command.proofs.report.give_pieces.Goals as goal

pub loop-piece-init : goal.loop-piece-init
loop-piece-init g c = record { given = appends_none (g.K.Sink.held c.args.sink.now); later = omega arith }

pub returns-in_err-give_piece : goal.returns-in_err-give_piece
returns-in_err-give_piece g c =
    let p = err_from_is_err_and c.from_residual.result c.from_residual.ensures.1 in
    let here = gives_failed _ (pieces_text (drop (c.loop-piece.piece-index + 1) c.args.pieces.now)) _ _ _ _ (c.in_err-give_piece.ensures) in
    rw (p.1) (gives_same _ _ _ _ _ (sym (pieces_around c.args.pieces.now c.loop-piece.piece-index _ c.loop-piece-test.true))
    (gives_behind _ _ _ _ _ _ c.loop-piece.invariant.given c.loop-piece.invariant.later here))

pub loop-piece-preserved : goal.loop-piece-preserved
loop-piece-preserved g c = record {
  given = subst (Appends _ _) (sym (pieces_more c.args.pieces.now c.loop-piece.piece-index _ c.loop-piece-test.true))
      (appends_more _ _ _ _ _ c.loop-piece.invariant.given (c.in_ok-give_piece.ensures.ok));
  later = omega (arith, c.loop-piece.invariant.later, c.give_piece.ensures.cause.later);
}

pub returns : goal.returns
returns g c = record {
  ok = subst (λ pieces. Appends (g.K.Sink.held c.args.sink.now) (g.K.Sink.held c.loop-piece.sink) (pieces_text pieces)) (take_all c.loop-piece.piece-index c.args.pieces.now c.loop-piece-test.false) c.loop-piece.invariant.given;
  err = tt;
  cause = record { later = c.loop-piece.invariant.later; failed = tt };
}
