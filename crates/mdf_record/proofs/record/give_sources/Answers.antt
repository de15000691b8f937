use Rattle.std.proofs.Common.{◌+◌, suc, sym, subst, arith, drop}
use Rattle.std.proofs.lemmas.List.{take_all}
use Rattle.std.specs.Io.KnownBytes.{Appends}
use Rattle.std.proofs.lemmas.Result.{err_from_is_err_and}
use Rattle.mdf_port.proofs.Streams.{appends_more, appends_none}
use Rattle.mdf_record.specs.Record.{source_line}
use Rattle.mdf_command.specs.Texts.{numbered}
use Rattle.mdf_command.proofs.Pieces.{gives_behind, gives_failed, gives_same, numbered_more, numbered_around}
use Rattle.mdf_record.proofs.record.give_sources.Goals as goal

pub loop-source-init : goal.loop-source-init
loop-source-init g c = record { given = appends_none (g.K.Sink.held c.args.sink.now); later = omega arith }

pub returns-in_err-give_accepted : goal.returns-in_err-give_accepted
returns-in_err-give_accepted g c =
    let xs = c.args.accepted.now in
    let i = c.loop-source.source in
    let p = err_from_is_err_and c.from_residual.result c.from_residual.ensures.1 in
    let here = gives_failed _ (numbered source_line (0 + suc i) (drop (suc i) xs)) _ _ _ _ (c.in_err-give_accepted.ensures) in
    rw (p.1) (gives_same _ _ _ _ _ (sym (numbered_around source_line xs i _ c.loop-source-test.true))
    (gives_behind _ _ _ _ _ _ c.loop-source.invariant.given c.loop-source.invariant.later here))

pub loop-source-preserved : goal.loop-source-preserved
loop-source-preserved g c = record {
  given = subst (Appends _ _) (sym (numbered_more source_line c.args.accepted.now c.loop-source.source _ c.loop-source-test.true))
      (appends_more _ _ _ _ _ c.loop-source.invariant.given (c.in_ok-give_accepted.ensures.ok));
  later = omega (arith, c.loop-source.invariant.later, c.give_accepted.ensures.cause.later);
}

pub returns : goal.returns
returns g c = record {
  ok = subst (λ xs. Appends (g.K.Sink.held c.args.sink.now) (g.K.Sink.held c.loop-source.sink) (numbered source_line 0 xs)) (take_all c.loop-source.source c.args.accepted.now (omega (arith, c.loop-source-test.false))) c.loop-source.invariant.given;
  err = tt;
  cause = record { later = c.loop-source.invariant.later; failed = tt };
}
