use Rattle.std.proofs.Common.{◌+◌, ◌++◌, ◌∙◌, ap, suc, sym, subst, arith, drop, get_or, take}
use Rattle.std.proofs.lemmas.List.{take_all}
use Rattle.std.specs.Io.KnownBytes.{Appends}
use Rattle.std.proofs.lemmas.Result.{err_from_is_err_and}
use Rattle.mdf_port.proofs.Streams.{appends_more, appends_none}
use Rattle.mdf_command.specs.Texts.{numbered}
use Rattle.mdf_command.proofs.Pieces.{gives_behind, gives_failed, gives_same, numbered_more, numbered_around}
use Rattle.mdf_rotate.proofs.Lines.{numbered_records, part_text}
use Rattle.mdf_rotate.proofs.report.give_parts.Goals as goal

pub loop-number-init : goal.loop-number-init
loop-number-init g c = record { given = appends_none (g.K.Sink.held c.args.sink.now); later = omega arith }

pub returns-in_err-give_part : goal.returns-in_err-give_part
returns-in_err-give_part g c =
    let xs = c.args.parts.now in
    let i = c.loop-number.number in
    let d = c.index-parts-number.result in
    let p = err_from_is_err_and c.from_residual.result c.from_residual.ensures.1 in
    let one = gives_same (part_text i d) (part_text i (get_or xs i d)) _ _ _ (ap (part_text i) c.index-parts-number.is) c.in_err-give_part.ensures in
    let here = gives_failed _ (numbered part_text (0 + suc i) (drop (suc i) xs)) _ _ _ _ one in
    rw (p.1) (gives_same _ _ _ _ _ (sym (numbered_around part_text xs i d c.loop-number-test.true) ∙ numbered_records 0 xs)
    (gives_behind _ _ _ _ _ _ c.loop-number.invariant.given c.loop-number.invariant.later here))

pub loop-number-preserved : goal.loop-number-preserved
loop-number-preserved g c =
    let xs = c.args.parts.now in
    let i = c.loop-number.number in
    let d = c.index-parts-number.result in
    record {
      given = subst (Appends _ _) (sym (numbered_more part_text xs i d c.loop-number-test.true ∙ ap (λ part. numbered part_text 0 (take i xs) ++ part_text i part) (sym c.index-parts-number.is)))
          (appends_more _ _ _ _ _ c.loop-number.invariant.given (c.in_ok-give_part.ensures.ok));
      later = omega (arith, c.loop-number.invariant.later, c.give_part.ensures.cause.later);
    }

pub returns : goal.returns
returns g c =
    let xs = c.args.parts.now in
    record {
      ok = subst (Appends (g.K.Sink.held c.args.sink.now) (g.K.Sink.held c.loop-number.sink))
          (ap (numbered part_text 0) (take_all c.loop-number.number xs (omega (arith, c.loop-number-test.false))) ∙ numbered_records 0 xs) c.loop-number.invariant.given;
      err = tt;
      cause = record { later = c.loop-number.invariant.later; failed = tt };
    }
