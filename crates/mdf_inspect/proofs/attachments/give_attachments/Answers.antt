use Rattle.std.proofs.Common.{◌+◌, ◌++◌, suc, take, drop, sym, ◌∙◌, ap, subst, arith}
use Rattle.std.proofs.lemmas.List.{take_all}
use Rattle.std.specs.Io.KnownBytes.{Appends}
use Rattle.std.proofs.lemmas.Result.{err_from_is_err_and}
use Rattle.mdf_port.proofs.Streams.{appends_more, appends_none}
use Rattle.mdf_attach.specs.declared.entry.Entry.{Entry}
use Rattle.mdf_command.specs.Texts.{numbered}
use Rattle.mdf_command.proofs.Pieces.{gives_behind, gives_failed, gives_same, numbered_more, numbered_around}
use Rattle.mdf_inspect.specs.Attachments.{attachment_line}
use Rattle.mdf_inspect.proofs.attachments.give_attachments.Goals as goal

pub loop-i-init : goal.loop-i-init
loop-i-init g c = record { given = appends_none (g.K.Sink.held c.args.sink.now); later = omega arith }

pub returns-in_err-give_attachment : goal.returns-in_err-give_attachment
returns-in_err-give_attachment g c =
    let xs = c.args.rows.now in
    let i = c.loop-i.i in
    let row = c.index-rows-i.result in
    let within = c.loop-i-test.true in
    let p = err_from_is_err_and c.from_residual.result c.from_residual.ensures.1 in
    let rest = numbered attachment_line (0 + suc i) (drop (suc i) xs) in
    let here = gives_failed (attachment_line i row) rest _ _ _ _ c.in_err-give_attachment.ensures in
    let all = ap (λ (one : Entry). numbered attachment_line 0 (take i xs) ++ (attachment_line i one ++ rest)) c.index-rows-i.is
    ∙ sym (numbered_around attachment_line xs i row within) in
    rw (p.1) (gives_same _ _ _ _ _ all (gives_behind _ _ _ _ _ _ c.loop-i.invariant.given c.loop-i.invariant.later here))

pub loop-i-preserved : goal.loop-i-preserved
loop-i-preserved g c =
    let xs = c.args.rows.now in
    let i = c.loop-i.i in
    let row = c.index-rows-i.result in
    let within = c.loop-i-test.true in
    let all = ap (λ (one : Entry). numbered attachment_line 0 (take i xs) ++ attachment_line i one) c.index-rows-i.is
    ∙ sym (numbered_more attachment_line xs i row within) in record {
      given = subst (Appends _ _) all (appends_more _ _ _ _ _ c.loop-i.invariant.given c.in_ok-give_attachment.ensures.ok);
      later = omega (arith, c.loop-i.invariant.later, c.give_attachment.ensures.cause.later);
    }

pub returns : goal.returns
returns g c =
    let xs = c.args.rows.now in record {
      ok = subst (λ ys. Appends (g.K.Sink.held c.args.sink.now) (g.K.Sink.held c.loop-i.sink) (numbered attachment_line 0 ys))
          (take_all c.loop-i.i xs c.loop-i-test.false) c.loop-i.invariant.given;
      err = tt;
      cause = record { later = c.loop-i.invariant.later; failed = tt };
    }
