use Rattle.std.proofs.Common.{Err, arith}
use Rattle.std.proofs.lemmas.Result.{err_from_is_err_and}
use Rattle.tool_export.specs.Table.{names_line, sample_lines}
use Rattle.tool_export.proofs.Texts.{cause_behind, gives_behind, gives_failed, sink_stopped}
use Rattle.tool_export.proofs.give.give_table.Goals as goal

pub returns-in_err-give_names-clause-text : goal.returns-in_err-give_names-clause-text
returns-in_err-give_names-clause-text g c = λ f told are.
    let p = err_from_is_err_and c.from_residual.result c.from_residual.ensures.1 in
    let lines = sample_lines (g.L.SampleList.sample c.args.list.now f) (g.L.SampleList.count c.args.list.now) in
    rw (p.1, p.2) (gives_failed (names_line c.args.channels.now) lines _ _ _ c.in_err-give_names.ensures.text)

pub returns-in_err-give_names-clause-sink : goal.returns-in_err-give_names-clause-sink
returns-in_err-give_names-clause-sink g c =
    let p = err_from_is_err_and c.from_residual.result c.from_residual.ensures.1 in
    rw (p.1, p.2) c.in_err-give_names.ensures.sink

pub returns-in_err-give_names-clause-cause : goal.returns-in_err-give_names-clause-cause
returns-in_err-give_names-clause-cause g c =
    let p = err_from_is_err_and c.from_residual.result c.from_residual.ensures.1 in
    rw (p.1, p.2) (sink_stopped _ _ (Err c.in_err-give_names.field-0.0) (omega arith) c.in_err-give_names.ensures.here)

pub returns-clause-text : goal.returns-clause-text
returns-clause-text g c = λ f told are.
    let lines = sample_lines (g.L.SampleList.sample c.args.list.now f) (g.L.SampleList.count c.args.list.now) in
    gives_behind (names_line c.args.channels.now) lines _ _ _ _ c.in_ok-give_names.ensures.text.ok (c.give_samples.ensures.text f told are)

pub returns-clause-sink : goal.returns-clause-sink
returns-clause-sink g c = cause_behind _ _ _ _ c.in_ok-give_names.ensures.sink.reason c.give_samples.ensures.sink
