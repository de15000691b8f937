use Rattle.std.proofs.Common.{◌≡◌, ◌≤◌, ◌+◌, ℕ, List, ◌++◌, Err, refl, ◌∙◌, ap, arith, append_assoc}
use Rattle.std.proofs.lemmas.Result.{err_from_is_err_and}
use Rattle.mdf_port.specs.State.{sink_state}
use Rattle.mdf_port.proofs.Streams.{appends_more, appends_none}
use Rattle.tool_export.specs.Table.{sample_lines}
use Rattle.tool_export.proofs.Texts.{cause_behind, gives_behind, gives_failed, gives_none, lines_behind, lines_given, sink_stopped, span_stopped}
use Rattle.tool_export.proofs.give.give_samples.Goals as goal

pub loop-index-init : goal.loop-index-init
unfolding sample_lines
loop-index-init g c = record {
  given = λ f told are. appends_none (g.K.Sink.held c.args.sink.now);
  stays = refl;
  within = omega arith;
  same = refl;
  size = refl;
  later = omega arith;
}

pub returns-in_err-lines-clause-text : goal.returns-in_err-lines-clause-text
returns-in_err-lines-clause-text g c = λ f told are.
    let sample = g.L.SampleList.sample c.args.list.now f in
    let count = g.L.SampleList.count c.args.list.now in
    let i = c.loop-index.index in
    let found = lines_behind sample i count (omega (arith, c.loop-index.invariant.within, c.count-count.ensures)) in
    let p = err_from_is_err_and c.from_residual.result c.from_residual.ensures.1 in
    rw (p.1, found.1) (gives_behind (sample_lines sample i) found.0 (sink_state g.K.Sink c.args.sink.now) _ _ _ (c.loop-index.invariant.given f told are)
    (gives_none found.0 (sink_state g.K.Sink c.loop-index.sink) _))

pub returns-in_err-lines-clause-sink : goal.returns-in_err-lines-clause-sink
returns-in_err-lines-clause-sink g c =
    let p = err_from_is_err_and c.from_residual.result c.from_residual.ensures.1 in
    rw (p.1, p.2) (span_stopped _ _ c.in_err-lines.field-0.0 c.loop-index.invariant.stays)

pub returns-in_err-give_text-clause-text : goal.returns-in_err-give_text-clause-text
returns-in_err-give_text-clause-text g c = λ f told are.
    let sample = g.L.SampleList.sample c.args.list.now f in
    let count = g.L.SampleList.count c.args.list.now in
    let i = c.loop-index.index in
    let to = i + c.min.result in
    let text = c.as_slice.result.now in
    let before = sample_lines sample i in
    let within : to ≤ count = omega (arith, c.loop-index.invariant.within, c.count-count.ensures, c.min.ensures) in
    let found = lines_behind sample to count within in
    let lines = lines_given before _ text (sample_lines sample to) (c.in_ok-lines.ensures.lines f (c.loop-index.invariant.same ∙ told) are) c.as_slice.ensures.value in
    let whole : sample_lines sample count ≡ before ++ (text ++ found.0) =
    found.1 ∙ ap (λ (front : List ℕ). front ++ found.0) lines ∙ append_assoc before text found.0 in
    let p = err_from_is_err_and c.from_residual-in_err-give_text.result c.from_residual-in_err-give_text.ensures.1 in
    rw (p.1, p.2, whole) (gives_behind before _ (sink_state g.K.Sink c.args.sink.now) _ _ _ (c.loop-index.invariant.given f told are)
    (gives_failed text found.0 _ _ _ c.in_err-give_text.ensures.text))

pub returns-in_err-give_text-clause-sink : goal.returns-in_err-give_text-clause-sink
returns-in_err-give_text-clause-sink g c =
    let p = err_from_is_err_and c.from_residual-in_err-give_text.result c.from_residual-in_err-give_text.ensures.1 in
    rw (p.1, p.2) (cause_behind _ _ _ _ c.loop-index.invariant.stays c.in_err-give_text.ensures.sink)

pub returns-in_err-give_text-clause-cause : goal.returns-in_err-give_text-clause-cause
returns-in_err-give_text-clause-cause g c =
    let p = err_from_is_err_and c.from_residual-in_err-give_text.result c.from_residual-in_err-give_text.ensures.1 in
    rw (p.1, p.2) (sink_stopped _ _ (Err c.in_err-give_text.field-0.0) (omega (arith, c.loop-index.invariant.later, c.in_ok-lines.ensures.cause.later)) c.in_err-give_text.ensures.here)

pub loop-index-preserved : goal.loop-index-preserved
loop-index-preserved g c =
    let i = c.loop-index.index in
    let to = i + c.min.result in
    let text = c.as_slice.result.now in
    record {
      given = λ f told are.
          let sample = g.L.SampleList.sample c.args.list.now f in
          let before = sample_lines sample i in
          rw (lines_given before _ text (sample_lines sample to) (c.in_ok-lines.ensures.lines f (c.loop-index.invariant.same ∙ told) are) c.as_slice.ensures.value)
          (appends_more _ _ _ before text (c.loop-index.invariant.given f told are) c.in_ok-give_text.ensures.text.ok);
      stays = c.in_ok-give_text.ensures.sink.reason ∙ c.loop-index.invariant.stays;
      within = omega (arith, c.loop-index.invariant.within, c.count-count.ensures, c.min.ensures);
      same = c.in_ok-lines.ensures.same ∙ c.loop-index.invariant.same;
      size = c.in_ok-lines.ensures.size ∙ c.loop-index.invariant.size;
      later = omega (arith, c.loop-index.invariant.later, c.in_ok-lines.ensures.cause.later);
    }
