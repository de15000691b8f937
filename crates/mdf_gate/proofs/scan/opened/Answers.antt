use Rattle.std.proofs.Common.{◌∙◌, length, ap, subst, rules}
use Rattle.std.proofs.lemmas.Result.{IfErr-weaker, IfOk-weaker}
use Rattle.mdf_block.specs.Refusal.{Refuses}
use Rattle.mdf_format.specs.Form.{form_of}
use Rattle.mdf_gate.specs.Fault.{gate_refusal}
use Rattle.mdf_gate.specs.Recording.{IsRecording}
use Rattle.mdf_gate.specs.Units.{opened_from}
use Rattle.mdf_gate.proofs.Opens.{is_count, stuck_fault, stuck_none}
use Rattle.mdf_gate.proofs.scan.opened.Goals as goal

pub returns-clause-opened : goal.returns-clause-opened
returns-clause-opened c =
    let file = c.args.bytes.now in
    let recording : IsRecording file = search rules in
    IfOk-weaker c.scan.result _ _ (λ count counted. is_count file c.form_of.result c.in_ok-first.first count recording c.form_of.ensures c.in_ok-first.ensures.place counted)
    c.scan.ensures.counted

pub returns-clause-fault : goal.returns-clause-fault
returns-clause-fault c =
    let file = c.args.bytes.now in
    let recording : IsRecording file = search rules in
    let whole = ap (λ f. opened_from f file (length file) c.in_ok-first.first) c.form_of.ensures ∙ ap (opened_from (form_of file) file (length file)) c.in_ok-first.ensures.place in
    IfErr-weaker c.scan.result _ _ (λ fault refused. stuck_fault file fault (subst (Refuses (gate_refusal fault)) whole refused) recording) c.scan.ensures.refused

pub returns-clause-not_opened : goal.returns-clause-not_opened
returns-clause-not_opened c =
    let file = c.args.bytes.now in
    let whole = ap (λ f. opened_from f file (length file) c.in_ok-first.first) c.form_of.ensures ∙ ap (opened_from (form_of file) file (length file)) c.in_ok-first.ensures.place in
    IfErr-weaker c.scan.result _ _ (λ fault refused. stuck_none file fault (subst (Refuses (gate_refusal fault)) whole refused)) c.scan.ensures.refused
