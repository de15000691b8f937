use Rattle.std.proofs.Common.{arith, sym, ap, subst, ◌≡◌, ◌∙◌, ◌+◌, ◌∷◌, false}
use Rattle.std.proofs.lemmas.Result.{err_from_is_err_and}
use Rattle.script_line.specs.Text.{parts_of, parts_left, bytes_left, is_end}
use Rattle.acq_script.specs.Script.{GivesScript, FaultIs, MayWantFor, WantsFrom, WantsIn, ended, read_from}
use Rattle.script_line.proofs.Parts.{some_part}
use Rattle.acq_script.proofs.Steps.{refused, taken, at_end, wants_here, wants_behind, wants_as}
use Rattle.acq_script.proofs.read.script_of.Goals as goal

pub returns-in_err-after-clause-found : goal.returns-in_err-after-clause-found
returns-in_err-after-clause-found c =
    let p = err_from_is_err_and c.from_residual.result c.from_residual.ensures.1 in
    let loop = c.loop-rest in
    let parts : parts_left 10 loop.rest ≡ parts_of 10 c.in-Some.behind.now = ap (parts_left 10) c.in-Some.is in
    let some : is_end (parts_left 10 loop.rest) ≡ false = ap is_end parts ∙ some_part 10 c.in-Some.behind.now in
    rw (p.1, p.2) (
    subst (FaultIs c.in_err-after.field-0.0) loop.invariant.told
    (refused c.in_err-after.field-0.0 loop.stage loop.line loop.text.now (parts_left 10 loop.rest) some c.in_err-after.ensures.fault)
    )

pub returns-in_err-after-clause-wanted : goal.returns-in_err-after-clause-wanted
returns-in_err-after-clause-wanted c =
    let p = err_from_is_err_and c.from_residual.result c.from_residual.ensures.1 in
    let loop = c.loop-rest in
    let parts : parts_left 10 loop.rest ≡ parts_of 10 c.in-Some.behind.now = ap (parts_left 10) c.in-Some.is in
    let some : is_end (parts_left 10 loop.rest) ≡ false = ap is_end parts ∙ some_part 10 c.in-Some.behind.now in
    rw (p.1, p.2)
    (wants_as (MayWantFor loop.stage loop.text.now) (WantsIn c.args.bytes.now) c.in_err-after.field-0.0
    (λ may. loop.invariant.wants (wants_here loop.stage loop.text.now (parts_left 10 loop.rest) some may)) c.in_err-after.ensures.wanted)

pub loop-rest-preserved : goal.loop-rest-preserved
loop-rest-preserved c =
    let loop = c.loop-rest in
    let changed = c.after.new.stage in
    let parts : parts_left 10 loop.rest ≡ c.cut-in-Some.result.0.now ∷ parts_left 10 c.cut-in-Some.result.1 = ap (parts_left 10) c.in-Some.is ∙ c.cut-in-Some.ensures.parts in
    let some : is_end (parts_left 10 loop.rest) ≡ false = ap is_end parts in
    record {
      told =
          ap (read_from changed (loop.line + 1)) (sym parts)
          ∙ sym (taken loop.stage loop.line loop.text.now (parts_left 10 loop.rest) changed some c.in_ok-after.ensures.found)
          ∙ loop.invariant.told;
      sound = c.in_ok-after.ensures.sound;
      line = omega (arith, ap bytes_left c.in-Some.is, c.cut-in-Some.ensures.shorter, loop.invariant.line);
      wants = λ behind. loop.invariant.wants (wants_behind loop.stage loop.line loop.text.now (parts_left 10 loop.rest) changed some c.in_ok-after.ensures.found
          (subst (WantsFrom changed) (sym parts) behind));
    }

pub returns-clause-found : goal.returns-clause-found
returns-clause-found c =
    let loop = c.loop-rest in
    let last : read_from loop.stage loop.line (loop.text.now ∷ parts_left 10 loop.rest) ≡ ended loop.stage loop.line loop.text.now = ap (λ rest. read_from loop.stage loop.line (loop.text.now ∷ parts_left 10 rest)) c.in_default.is ∙ at_end loop.stage loop.line loop.text.now in
    subst (GivesScript c.ended.result) (sym last ∙ loop.invariant.told) c.ended.ensures.found
