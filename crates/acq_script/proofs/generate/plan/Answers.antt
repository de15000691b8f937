use Rattle.std.proofs.Common.{◌≡◌, ℕ, List, Ok, Err, ap, subst}
use Rattle.acq_script.specs.Script.{FaultIs, script_of}
use Rattle.acq_script.specs.declared.fault.ScriptFault.{ScriptFault}
use Rattle.acq_script.specs.declared.fault.ScriptFault.TheVariants.{Line}
use Rattle.acq_script.specs.declared.script.Script.{Script}
use Rattle.acq_script.proofs.PlanText.{plan_read, plan_text}
use Rattle.acq_script.proofs.generate.plan.Goals as goal

-- one text is one script, and no line of it is refused
same_script : (text : List ℕ) (script other : Script) → script_of text ≡ Ok script → script_of text ≡ Ok other → script ≡ other
same_script text script other is also = cc

not_refused : (text : List ℕ) (script : Script) (fault : ScriptFault) (line : ℕ) → script_of text ≡ Ok script → fault ≡ Line line → FaultIs fault (script_of text) → ⊥
not_refused text script fault line is fault_is refused = wrong (subst (λ f. FaultIs f (script_of text)) fault_is refused) where
  wrong : script_of text ≡ Err line → ⊥
  wrong refused = absurd (cc)

pub unreachable-requires : goal.unreachable-requires
unreachable-requires c = not_refused plan_text _ _ _ plan_read c.in-Err-Line.field-0-is c.in-Err-Line.ensures.found

pub returns-in-Ok-clause-plan : goal.returns-in-Ok-clause-plan
returns-in-Ok-clause-plan c = ap (λ (s : Script). s.plan) (same_script plan_text _ _ c.in-Ok.ensures.found plan_read)
