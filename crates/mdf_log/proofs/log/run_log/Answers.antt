use Rattle.std.proofs.Common.{inl, refl, subst, sym, ap}
use Rattle.mdf_port.specs.State.{source_state}
use Rattle.mdf_log.specs.Setup.{SaysSetup}
use Rattle.mdf_log.specs.Tap.{tap_states}
use Rattle.mdf_log.proofs.Starting.{runs_as}
use Rattle.mdf_log.proofs.Whole.{unbegun_runs}
use Rattle.mdf_log.proofs.log.run_log.Goals as goal

pub returns-in-Ok : goal.returns-in-Ok
returns-in-Ok g c = runs_as _ _ _ _ (λ plan is. subst (SaysSetup (source_state g.P.Source c.args.setup.now) (source_state g.P.Source c.read_setup.new.source)) (sym is) c.in-Ok.ensures.says)
    (λ problem is. absurd is) _ _ _ _ _ _ _ _ _ c.log_plan.ensures

pub returns-in-Err : goal.returns-in-Err
returns-in-Err g c =
    let k = c.unbegun.ensures in
    unbegun_runs _ _ _ _ _ _ _ _ _ _ _ _ k.end (record { comes = inl c.in-Err.ensures.fault; none = refl; same = inl (ap (λ taps. tap_states g.S.Source g.K.Sink taps.items) k.taps) })
    (g.met.D.Disks.serves_none _) k.printed
