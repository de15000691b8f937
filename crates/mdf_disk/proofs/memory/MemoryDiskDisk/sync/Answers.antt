use Rattle.std.proofs.Common.{◌≡◌, ◌++◌, ◌∷◌, [], Some, true, false, refl, ap, ◌∙◌}
use Rattle.mdf_num.specs.declared.failure.Failed.{Failed}
use Rattle.mdf_disk.specs.declared.call.Call.TheVariants.{Sync}
use Rattle.mdf_disk.proofs.Tapes.{sync_failed, sync_done, sync_keeps, clock_rises}
use Rattle.mdf_disk.proofs.memory.MemoryDiskDisk.sync.Goals as goal

pub returns-then-not-may-clause-story : goal.returns-then-not-may-clause-story
returns-then-not-may-clause-story c =
    let disk = c.args.self.now in
    let calls : c.log.new.tape ≡ disk.tape ++ Sync false ∷ [] =
    c.in_ok-log.ensures.ok ∙ ap (λ done. disk.tape ++ Sync done ∷ []) c.if-not-may.true in
    rw calls (sync_failed c.fail.result disk.file disk.tape disk.possible)

pub returns-then-not-may-clause-stays : goal.returns-then-not-may-clause-stays
returns-then-not-may-clause-stays c =
    let disk = c.args.self.now in
    record { asked_is = refl; attached_is = refl; later = clock_rises disk.tape c.log.new.tape (Sync c.call-may.result) c.in_ok-log.ensures.ok }

pub returns-clause-content : goal.returns-clause-content
returns-clause-content c =
    let disk = c.args.self.now in
    let calls : c.log.new.tape ≡ disk.tape ++ Sync true ∷ [] =
    c.in_ok-log.ensures.ok ∙ ap (λ done. disk.tape ++ Sync done ∷ []) c.if-not-may.false in
    rw calls (ap Some (sync_keeps disk.file disk.tape))

pub returns-clause-story : goal.returns-clause-story
returns-clause-story c =
    let disk = c.args.self.now in
    let calls : c.log.new.tape ≡ disk.tape ++ Sync true ∷ [] =
    c.in_ok-log.ensures.ok ∙ ap (λ done. disk.tape ++ Sync done ∷ []) c.if-not-may.false in
    rw calls (sync_done Failed disk.file disk.tape)

pub returns-clause-stays : goal.returns-clause-stays
returns-clause-stays c =
    let disk = c.args.self.now in
    record { asked_is = refl; attached_is = refl; later = clock_rises disk.tape c.log.new.tape (Sync c.call-may.result) c.in_ok-log.ensures.ok }
