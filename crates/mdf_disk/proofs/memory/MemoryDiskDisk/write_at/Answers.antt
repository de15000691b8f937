use Rattle.std.proofs.Common.{◌≡◌, ◌++◌, ◌∷◌, [], Some, true, false, sym, refl, ap, ◌∙◌}
use Rattle.mdf_num.specs.declared.failure.Failed.{Failed}
use Rattle.mdf_disk.specs.declared.call.Call.TheVariants.{Refused, Write}
use Rattle.mdf_disk.proofs.Tapes.{write_failed, write_done, write_puts, clock_rises}
use Rattle.mdf_disk.proofs.memory.MemoryDiskDisk.write_at.Goals as goal

pub returns-then-not-may-clause-story : goal.returns-then-not-may-clause-story
returns-then-not-may-clause-story c =
    let disk = c.args.self.now in
    let calls : c.log-2.new.tape ≡ disk.tape ++ Write c.args.at c.args.bytes.now false ∷ [] =
    c.in_ok-log-2.ensures.ok
    ∙ ap (λ done. disk.tape ++ Write c.args.at c.in-Ok.bytes done ∷ []) c.if-not-may.true
    ∙ ap (λ bytes. disk.tape ++ Write c.args.at bytes false ∷ []) c.in-Ok.ensures in
    rw calls (write_failed c.fail-then-not-may.result disk.file disk.tape c.args.at c.args.bytes.now disk.possible)

pub returns-then-not-may-clause-stays : goal.returns-then-not-may-clause-stays
returns-then-not-may-clause-stays c =
    let disk = c.args.self.now in
    record { asked_is = refl; attached_is = refl; later = clock_rises disk.tape c.log-2.new.tape _ c.in_ok-log-2.ensures.ok }

pub returns-clause-story : goal.returns-clause-story
returns-clause-story c =
    let disk = c.args.self.now in
    let calls : c.log-2.new.tape ≡ disk.tape ++ Write c.args.at c.args.bytes.now true ∷ [] =
    c.in_ok-log-2.ensures.ok
    ∙ ap (λ done. disk.tape ++ Write c.args.at c.in-Ok.bytes done ∷ []) c.if-not-may.false
    ∙ ap (λ bytes. disk.tape ++ Write c.args.at bytes true ∷ []) c.in-Ok.ensures in
    rw calls (write_done Failed disk.file disk.tape c.args.at c.args.bytes.now)

pub returns-clause-stays : goal.returns-clause-stays
returns-clause-stays c =
    let disk = c.args.self.now in
    record { asked_is = refl; attached_is = refl; later = clock_rises disk.tape c.log-2.new.tape _ c.in_ok-log-2.ensures.ok }

pub returns-clause-content : goal.returns-clause-content
returns-clause-content c =
    let disk = c.args.self.now in
    let calls : c.log-2.new.tape ≡ disk.tape ++ Write c.args.at c.args.bytes.now true ∷ [] =
    c.in_ok-log-2.ensures.ok
    ∙ ap (λ done. disk.tape ++ Write c.args.at c.in-Ok.bytes done ∷ []) c.if-not-may.false
    ∙ ap (λ bytes. disk.tape ++ Write c.args.at bytes true ∷ []) c.in-Ok.ensures in
    rw calls (ap Some (write_puts disk.file disk.tape c.args.at c.args.bytes.now (sym c.is_some.ensures ∙ c.if-is_some.false)))

pub returns-then-is_some-clause-stays : goal.returns-then-is_some-clause-stays
returns-then-is_some-clause-stays c =
    let disk = c.args.self.now in
    record { asked_is = refl; attached_is = refl; later = clock_rises disk.tape c.log.new.tape Refused c.in_ok-log.ensures.ok }
