use Rattle.std.proofs.Common.{Some, length, refl, ap, ◌∙◌}
use Rattle.mdf_disk.specs.declared.call.Call.TheVariants.{Size}
use Rattle.mdf_disk.proofs.Tapes.{stays_told, clock_rises}
use Rattle.mdf_disk.proofs.memory.MemoryDiskDisk.size.Goals as goal

pub returns-then-not-may-clause-content : goal.returns-then-not-may-clause-content
returns-then-not-may-clause-content c =
    let disk = c.args.self.now in
    ap Some (stays_told disk.file disk.tape c.log.new.tape Size refl c.in_ok-log.ensures.ok).content_is

pub returns-then-not-may-clause-story : goal.returns-then-not-may-clause-story
returns-then-not-may-clause-story c =
    let disk = c.args.self.now in
    (stays_told disk.file disk.tape c.log.new.tape Size refl c.in_ok-log.ensures.ok).story_is

pub returns-then-not-may-clause-stays : goal.returns-then-not-may-clause-stays
returns-then-not-may-clause-stays c =
    let disk = c.args.self.now in
    record { asked_is = refl; attached_is = refl; later = clock_rises disk.tape c.log.new.tape Size c.in_ok-log.ensures.ok }

pub returns-clause-content : goal.returns-clause-content
returns-clause-content c =
    let disk = c.args.self.now in
    ap Some (stays_told disk.file disk.tape c.log.new.tape Size refl c.in_ok-log.ensures.ok).content_is

pub returns-clause-story : goal.returns-clause-story
returns-clause-story c =
    let disk = c.args.self.now in
    (stays_told disk.file disk.tape c.log.new.tape Size refl c.in_ok-log.ensures.ok).story_is

pub returns-clause-stays : goal.returns-clause-stays
returns-clause-stays c =
    let disk = c.args.self.now in
    record { asked_is = refl; attached_is = refl; later = clock_rises disk.tape c.log.new.tape Size c.in_ok-log.ensures.ok }

pub returns-clause-size : goal.returns-clause-size
returns-clause-size c =
    let disk = c.args.self.now in
    ap length (c.bytes.ensures.told ∙ (stays_told disk.file disk.tape c.log.new.tape Size refl c.in_ok-log.ensures.ok).content_is)
