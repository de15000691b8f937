use Rattle.std.proofs.Common.{◌+◌, ◌≤◌, Some, length, refl, ap, ◌∙◌, arith, rules}
use Rattle.mdf_disk.specs.declared.call.Call.TheVariants.{Read}
use Rattle.mdf_disk.proofs.Tapes.{stays_told, clock_rises}
use Rattle.mdf_disk.proofs.memory.MemoryDiskDisk.read_at.Goals as goal

pub returns-then-not-may-clause-content : goal.returns-then-not-may-clause-content
returns-then-not-may-clause-content c =
    let disk = c.args.self.now in
    ap Some (stays_told disk.file disk.tape c.log.new.tape Read refl c.in_ok-log.ensures.ok).content_is

pub returns-then-not-may-clause-story : goal.returns-then-not-may-clause-story
returns-then-not-may-clause-story c =
    let disk = c.args.self.now in
    (stays_told disk.file disk.tape c.log.new.tape Read refl c.in_ok-log.ensures.ok).story_is

pub returns-then-not-may-clause-stays : goal.returns-then-not-may-clause-stays
returns-then-not-may-clause-stays c =
    let disk = c.args.self.now in
    record { asked_is = refl; attached_is = refl; later = clock_rises disk.tape c.log.new.tape Read c.in_ok-log.ensures.ok }

pub returns-clause-content : goal.returns-clause-content
returns-clause-content c =
    let disk = c.args.self.now in
    ap Some (stays_told disk.file disk.tape c.log.new.tape Read refl c.in_ok-log.ensures.ok).content_is

pub returns-clause-story : goal.returns-clause-story
returns-clause-story c =
    let disk = c.args.self.now in
    (stays_told disk.file disk.tape c.log.new.tape Read refl c.in_ok-log.ensures.ok).story_is

pub returns-clause-stays : goal.returns-clause-stays
returns-clause-stays c =
    let disk = c.args.self.now in
    record { asked_is = refl; attached_is = refl; later = clock_rises disk.tape c.log.new.tape Read c.in_ok-log.ensures.ok }

pub overflow_add-start : goal.overflow_add-start
overflow_add-start c =
    let disk = c.args.self.now in
    let same = c.bytes.ensures.told ∙ (stays_told disk.file disk.tape c.log.new.tape Read refl c.in_ok-log.ensures.ok).content_is in
    omega (arith, c.requires.within, ap length same, c.bytes.type_inv)

pub slice_bounds-copy_from_slice-end : goal.slice_bounds-copy_from_slice-end
slice_bounds-copy_from_slice-end c =
    let disk = c.args.self.now in
    let same = c.bytes.ensures.told ∙ (stays_told disk.file disk.tape c.log.new.tape Read refl c.in_ok-log.ensures.ok).content_is in
    let within : c.args.at + length c.args.buf.now ≤ length c.bytes.result.now = omega (arith, c.requires.within, ap length same) in
    search rules

pub returns-clause-bytes : goal.returns-clause-bytes
returns-clause-bytes c =
    let disk = c.args.self.now in
    let same = c.bytes.ensures.told ∙ (stays_told disk.file disk.tape c.log.new.tape Read refl c.in_ok-log.ensures.ok).content_is in
    rw (← same) (search rules)
