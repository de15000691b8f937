use Rattle.std.proofs.Common.{◌≡◌, ◌++◌, ◌∷◌, [], List, Some, refl, ap, ◌∙◌, rules}
use Rattle.mdf_num.specs.declared.failure.Failed.{Failed}
use Rattle.mdf_disk.specs.Tape.{story_of}
use Rattle.mdf_disk.specs.Memory.{IsThere}
use Rattle.mdf_disk.specs.declared.call.Call.{Call}
use Rattle.mdf_disk.specs.declared.call.Call.TheVariants.{Attach}
use Rattle.mdf_disk.proofs.Tapes.{stays_told, clock_rises, attach_told, attach_failed, attach_done}
use Rattle.mdf_disk.proofs.memory.MemoryDiskDisk.attach.Goals as goal

pub invariant_of-self-then-not-may : goal.invariant_of-self-then-not-may
invariant_of-self-then-not-may c =
    let disk = c.args.self.now in
    let calls : c.log.new.tape ≡ disk.tape ++ Attach ∷ [] = c.in_ok-log.ensures.ok in
    record {
      unasked = λ none. cc;
      unused = λ not. ap (λ (calls : List Call). (story_of calls).now) calls ∙ attach_told disk.tape ∙ disk.unused not;
      possible = c.in_ok-log.ensures.possible;
    }

pub returns-then-not-may-clause-story : goal.returns-then-not-may-clause-story
returns-then-not-may-clause-story c =
    let disk = c.args.self.now in
    (stays_told disk.file disk.tape c.log.new.tape Attach refl c.in_ok-log.ensures.ok).story_is

pub returns-then-not-may-clause-moment : goal.returns-then-not-may-clause-moment
returns-then-not-may-clause-moment c =
    let disk = c.args.self.now in
    clock_rises disk.tape c.log.new.tape Attach c.in_ok-log.ensures.ok

pub returns-then-not-may-clause-content : goal.returns-then-not-may-clause-content
returns-then-not-may-clause-content c =
    let disk = c.args.self.now in
    attach_failed c.fail.result c.args.role _ _ (ap Some (stays_told disk.file disk.tape c.log.new.tape Attach refl c.in_ok-log.ensures.ok).content_is)

pub returns-clause-story : goal.returns-clause-story
returns-clause-story c =
    let disk = c.args.self.now in
    (stays_told disk.file disk.tape c.log.new.tape Attach refl c.in_ok-log.ensures.ok).story_is

pub returns-clause-moment : goal.returns-clause-moment
returns-clause-moment c =
    let disk = c.args.self.now in
    clock_rises disk.tape c.log.new.tape Attach c.in_ok-log.ensures.ok

pub returns-clause-content : goal.returns-clause-content
returns-clause-content c =
    let disk = c.args.self.now in
    let there : IsThere c.args.role disk.file = search rules in
    attach_done Failed c.args.role disk.file disk.tape c.log.new.tape there (disk.unused (disk.unasked c.requires)) c.in_ok-log.ensures.ok
