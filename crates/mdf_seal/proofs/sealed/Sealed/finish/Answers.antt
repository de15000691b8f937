use Rattle.std.proofs.Common.{◌∙◌, sym}
use Rattle.mdf_num.specs.declared.failure.Failed.{Failed}
use Rattle.mdf_disk.proofs.Crash.{adds_both}
use Rattle.mdf_seal.proofs.Finish.{P, ready, first_sync, first_byte, opened, last_sync, some_given}
use Rattle.mdf_seal.proofs.sealed.Sealed.finish.Goals as goal

pub returns-in_err-write_at-clause-any_moment : goal.returns-in_err-write_at-clause-any_moment
returns-in_err-write_at-clause-any_moment g c = λ given seals.
    let story = g.D.Disk.story in
    let agrees = g.met.D.Disk.agrees in
    let disk = c.args.disk.now in
    let synced = c.sync.new.self in
    let some = some_given given c.in-Some.first (sym seals.first ∙ c.in-Some.is) in
    let now = ready given some Failed (story disk) (story synced) _ _ c.in_ok-sync.ensures.story (agrees disk) seals.holds in
    adds_both (story disk) (story synced) (story c.write_at.new.self) (P given)
    (first_sync given some Failed (story disk) (story synced) _ _ _ c.sync.ensures.story (agrees disk) seals.shut)
    (first_byte given some Failed (story synced) (story c.write_at.new.self) _ _ c.write_at.ensures.story now)

pub returns-clause-any_moment : goal.returns-clause-any_moment
returns-clause-any_moment g c = λ given seals.
    let story = g.D.Disk.story in
    let agrees = g.met.D.Disk.agrees in
    let disk = c.args.disk.now in
    let synced = c.sync.new.self in
    let written = c.write_at.new.self in
    let some = some_given given c.in-Some.first (sym seals.first ∙ c.in-Some.is) in
    let now = ready given some Failed (story disk) (story synced) _ _ c.in_ok-sync.ensures.story (agrees disk) seals.holds in
    adds_both (story disk) (story written) (story c.sync-2.new.self) (P given)
    (adds_both (story disk) (story synced) (story written) (P given)
    (first_sync given some Failed (story disk) (story synced) _ _ _ c.sync.ensures.story (agrees disk) seals.shut)
    (first_byte given some Failed (story synced) (story written) _ _ c.write_at.ensures.story now))
    (last_sync given some Failed (story written) (story c.sync-2.new.self) _ _ _ c.sync-2.ensures.story (agrees written)
    (opened given some Failed (story synced) (story written) _ c.in_ok-write_at.ensures.story now))
