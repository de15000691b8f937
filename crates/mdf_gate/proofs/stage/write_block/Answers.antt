use Rattle.std.proofs.Common.{◌+◌, ◌++◌, [], ◌∷◌, length, take, subst}
use Rattle.mdf_format.specs.Number.{patched}
use Rattle.std.proofs.lemmas.Result.{on_ok_weaker, on_err_weaker}
use Rattle.mdf_disk.proofs.Crash.{adds_both, adds_more}
use Rattle.mdf_seal.specs.Seal.{IsKept}
use Rattle.mdf_gate.specs.Images.{IsTorn, IsStage}
use Rattle.mdf_gate.specs.Appended.{HasStaged}
use Rattle.mdf_gate.proofs.Stages.{both_ok, changed_twice, written_twice, rises_twice, on_err, none_staged, all_staged, has_opened, has_staged, first_stage, second_stage, opened, still_within}
use Rattle.mdf_gate.proofs.stage.write_block.Goals as goal

pub returns-in_err-write_and_sync-clause-any_moment : goal.returns-in_err-write_and_sync-clause-any_moment
returns-in_err-write_and_sync-clause-any_moment g c = λ kept is ends.
    let story = g.D.Disk.story in
    let place = c.args.place in
    let payload = c.args.payload.now in
    adds_more (story c.args.disk.now) (story c.write_and_sync.new.disk) (IsTorn (place + 1) (length payload) kept) (IsStage place kept payload)
    (first_stage place kept payload ends) (c.write_and_sync.ensures.any_moment kept is.kept)

pub returns-clause-ok : goal.returns-clause-ok
returns-clause-ok g c =
    let disk = g.D.Disk in
    let content = disk.content in
    let story = disk.story in
    let place = c.args.place in
    let payload = c.args.payload.now in
    let old = c.args.disk.now in
    let mid = c.write_and_sync.new.disk in
    let new = c.write_and_sync-2.new.disk in
    has_opened disk place payload old new c.write_and_sync-2.result
    (λ kept is ends.
    let staged = patched (place + 1) payload kept in
    both_ok _ _ (IsKept (content new) (story new) (take place kept ++ 35 ∷ payload)) c.write_and_sync-2.result c.write_and_sync-2.ensures.content
    (c.write_and_sync-2.ensures.kept staged (c.in_ok-write_and_sync.ensures.kept kept is.kept))
    (λ whole now. subst (IsKept (content new) (story new)) (opened place kept payload ends) (record {
      whole = changed_twice (content old) (content mid) (content new) (patched (place + 1) payload) (patched place (35 ∷ [])) kept is.whole
          c.in_ok-write_and_sync.ensures.content whole;
      kept = now;
    })))
    (on_ok_weaker c.write_and_sync-2.result
    (written_twice place payload (content old) (content mid) (content new) c.requires.ends c.in_ok-write_and_sync.ensures.content)
    c.write_and_sync-2.ensures.content)
    (on_ok_weaker c.write_and_sync-2.result
    (rises_twice (story old) (story mid) (disk.moment old) (disk.moment mid) (disk.moment new) c.write_and_sync.ensures.goes_on.told c.in_ok-write_and_sync.ensures.calls)
    c.write_and_sync-2.ensures.calls)

pub returns-clause-any_moment : goal.returns-clause-any_moment
returns-clause-any_moment g c = λ kept is ends.
    let story = g.D.Disk.story in
    let place = c.args.place in
    let payload = c.args.payload.now in
    let old = story c.args.disk.now in
    let mid = story c.write_and_sync.new.disk in
    let new = story c.write_and_sync-2.new.disk in
    let staged = patched (place + 1) payload kept in
    adds_both old mid new (IsStage place kept payload)
    (adds_more old mid (IsTorn (place + 1) (length payload) kept) (IsStage place kept payload) (first_stage place kept payload ends)
    (c.write_and_sync.ensures.any_moment kept is.kept))
    (adds_more mid new (IsTorn place 1 staged) (IsStage place kept payload) (second_stage place kept payload ends)
    (c.write_and_sync-2.ensures.any_moment staged (c.in_ok-write_and_sync.ensures.kept kept is.kept)))

pub returns-in_err-write_and_sync-clause-err : goal.returns-in_err-write_and_sync-clause-err
returns-in_err-write_and_sync-clause-err g c =
    let story = g.D.Disk.story in
    let old = c.args.disk.now in
    let new = c.write_and_sync.new.disk in
    let staged : HasStaged g.D.Disk c.args.place c.args.payload.now old new = record {
      staged = λ kept is ends. none_staged (story old) (story new) kept c.args.payload.now c.in_err-write_and_sync.ensures.unsynced is.kept;
      in_flight = λ kept is. c.in_err-write_and_sync.ensures.in_flight kept is.kept;
    } in
    on_err _ _ staged

pub returns-clause-err : goal.returns-clause-err
returns-clause-err g c =
    let story = g.D.Disk.story in
    let place = c.args.place in
    let payload = c.args.payload.now in
    let mid = c.write_and_sync.new.disk in
    let new = c.write_and_sync-2.new.disk in
    has_staged g.D.Disk place payload c.args.disk.now new c.write_and_sync-2.result
    (λ kept is ends.
    on_err_weaker c.write_and_sync-2.result
    (λ same. all_staged place kept payload ends (story mid) (story new) same (c.in_ok-write_and_sync.ensures.kept kept is.kept))
    c.write_and_sync-2.ensures.unsynced)
    (λ kept is.
    c.write_and_sync-2.ensures.in_flight (patched (place + 1) payload kept) (c.in_ok-write_and_sync.ensures.kept kept is.kept))

pub write_and_sync-requires-2-clause-within : goal.write_and_sync-requires-2-clause-within
write_and_sync-requires-2-clause-within g c =
    let content = g.D.Disk.content in
    still_within c.args.place c.args.payload.now (content c.args.disk.now) (content c.write_and_sync.new.disk) c.requires.ends c.in_ok-write_and_sync.ensures.content
