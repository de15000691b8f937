use Rattle.std.proofs.Common.{◌⊎◌, ◌++◌, [], ◌∷◌, ⊎_elim, length, ◌≤◌, ◌∙◌, arith}
use Rattle.mdf_disk.proofs.Crash.{adds_both, adds_more}
use Rattle.mdf_seal.specs.Images.{IsClosed, IsWholeButFirst}
use Rattle.mdf_gate.specs.Images.{IsBegun}
use Rattle.mdf_gate.proofs.Begun.{short_begun, closed_begun, whole_begun, rises_more, rises_both}
use Rattle.mdf_gate.proofs.gated.write_head.Goals as goal

pub returns-in_err-seal-clause-any_moment : goal.returns-in_err-seal-clause-any_moment
returns-in_err-seal-clause-any_moment g c =
    let story = g.D.Disk.story in
    let head = c.args.head.now in
    adds_more (story c.args.disk.now) (story c.begin.new.disk) (λ file. length file ≤ 1) (IsBegun head) (short_begun head) c.begin.ensures.any_moment

pub returns-in_err-give-clause-any_moment : goal.returns-in_err-give-clause-any_moment
returns-in_err-give-clause-any_moment g c =
    let story = g.D.Disk.story in
    let head = c.args.head.now in
    let begun = story c.begin.new.disk in
    let given = story c.give.new.disk in
    adds_both (story c.args.disk.now) begun given (IsBegun head)
    (adds_more (story c.args.disk.now) begun (λ file. length file ≤ 1) (IsBegun head) (short_begun head) c.begin.ensures.any_moment)
    (adds_more begun given IsClosed (IsBegun head) (closed_begun head) c.give.ensures.any_moment)

pub returns-in_err-give-2-clause-any_moment : goal.returns-in_err-give-2-clause-any_moment
returns-in_err-give-2-clause-any_moment g c =
    let story = g.D.Disk.story in
    let head = c.args.head.now in
    let begun = story c.begin.new.disk in
    let given = story c.give.new.disk in
    let gated = story c.give-2.new.disk in
    adds_both (story c.args.disk.now) begun gated (IsBegun head)
    (adds_more (story c.args.disk.now) begun (λ file. length file ≤ 1) (IsBegun head) (short_begun head) c.begin.ensures.any_moment)
    (adds_both begun given gated (IsBegun head)
    (adds_more begun given IsClosed (IsBegun head) (closed_begun head) c.give.ensures.any_moment)
    (adds_more given gated IsClosed (IsBegun head) (closed_begun head) c.give-2.ensures.any_moment))

pub returns-clause-any_moment : goal.returns-clause-any_moment
returns-clause-any_moment g c =
    let story = g.D.Disk.story in
    let head = c.args.head.now in
    let old = story c.args.disk.now in
    let begun = story c.begin.new.disk in
    let given = story c.give.new.disk in
    let gated = story c.give-2.new.disk in
    let new = story c.finish.new.disk in
    let all = head ++ 0 ∷ [] in
    let seals = c.in_ok-give-2.ensures.ok head (c.in_ok-give.ensures.ok [] c.in_ok-seal.ensures.ok) in
    adds_both old begun new (IsBegun head)
    (adds_more old begun (λ file. length file ≤ 1) (IsBegun head) (short_begun head) c.begin.ensures.any_moment)
    (adds_both begun given new (IsBegun head)
    (adds_more begun given IsClosed (IsBegun head) (closed_begun head) c.give.ensures.any_moment)
    (adds_both given gated new (IsBegun head)
    (adds_more given gated IsClosed (IsBegun head) (closed_begun head) c.give-2.ensures.any_moment)
    (adds_more gated new (λ file. IsClosed file ⊎ IsWholeButFirst all file) (IsBegun head)
    (λ file. ⊎_elim (closed_begun head file) (whole_begun head c.requires.head file)) (c.finish.ensures.any_moment all seals))))

pub returns-in_err-seal-clause-calls : goal.returns-in_err-seal-clause-calls
returns-in_err-seal-clause-calls g c =
    let moment = g.D.Disk.moment in
    rises_more (g.D.Disk.story c.args.disk.now) (moment c.args.disk.now) (moment c.begin.new.disk) 2 7 (omega arith) c.begin.ensures.calls

pub returns-in_err-give-clause-calls : goal.returns-in_err-give-clause-calls
returns-in_err-give-clause-calls g c =
    let story = g.D.Disk.story in
    let moment = g.D.Disk.moment in
    let old = c.args.disk.now in
    let begun = c.begin.new.disk in
    let given = c.give.new.disk in
    let given_by = rises_both (story old) (story begun) (moment old) (moment begun) (moment given) 2 1 c.begin.ensures.goes_on.told c.begin.ensures.calls c.give.ensures.calls in
    rises_more (story old) (moment old) (moment given) 3 7 (omega arith) given_by

pub returns-in_err-give-2-clause-calls : goal.returns-in_err-give-2-clause-calls
returns-in_err-give-2-clause-calls g c =
    let story = g.D.Disk.story in
    let moment = g.D.Disk.moment in
    let old = c.args.disk.now in
    let begun = c.begin.new.disk in
    let given = c.give.new.disk in
    let gated = c.give-2.new.disk in
    let given_by = rises_both (story old) (story begun) (moment old) (moment begun) (moment given) 2 1 c.begin.ensures.goes_on.told c.begin.ensures.calls c.give.ensures.calls in
    let gated_by = rises_both (story old) (story given) (moment old) (moment given) (moment gated) 3 1 (c.give.ensures.goes_on.told ∙ c.begin.ensures.goes_on.told) given_by c.give-2.ensures.calls in
    rises_more (story old) (moment old) (moment gated) 4 7 (omega arith) gated_by

pub returns-clause-calls : goal.returns-clause-calls
returns-clause-calls g c =
    let story = g.D.Disk.story in
    let moment = g.D.Disk.moment in
    let old = c.args.disk.now in
    let begun = c.begin.new.disk in
    let given = c.give.new.disk in
    let gated = c.give-2.new.disk in
    let given_by = rises_both (story old) (story begun) (moment old) (moment begun) (moment given) 2 1 c.begin.ensures.goes_on.told c.begin.ensures.calls c.give.ensures.calls in
    let gated_by = rises_both (story old) (story given) (moment old) (moment given) (moment gated) 3 1 (c.give.ensures.goes_on.told ∙ c.begin.ensures.goes_on.told) given_by c.give-2.ensures.calls in
    rises_both (story old) (story gated) (moment old) (moment gated) (moment c.finish.new.disk) 4 3
    (c.give-2.ensures.goes_on.told ∙ c.give.ensures.goes_on.told ∙ c.begin.ensures.goes_on.told) gated_by c.finish.ensures.calls
