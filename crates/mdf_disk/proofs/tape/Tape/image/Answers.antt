use Rattle.std.proofs.Common.{sym, subst, ◌∙◌}
use Rattle.std.proofs.lemmas.Result.{IfOk-weaker}
use Rattle.std.specs.List.{AllByRecursion}
use Rattle.mdf_disk.specs.Story.{MayLeave}
use Rattle.mdf_disk.specs.Tape.{story_of, moments_of}
use Rattle.mdf_disk.specs.Image.{moment_inside}
use Rattle.mdf_disk.proofs.Tapes.{IsPossible}
use Rattle.mdf_disk.proofs.Moments.{inside_all, picked_left}
use Rattle.mdf_disk.proofs.tape.Tape.image.Goals as goal

pub returns-clause-possible : goal.returns-clause-possible
returns-clause-possible c =
    let calls = c.args.self.now in
    let same = c.deref.ensures.value ∙ c.self.view_is in
    let all = subst (λ calls. AllByRecursion IsPossible (moments_of (story_of calls))) c.self.view_is c.self.invariant.possible in
    let moment = moment_inside calls c.args.k in
    let left = picked_left c.args.pick moment ((inside_all calls c.args.k c.requires).possible all) in
    let is = rw same at c.image.ensures in
    IfOk-weaker c.image.result _ _ (λ file eq. subst (MayLeave moment) (sym eq) left) is

pub returns-clause-since : goal.returns-clause-since
returns-clause-since c =
    let calls = c.args.self.now in
    IfOk-weaker c.image.result _ _ (λ file left. (inside_all calls c.args.k c.requires).left file.items left) (returns-clause-possible c)
