use Rattle.std.proofs.Common.{◌≡◌, ◌++◌, ◌∷◌, [], sym, subst, ap, ◌∙◌}
use Rattle.mdf_disk.specs.Tape.{IsRecordable, story_of}
use Rattle.mdf_disk.proofs.Tapes.{recorded}
use Rattle.mdf_disk.proofs.tape.Tape.record.Goals as goal

pub invariant_of-self-2 : goal.invariant_of-self-2
invariant_of-self-2 c =
    let fits = subst (λ calls. IsRecordable c.args.call (story_of calls).now.content) (sym c.self.view_is) c.requires in
    let calls : c.push_reserved.new.self.items ≡ c.self.inside.calls.items ++ c.args.call ∷ [] =
    c.push_reserved.ensures.items ∙ ap (λ items. items ++ c.args.call ∷ []) c.reserve.ensures.items in
    rw (calls, c.in_ok-perform.ensures.ok, c.ticks.ensures) (recorded _ _ _ _ c.self.invariant fits)

pub returns-clause-possible : goal.returns-clause-possible
returns-clause-possible c = (invariant_of-self-2 c).possible.0
