use Rattle.std.proofs.Common.{◌∷◌, [], ◌++◌, ◌∙◌, ap, sym, subst, refl}
use Rattle.mdf_disk.specs.Crash.{HoldsSince}
use Rattle.mdf_gate.specs.Images.{head_of, Opens}
use Rattle.mdf_gate.proofs.Appends.{rests_bare}
use Rattle.book_owned.specs.Begun.{IsAdmissible}
use Rattle.book_owned.proofs.Costs.{ids_small}
use Rattle.book_owned.proofs.Parting.{book_kept}
use Rattle.book_owned.proofs.Putting.{front_begun, halves_begun}
use Rattle.book_owned.proofs.book.Book.begin.Goals as goal

pub buffers-requires-clause-ids : goal.buffers-requires-clause-ids
buffers-requires-clause-ids g c = ids_small c.args.shapes c.requires.admissible.groups c.requires.admissible.variable

pub invariant_of-result : goal.invariant_of-result
invariant_of-result g c =
    front_begun g.V.Shown _ c.in-Ok.spare (g.D.Disk.moment c.args.file.disk)
    (subst (λ limit. IsAdmissible c.args.shapes limit c.args.session_limit) (sym c.in-Ok.ensures.block.1) c.requires.admissible)
    c.empty.ensures.items c.empty.ensures.chunks
    (c.put.ensures.items ∙ ap (λ ms. ms ++ record { moment = c.moment.result; through = 0 } ∷ []) c.in-Ok.ensures.marks.0
    ∙ ap (λ t. record { moment = t; through = 0 } ∷ []) c.moment.ensures.moment)
    refl c.in-Ok.ensures.block.0 refl c.in-Ok.ensures.spare.0 (c.in-Ok.ensures.spare.1 ∙ sym c.in-Ok.ensures.block.1) refl
    c.requires.nothing_shown.0 c.requires.nothing_shown.1 c.requires.nothing_handed c.in-Ok.ensures.next

pub invariant_of-result-2 : goal.invariant_of-result-2
invariant_of-result-2 g c =
    let created = c.requires.created in
    let at_first = subst (λ t. HoldsSince (g.D.Disk.story c.args.file.disk) t (Opens (head_of (g.D.Disk.story c.args.file.disk) c.args.file.first) [] c.args.file.place))
    c.moment.ensures.moment (c.moment.ensures.leaves [] created.rests) in
    halves_begun g.D.Disk _ c.args.file created c.empty.ensures.items
    (c.put.ensures.items ∙ ap (λ ms. ms ++ record { moment = c.moment.result; through = 0 } ∷ []) c.in-Ok.ensures.marks.0
    ∙ ap (λ t. record { moment = t; through = 0 } ∷ []) c.moment.ensures.moment)
    refl refl at_first
    (rests_bare (g.D.Disk.content c.args.file.disk) (g.D.Disk.story c.args.file.disk) _ c.args.file.first c.args.file.place (g.met.D.Disk.agrees c.args.file.disk) created.rests)

pub returns-clause-kept : goal.returns-clause-kept
returns-clause-kept g c = book_kept g.D.Disk g.V.Shown _ c.args.file (invariant_of-result-2 g c) (invariant_of-result g c).steady

pub returns-clause-shown : goal.returns-clause-shown
returns-clause-shown g c = (invariant_of-result g c).steady.shown
