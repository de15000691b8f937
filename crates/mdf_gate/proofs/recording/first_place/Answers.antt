use Rattle.std.proofs.Common.{◌≡◌, ◌∙◌, ap, subst, sym, rules}
use Rattle.std.proofs.lemmas.Result.{err_from_is_err_and}
use Rattle.mdf_format.specs.Block.{IsBlock, link_at}
use Rattle.mdf_format.specs.declared.kind.Kind.TheVariants.{Dg}
use Rattle.mdf_gate.specs.Recording.{first_group, first_place, IsPlace}
use Rattle.mdf_gate.specs.Fault.{IsFormed}
use Rattle.mdf_gate.proofs.Missing.{no_group, no_place, is_recording}
use Rattle.mdf_gate.proofs.recording.first_place.Goals as goal

pub returns-in_err-group-clause-fault : goal.returns-in_err-group-clause-fault
returns-in_err-group-clause-fault c =
    let file = c.args.bytes.now in
    let p = err_from_is_err_and c.from_residual-in_err-group.result c.from_residual-in_err-group.ensures.1 in
    let formed : IsFormed file = search rules in
    let header = c.in_ok-header.ensures.found in
    let at : c.link_of-group_at.result ≡ first_group file = c.link_of-group_at.ensures ∙ ap (λ b. link_at file b.at 0) header.1 in
    rw (p.1, p.2) (no_group file formed header.0 _ _ at c.in_err-group.ensures.none c.in_err-group.ensures.fault)

pub returns-in_err-group-clause-none : goal.returns-in_err-group-clause-none
returns-in_err-group-clause-none c =
    let file = c.args.bytes.now in
    let p = err_from_is_err_and c.from_residual-in_err-group.result c.from_residual-in_err-group.ensures.1 in
    let header = c.in_ok-header.ensures.found in
    let at : c.link_of-group_at.result ≡ first_group file = c.link_of-group_at.ensures ∙ ap (λ b. link_at file b.at 0) header.1 in
    rw p.1 (λ recording. c.in_err-group.ensures.none (subst (λ a. IsBlock file a Dg) (sym at) recording.group))

pub returns-then-not-is_place-clause-fault : goal.returns-then-not-is_place-clause-fault
returns-then-not-is_place-clause-fault c =
    let file = c.args.bytes.now in
    let formed : IsFormed file = search rules in
    let header = c.in_ok-header.ensures.found in
    let group = c.in_ok-group.ensures.found in
    let at : c.link_of-group_at.result ≡ first_group file = c.link_of-group_at.ensures ∙ ap (λ b. link_at file b.at 0) header.1 in
    let place : c.link_of-place.result ≡ first_place file = c.link_of-place.ensures ∙ ap (λ b. link_at file b.at 2) group.1 ∙ ap (λ a. link_at file a 2) at in
    let none : ¬ IsPlace c.link_of-place.result = search rules in
    no_place file formed header.0 c.link_of-place.result (subst (λ a. IsBlock file a Dg) at group.0) place none

pub returns-then-not-is_place-clause-none : goal.returns-then-not-is_place-clause-none
returns-then-not-is_place-clause-none c =
    let file = c.args.bytes.now in
    let header = c.in_ok-header.ensures.found in
    let group = c.in_ok-group.ensures.found in
    let at : c.link_of-group_at.result ≡ first_group file = c.link_of-group_at.ensures ∙ ap (λ b. link_at file b.at 0) header.1 in
    let place : c.link_of-place.result ≡ first_place file = c.link_of-place.ensures ∙ ap (λ b. link_at file b.at 2) group.1 ∙ ap (λ a. link_at file a 2) at in
    let none : ¬ IsPlace c.link_of-place.result = search rules in
    λ recording. none (subst IsPlace (sym place) recording.place)

pub returns-clause-recording : goal.returns-clause-recording
returns-clause-recording c =
    let file = c.args.bytes.now in
    let formed : IsFormed file = search rules in
    let header = c.in_ok-header.ensures.found in
    let group = c.in_ok-group.ensures.found in
    let at : c.link_of-group_at.result ≡ first_group file = c.link_of-group_at.ensures ∙ ap (λ b. link_at file b.at 0) header.1 in
    let place : c.link_of-place.result ≡ first_place file = c.link_of-place.ensures ∙ ap (λ b. link_at file b.at 2) group.1 ∙ ap (λ a. link_at file a 2) at in
    let there : IsPlace c.link_of-place.result = search rules in
    is_recording file formed header.0 c.link_of-place.result (subst (λ a. IsBlock file a Dg) at group.0) place there

pub returns-clause-place : goal.returns-clause-place
returns-clause-place c =
    let file = c.args.bytes.now in
    let header = c.in_ok-header.ensures.found in
    let group = c.in_ok-group.ensures.found in
    let at : c.link_of-group_at.result ≡ first_group file = c.link_of-group_at.ensures ∙ ap (λ b. link_at file b.at 0) header.1 in
    c.link_of-place.ensures ∙ ap (λ b. link_at file b.at 2) group.1 ∙ ap (λ a. link_at file a 2) at
