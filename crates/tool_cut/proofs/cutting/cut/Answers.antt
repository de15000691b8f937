use Rattle.std.proofs.Common.{◌≡◌, ◌∙◌, ℤ, Err, to_z-of_z, codes, ap, refl, subst, sym}
use Rattle.mdf_disk.specs.State.{state_of}
use Rattle.tool_sort.specs.Kept.{IsSortedOf, StandsIn}
use Rattle.tool_sort.specs.Made.{IsMadeOf}
use Rattle.tool_cut.specs.Kept.{cut_of}
use Rattle.tool_cut.proofs.Ends.{ends, leaves}
use Rattle.tool_cut.proofs.Standings.{all_samples, cut_stands}
use Rattle.std.proofs.lemmas.Result.{err_from_is_err_and}
use Rattle.mdf_content.specs.Fault.{read_refusal}
use Rattle.mdf_tool.proofs.Unread.{unread}
use Rattle.mdf_tool.specs.declared.fault.ToolFault.{ToolFault}
use Rattle.mdf_model.specs.Identified.{IsIdentified}
use Rattle.mdf_model.proofs.Identified.{measured_is_identified}
use Rattle.mdf_model.specs.Measurement.{Measured, measurement}
use Rattle.tool_cut.specs.Cut.{CutEnds, Cutting}
use Rattle.tool_cut.proofs.cutting.cut.Given as given
use Rattle.tool_cut.proofs.cutting.cut.Goals as goal
use Rattle.tool_cut.proofs.cutting.cut.Goals.{After-write_made}

pub cut_in-cut-requires : goal.cut_in-cut-requires
cut_in-cut-requires g c = record { samples = all_samples c.args.file c.in_ok-found.found.groups c.in_ok-found.ensures.stands.groups }

-- what was made is of what the range leaves, and its file keeps that
cut_made : (g : given.Over) (c : After-write_made g)
    → IsMadeOf (cut_of c.args.from c.args.to c.in_ok-found.found) (codes "cut") c.args.now_ns c.in_ok-made.made
    × IsSortedOf (cut_of c.args.from c.args.to c.in_ok-found.found) (codes "cut") c.args.now_ns c.in_ok-made.made.bytes
cut_made g c =
    let file = c.args.file in
    let now = c.args.now_ns in
    let found = c.in_ok-found.found in
    let made = c.in_ok-made.made in
    let same : c.cut_in-cut.result ≡ cut_of c.args.from c.args.to found =
    c.cut_in-cut.ensures
    ∙ ap (λ (from : ℤ). cut_of from c.new-range.result.to found) (c.new-range.ensures.from ∙ to_z-of_z c.ranges.from)
    ∙ ap (λ (to : ℤ). cut_of c.args.from to found) (c.new-range.ensures.to ∙ to_z-of_z c.ranges.to) in
    let stands = subst (λ (m : Measured). StandsIn file m) (sym same) (cut_stands file c.args.from c.args.to found c.in_ok-found.ensures.stands) in (
      subst (λ (m : Measured). IsMadeOf m (codes "cut") now made) same c.in_ok-made.ensures.made,
      subst (λ (m : Measured). IsSortedOf m (codes "cut") now made.bytes) same (c.in_ok-made.ensures.keeps file stands),
    )

pub returns-clause-ends : goal.returns-clause-ends
returns-clause-ends g c =
    let is = cut_made g (goal.at.returns-clause-ends g c).After-write_made in
    ends c.args.file (record { from = c.args.from; to = c.args.to; now = c.args.now_ns }) c.in_ok-found.found c.in_ok-made.made c.in_ok-found.ensures.exact is.0 is.1
    (state_of g.C.Disk c.args.out.now) (state_of g.C.Disk c.write_made.new.out) c.write_made.result c.write_made.ensures.ends

pub returns-clause-any_moment : goal.returns-clause-any_moment
returns-clause-any_moment g c =
    let is = cut_made g (goal.at.returns-clause-any_moment g c).After-write_made in
    leaves c.args.file (record { from = c.args.from; to = c.args.to; now = c.args.now_ns }) c.in_ok-found.found c.in_ok-made.made c.in_ok-found.ensures.exact is.0 is.1
    (g.C.Disk.story c.args.out.now) (g.C.Disk.story c.write_made.new.out) c.write_made.ensures.any_moment

pub returns-in_err-found-clause-ends : goal.returns-in_err-found-clause-ends
returns-in_err-found-clause-ends g c =
    let state = state_of g.C.Disk c.args.out.now in
    let asked : Cutting = record { from = c.args.from; to = c.args.to; now = c.args.now_ns } in
    let p = err_from_is_err_and c.from_residual.result c.from_residual.ensures.1 in
    let fault = c.in_err-found.field-0.0 in
    rw (p.1, p.2) (unread (measurement c.args.file) (IsIdentified c.args.file) (λ (problem : ToolFault). CutEnds c.args.file asked state state (Err problem))
    (λ fault some fails. (some, fails, refl)) (λ known. (known, refl)) fault (read_refusal fault) refl c.in_err-found.ensures.exact c.in_err-found.ensures.first)

pub returns-in_err-made-clause-ends : goal.returns-in_err-made-clause-ends
returns-in_err-made-clause-ends g c =
    let p = err_from_is_err_and c.from_residual-in_err-made.result c.from_residual-in_err-made.ensures.1 in
    rw (p.1, p.2) (measured_is_identified c.args.file c.in_ok-found.found c.in_ok-found.ensures.exact, refl)
