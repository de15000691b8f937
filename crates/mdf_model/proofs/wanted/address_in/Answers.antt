use Rattle.std.proofs.Common.{rules, ◌≡◌, ℕ, false, length, take, filter, Some, refl, ◌∙◌, ap, arith}
use Rattle.std.specs.Prelude.{slice_get}
use Rattle.std.proofs.lemmas.Option.{slice_get_read}
use Rattle.mdf_group.specs.Group.{is_variable}
use Rattle.mdf_model.specs.Kept.{stands_at}
use Rattle.mdf_model.specs.Measurement.{holds_samples}
use Rattle.mdf_model.proofs.Numbered.{sample_there}
use Rattle.mdf_model.proofs.wanted.address_in.Goals as goal

pub returns-then-left-eq0-clause-there : goal.returns-then-left-eq0-clause-there
returns-then-left-eq0-clause-there c =
    let loop = c.loop-group in
    let groups = c.args.groups.now in
    let group = c.group-item.result in
    let there : slice_get groups loop.group-index ≡ Some group =
    slice_get_read groups (length groups) loop.group-index group refl (omega (arith, c.loop-group-test.true)) c.group-item.is in
    let holds : is_variable group ≡ false = search rules in
    let number : c.args.number ≡ length (filter holds_samples (take loop.group-index groups)) = omega (arith, loop.invariant, c.if-left-eq0.true) in
    ap (λ (k : ℕ). stands_at (slice_get (filter holds_samples groups) k)) number ∙ ap stands_at (sample_there groups loop.group-index group there holds)
