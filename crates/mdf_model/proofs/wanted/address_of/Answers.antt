use Rattle.std.proofs.Common.{◌≡◌, ◌+◌, ℕ, List, length, take, filter, Option, Some, refl, sym, ◌∙◌, ap, subst, arith}
use Rattle.std.specs.Prelude.{slice_get}
use Rattle.std.proofs.lemmas.Option.{slice_get_past, slice_get_read}
use Rattle.std.proofs.Math.Seq.{take-length}
use Rattle.mdf_group.specs.declared.row.DataRow.{DataRow}
use Rattle.mdf_group.specs.declared.row.GroupRow.{GroupRow}
use Rattle.mdf_model.specs.Kept.{sample_rows, stands_at}
use Rattle.mdf_model.specs.Measurement.{holds_samples}
use Rattle.mdf_model.proofs.Numbered.{row_there, some_group}
use Rattle.mdf_model.proofs.wanted.address_of.Goals as goal

pub returns-in-Ok : goal.returns-in-Ok
returns-in-Ok c =
    let loop = c.loop-row in
    let rows = c.args.rows.now in
    let row = c.row-item.result in
    let there : slice_get rows loop.row-index ≡ Some row =
    slice_get_read rows (length rows) loop.row-index row refl (omega (arith, c.loop-row-test.true)) c.row-item.is in
    let found : stands_at (slice_get (filter holds_samples row.groups) loop.left) ≡ Some c.in-Ok.at =
    subst (λ (groups : List GroupRow). stands_at (slice_get (filter holds_samples groups) loop.left) ≡ Some c.in-Ok.at) c.as_slice.ensures
    c.in-Ok.ensures.there in
    let one = some_group (slice_get (filter holds_samples row.groups) loop.left) c.in-Ok.at found in
    let at : ◌≡◌ {A = Option ℕ} (Some c.in-Ok.at) (Some one.0.at) = ap Some (sym one.2) in
    at ∙ sym (ap (λ (k : ℕ). stands_at (slice_get (sample_rows rows) k)) loop.invariant
    ∙ ap stands_at (row_there rows loop.row-index row loop.left one.0 there one.1))

pub returns : goal.returns
returns c =
    let rows = c.args.rows.now in
    let loop = c.loop-row in
    let last : loop.row-index ≡ length rows = omega (arith, loop.auto.row-index-end, c.loop-row-test.false) in
    let all : c.args.number ≡ length (sample_rows rows) + loop.left =
    loop.invariant ∙ ap (λ (k : ℕ). length (sample_rows (take k rows)) + loop.left) last
    ∙ ap (λ (front : List DataRow). length (sample_rows front) + loop.left) (take-length rows) in
    sym (ap stands_at (slice_get_past (sample_rows rows) c.args.number (omega (arith, all))))
