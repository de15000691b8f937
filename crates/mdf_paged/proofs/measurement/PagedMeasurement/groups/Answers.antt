use Rattle.std.proofs.Common.{◌≡◌, ◌∙◌, ap, arith, length}
use Rattle.mdf_model.specs.declared.whole.WholeFound.{WholeFound}
use Rattle.mdf_paged.specs.Groups.{group_at, group_rows, groups_of, row_at}
use Rattle.mdf_paged.proofs.Measures.{as_many}
use Rattle.mdf_paged.proofs.Numbers.{as_long}
use Rattle.mdf_paged.proofs.measurement.PagedMeasurement.groups.Goals as goal

pub returns-clause-measured : goal.returns-clause-measured
returns-clause-measured c = λ f read.
    let all = c.self.inside.all in
    let count : c.len.result ≡ length (groups_of all) =
    omega (arith, c.len.ensures, c.self.inside.index.ok.0, as_long (group_at all.found) c.self.inside.index.items (groups_of all) c.self.invariant.1) in
    count ∙ ap (λ (a : WholeFound). length (groups_of a)) c.self.view_is ∙ as_many f c.args.self.now read

pub returns-clause-rows : goal.returns-clause-rows
returns-clause-rows c =
    let all = c.self.inside.all in
    let count : c.len.result ≡ length (group_rows all) =
    omega (arith, c.len.ensures, c.self.inside.index.ok.0, as_long (row_at all.tree.rows all.found) c.self.inside.index.items (group_rows all) c.self.invariant.2) in
    count ∙ ap (λ (a : WholeFound). length (group_rows a)) c.self.view_is
