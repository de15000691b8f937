use Rattle.std.proofs.Common.{◌≡◌, ◌∙◌, ap, arith, length, map, take, List, Some, refl}
use Rattle.std.specs.Prelude.{slice_get}
use Rattle.std.specs.List.{flat_map, zip}
use Rattle.std.proofs.lemmas.List.{take_all}
use Rattle.std.proofs.lemmas.Option.{slice_get_read}
use Rattle.std.proofs.lemmas.Slice.Zip.{length-zip}
use Rattle.mdf_group.specs.declared.row.DataRow.{DataRow}
use Rattle.mdf_content.specs.declared.found.DataFound.{DataFound}
use Rattle.mdf_paged.specs.Groups.{groups_in, rows_in}
use Rattle.mdf_paged.proofs.Numbers.{flat_more, zip_there}
use Rattle.mdf_paged.proofs.index.numbers_of.Goals as goal

pub loop-parent-preserved : goal.loop-parent-preserved
loop-parent-preserved c =
    let loop = c.loop-parent in
    let rows = c.args.rows.now in
    let found = c.args.found.now in
    let data_row = c.index-rows-parent in
    let one = c.index-found-parent in
    let row_there : slice_get rows loop.parent ≡ Some data_row.result =
    slice_get_read rows (length rows) loop.parent data_row.result refl (omega (arith, c.loop-parent-test.true, c.if-rows-found.false)) data_row.is in
    let there : slice_get found loop.parent ≡ Some one.result =
    slice_get_read found (length found) loop.parent one.result refl (omega (arith, c.loop-parent-test.true)) one.is in
    record {
      groups =
          c.in_ok-add_numbers.ensures.groups found (flat_map groups_in (take loop.parent found)) there loop.invariant.groups
          ∙ ap (map Some) (flat_more groups_in found loop.parent one.result there);
      rows =
          c.in_ok-add_numbers.ensures.rows rows found (flat_map rows_in (take loop.parent (zip rows found))) row_there there loop.invariant.rows
          ∙ ap (map Some) (flat_more rows_in (zip rows found) loop.parent (data_row.result, one.result) (zip_there rows found loop.parent data_row.result one.result row_there there));
    }

pub returns-clause-rows : goal.returns-clause-rows
returns-clause-rows c =
    let rows = c.args.rows.now in
    let found = c.args.found.now in
    c.loop-parent.invariant.rows
    ∙ ap (λ (pairs : List (DataRow × DataFound)). map Some (flat_map rows_in pairs))
    (take_all c.loop-parent.parent (zip rows found) (omega (arith, length-zip rows found, c.loop-parent-test.false)))
