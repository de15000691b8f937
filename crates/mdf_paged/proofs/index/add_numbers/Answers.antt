use Rattle.std.proofs.Common.{◌≡◌, ◌∙◌, List, Some, ap, append-nil, arith, length, map, refl, sym}
use Rattle.std.specs.Prelude.{slice_get}
use Rattle.std.proofs.lemmas.Option.{slice_get_read}
use Rattle.mdf_content.specs.declared.found.Found.{Found}
use Rattle.mdf_paged.specs.Groups.{group_at, row_at}
use Rattle.mdf_paged.proofs.Numbers.{next_group, next_row}
use Rattle.mdf_paged.proofs.index.add_numbers.Goals as goal

pub loop-group-init : goal.loop-group-init
loop-group-init c = record {
  groups = λ found before there is. is ∙ ap (map Some) (sym (append-nil before));
  rows = λ rows found before row_there there is. is ∙ ap (map Some) (sym (append-nil before));
}

pub loop-group-preserved : goal.loop-group-preserved
loop-group-preserved c =
    let loop = c.loop-group in
    let one = c.args.one.now in
    let group = c.index-groups-group in
    let groups = c.as_slice-groups.result.now in
    let here : slice_get one.groups loop.group ≡ Some group.result =
    ap (λ (all : List Found). slice_get all loop.group) (sym c.as_slice-groups.ensures)
    ∙ slice_get_read groups (length groups) loop.group group.result refl (omega (arith, c.loop-group-test.true)) group.is in
    record {
      groups = λ found before there is.
          ap (map (group_at found)) c.in_ok-push.ensures.items
          ∙ next_group found c.args.parent loop.group one loop.index.items there before group.result here (loop.invariant.groups found before there is);
      rows = λ rows found before row_there there is.
          ap (map (row_at rows found)) c.in_ok-push.ensures.items
          ∙ next_row found c.args.parent loop.group one loop.index.items there rows c.args.data_row.now before group.result row_there here
          (omega (arith, c.if-groups-group.false, c.len.ensures, ap (λ (found : Found). found.which) group.is)) (loop.invariant.rows rows found before row_there there is);
    }
