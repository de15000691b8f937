use Rattle.std.proofs.Common.{◌≡◌, ◌<◌, ◌∙◌, ap, subst, sym, length, Some, rules}
use Rattle.std.specs.Prelude.{slice_get}
use Rattle.std.proofs.lemmas.Option.{same_Some, slice_get_within}
use Rattle.mdf_group.specs.declared.row.DataRow.{DataRow}
use Rattle.mdf_paged.specs.Groups.{located}
use Rattle.mdf_paged.proofs.Measures.{row_is}
use Rattle.mdf_paged.proofs.Numbers.{row_placed}
use Rattle.mdf_paged.proofs.measurement.PagedMeasurement.row.Goals as goal

pub item-data_row-requires : goal.item-data_row-requires
item-data_row-requires c =
    let all = c.self.inside.all in
    let number = c.item-number.result.now in
    let index = c.self.inside.index.items in
    let there : slice_get index c.args.group ≡ Some number = search rules in
    let place = located c.place.result.0.now c.place.result.1.now in
    let led = row_placed all c.args.self.now index c.args.group number place c.self.view_is c.self.invariant.1 c.self.invariant.2 there c.place.ensures.place in
    let within : number.parent < length all.tree.rows = slice_get_within all.tree.rows number.parent led.data_row led.data_is in
    search (rules, within)

pub item-requires : goal.item-requires
item-requires c =
    let all = c.self.inside.all in
    let number = c.item-number.result.now in
    let index = c.self.inside.index.items in
    let there : slice_get index c.args.group ≡ Some number = search rules in
    let place = located c.place.result.0.now c.place.result.1.now in
    let led = row_placed all c.args.self.now index c.args.group number place c.self.view_is c.self.invariant.1 c.self.invariant.2 there c.place.ensures.place in
    let data_row : slice_get all.tree.rows number.parent ≡ Some c.item-data_row.result.now = search rules in
    let same : led.data_row ≡ c.item-data_row.result.now = same_Some led.data_row c.item-data_row.result.now (sym led.data_is ∙ data_row) in
    let within : place.group.which < length c.item-data_row.result.now.groups =
    subst (λ (d : DataRow). place.group.which < length d.groups) same (slice_get_within led.data_row.groups place.group.which led.row led.row_is) in
    search (rules, within)

pub returns-clause-row : goal.returns-clause-row
returns-clause-row c =
    let all = c.self.inside.all in
    let number = c.item-number.result.now in
    let index = c.self.inside.index.items in
    let there : slice_get index c.args.group ≡ Some number = search rules in
    let place = located c.place.result.0.now c.place.result.1.now in
    let led = row_placed all c.args.self.now index c.args.group number place c.self.view_is c.self.invariant.1 c.self.invariant.2 there c.place.ensures.place in
    let data_row : slice_get all.tree.rows number.parent ≡ Some c.item-data_row.result.now = search rules in
    let row : slice_get c.item-data_row.result.now.groups place.group.which ≡ Some c.item.result.now = search rules in
    let same : led.data_row ≡ c.item-data_row.result.now = same_Some led.data_row c.item-data_row.result.now (sym led.data_is ∙ data_row) in
    led.there ∙ sym led.row_is ∙ ap (λ (d : DataRow). slice_get d.groups place.group.which) same ∙ row

pub returns-clause-measured : goal.returns-clause-measured
returns-clause-measured c = λ f d read. row_is f c.args.self.now c.args.group d c.item.result.now read (returns-clause-row c)
