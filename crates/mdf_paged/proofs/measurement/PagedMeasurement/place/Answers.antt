use Rattle.std.proofs.Common.{◌≡◌, ◌<◌, ◌∙◌, ap, subst, sym, length, Some, rules}
use Rattle.std.specs.Prelude.{slice_get}
use Rattle.mdf_stream.specs.Parts.{ArePartsInside}
use Rattle.std.specs.List.{AllByRecursion}
use Rattle.mdf_content.specs.Found.{IsFoundInside, IsGroupInside}
use Rattle.mdf_model.specs.declared.whole.WholeFound.{WholeFound}
use Rattle.mdf_paged.specs.Groups.{Located}
use Rattle.mdf_paged.proofs.Numbers.{group_below, group_placed, parent_below, place_inside, place_same}
use Rattle.mdf_paged.proofs.measurement.PagedMeasurement.place.Goals as goal

pub item-parent-requires : goal.item-parent-requires
item-parent-requires c =
    let all = c.self.inside.all in
    let number = c.item-number.result.now in
    let there : slice_get c.self.inside.index.items c.args.group ≡ Some number = search rules in
    let led = group_placed all c.args.self.now c.self.inside.index.items c.args.group number c.self.view_is c.self.invariant.1 there in
    let within : number.parent < length all.found = parent_below all.found number.parent number.group led.0 led.2 in
    search (rules, within)

pub item-found-requires : goal.item-found-requires
item-found-requires c =
    let all = c.self.inside.all in
    let number = c.item-number.result.now in
    let there : slice_get c.self.inside.index.items c.args.group ≡ Some number = search rules in
    let led = group_placed all c.args.self.now c.self.inside.index.items c.args.group number c.self.view_is c.self.invariant.1 there in
    let parent : slice_get all.found number.parent ≡ Some c.item-parent.result.now = search rules in
    let within : number.group < length c.item-parent.result.now.groups = group_below all.found number.parent number.group led.0 led.2 c.item-parent.result.now parent in
    search (rules, within)

pub returns-clause-place : goal.returns-clause-place
returns-clause-place c =
    let all = c.self.inside.all in
    let number = c.item-number.result.now in
    let there : slice_get c.self.inside.index.items c.args.group ≡ Some number = search rules in
    let led = group_placed all c.args.self.now c.self.inside.index.items c.args.group number c.self.view_is c.self.invariant.1 there in
    let parent : slice_get all.found number.parent ≡ Some c.item-parent.result.now = search rules in
    let group : slice_get c.item-parent.result.now.groups number.group ≡ Some c.item-found.result.now = search rules in
    led.1 ∙ ap Some (place_same all.found number.parent number.group led.0 led.2 c.item-parent.result.now c.item-found.result.now parent group)

pub returns-clause-inside : goal.returns-clause-inside
returns-clause-inside c = λ size inside.
    let all = c.self.inside.all in
    let number = c.item-number.result.now in
    let there : slice_get c.self.inside.index.items c.args.group ≡ Some number = search rules in
    let led = group_placed all c.args.self.now c.self.inside.index.items c.args.group number c.self.view_is c.self.invariant.1 there in
    let parent : slice_get all.found number.parent ≡ Some c.item-parent.result.now = search rules in
    let group : slice_get c.item-parent.result.now.groups number.group ≡ Some c.item-found.result.now = search rules in
    let all_inside : AllByRecursion (IsFoundInside size) all.found =
    subst (λ (a : WholeFound). AllByRecursion (IsFoundInside size) a.found) (sym c.self.view_is) inside in
    subst (λ (p : Located). ArePartsInside size p.parent.view × IsGroupInside size p.parent.view p.parent.lists p.group)
    (place_same all.found number.parent number.group led.0 led.2 c.item-parent.result.now c.item-found.result.now parent group)
    (place_inside all.found number.parent number.group led.0 led.2 size all_inside)
