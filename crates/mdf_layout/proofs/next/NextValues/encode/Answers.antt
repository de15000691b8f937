use Rattle.std.proofs.Common.{◌∙◌, All, ap, sym, subst, arith, length}
use Rattle.std.proofs.lemmas.Option.{slice_get_within}
use Rattle.mdf_layout.specs.Written.{AreApart}
use Rattle.mdf_layout.specs.Stored.{IsStored}
use Rattle.mdf_layout.specs.Next.{Next, AreNext}
use Rattle.mdf_layout.proofs.Once.{ids_rise}
use Rattle.mdf_layout.proofs.Nexts.{of_layout, next_there}
use Rattle.mdf_layout.proofs.next.NextValues.encode.Goals as goal

pub index-next-requires : goal.index-next-requires
index-next-requires c =
    let are = subst (AreNext c.args.shapes.now c.requires.next.0) (sym c.self.view_is) c.requires.next.1 in
    omega (
      arith,
      slice_get_within c.self.inside.groups.items c.args.sample.now.group _ (are.each c.args.sample.now.group c.at-shape.result.now c.at-shape.ensures),
      c.self.inside.groups.ok.0,
    )

pub encode_in_group-requires-clause-group : goal.encode_in_group-requires-clause-group
encode_in_group-requires-clause-group c =
    omega (arith, slice_get_within c.args.shapes.now c.args.sample.now.group c.at-shape.result.now c.at-shape.ensures, c.requires.ids)

pub encode_in_group-requires-clause-apart : goal.encode_in_group-requires-clause-apart
encode_in_group-requires-clause-apart c = of_layout (λ l. AreApart l.rows) c.args.shapes.now c.args.sample.now.group c.at-shape.result.now c.at-shape.ensures c.requires.apart

pub encode_in_group-requires-clause-stored : goal.encode_in_group-requires-clause-stored
encode_in_group-requires-clause-stored c = of_layout (λ l. All IsStored l.rows) c.args.shapes.now c.args.sample.now.group c.at-shape.result.now c.at-shape.ensures c.requires.stored

pub encode_in_group-requires-clause-ids : goal.encode_in_group-requires-clause-ids
encode_in_group-requires-clause-ids c =
    let layouts = c.args.shapes.now in
    let group = c.args.sample.now.group in
    let layout = c.at-shape.result.now in
    let within = slice_get_within layouts group layout c.at-shape.ensures in
    let mine = next_there layouts c.requires.next.0 group layout c.self.inside.groups.items c.index-next.result.now c.at-shape.ensures
    (subst (AreNext layouts c.requires.next.0) (sym c.self.view_is) c.requires.next.1) c.index-next.ensures in
    omega (arith, ids_rise layouts group (length layouts) layout c.at-shape.ensures within, c.requires.ids, ap (λ n. n.id) (c.next.view_is ∙ mine))

pub returns-clause-record : goal.returns-clause-record
returns-clause-record c = λ before given.
    let layouts = c.args.shapes.now in
    let are = subst (AreNext layouts before) (sym c.self.view_is) given in
    let mine = next_there layouts before c.args.sample.now.group c.at-shape.result.now c.self.inside.groups.items c.index-next.result.now c.at-shape.ensures are c.index-next.ensures in
    c.encode_in_group.ensures.record layouts before c.at-shape.ensures
    (ap {B = Next} (λ os. record { id = c.next.inside.id; offsets = os }) c.as_slice.ensures.value ∙ c.next.view_is ∙ mine)
