use Rattle.std.proofs.Common.{◌≡◌, List, get_or, Option, sym, ap, subst}
use Rattle.std.specs.Prelude.{slice_set}
use Rattle.mdf_layout.specs.declared.field.FieldRow.{FieldRow}
use Rattle.mdf_model.specs.declared.part.Measure.{Measure}
use Rattle.tool_cut.specs.Kept.{cut_at, cut_measure}
use Rattle.tool_cut.proofs.Groups.{set_own}
use Rattle.tool_cut.proofs.measure.cut_group.Goals as goal

pub returns-in-Some : goal.returns-in-Some
unfolding cut_measure
returns-in-Some c d =
    let found = c.args.measurement.now in
    subst (λ (field : Option FieldRow). c.cut_by.new.measurement ≡ record found {
      groups = slice_set found.groups c.args.group (cut_at c.args.range.from c.args.range.to (get_or found.groups c.args.group d) field);
    })
    (c.in-Some.ensures.field d) (c.cut_by.ensures d)

pub returns-in_default : goal.returns-in_default
unfolding cut_measure
returns-in_default c d =
    let found = c.args.measurement.now in
    subst (λ (field : Option FieldRow). found ≡ record found {
      groups = slice_set found.groups c.args.group (cut_at c.args.range.from c.args.range.to (get_or found.groups c.args.group d) field);
    })
    (c.in_default.ensures.field d) (ap (λ (groups : List Measure). record found { groups = groups }) (sym (set_own found.groups c.args.group d)))
