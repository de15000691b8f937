use Rattle.std.proofs.Common.{subst, ap, ◌∙◌, map}
use Rattle.mdf_group.specs.Recordable.{numbers_of}
use Rattle.mdf_layout.specs.Row.{field_row}
use Rattle.mdf_layout.specs.Rule.{IsFirstBad}
use Rattle.mdf_layout.specs.Fault.{ShapeCause}
use Rattle.mdf_layout.specs.declared.shape.ShapeFault.TheVariants.{Bad}
use Rattle.acq_script.proofs.Sketches.{never_bad}
use Rattle.acq_script.proofs.sketch.shape_of_row.Goals as goal

pub unreachable-requires : goal.unreachable-requires
unreachable-requires c =
    let row = c.args.row.now in
    let fields = c.in_ok-fields.fields in
    let channel = c.in-Err-Bad.field-0-0 in
    let first : ShapeCause row.data_bytes row.inval_bytes fields (Bad channel) = subst (ShapeCause row.data_bytes row.inval_bytes fields) c.in-Err-Bad.field-0-is c.in-Err-Bad.ensures.fault in
    never_bad row.data_bytes row.inval_bytes row.channels channel c.requires (λ rows k one breaks. (c.rules_are_tested.ensures.numbers row.data_bytes row.inval_bytes rows k one).0 breaks)
    (subst (λ rows. IsFirstBad row.data_bytes row.inval_bytes rows channel) (c.in_ok-fields.ensures ∙ ap (map (λ channel. field_row (numbers_of channel))) c.as_slice.ensures) first)
