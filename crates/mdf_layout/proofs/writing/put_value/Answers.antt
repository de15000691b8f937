use Rattle.std.proofs.Common.{◌∙◌, ap, sym, subst, length}
use Rattle.mdf_format.specs.Field.{HasBit}
use Rattle.mdf_layout.specs.Rule.{spot_in, IsPlacedAs}
use Rattle.mdf_layout.proofs.Stays.{other_bytes, bytes_fit}
use Rattle.mdf_layout.proofs.writing.put_value.Goals as goal

pub returns-in-Bytes-clause-others : goal.returns-in-Bytes-clause-others
returns-in-Bytes-clause-others c =
    let row = c.args.row in
    let placed = subst (λ kind. IsPlacedAs kind (length c.args.content.now) (spot_in row)) c.in-Fixed.is c.requires.placed in
    let long = ap length c.as_slice.ensures ∙ bytes_fit row.kind row.bits _ _ c.in-Fixed.is c.in-Bytes.is c.requires.fits in
    other_bytes (spot_in row) c.args.content.now c.put_bytes.new.content (length c.as_slice.result.now) placed long
    c.put_bytes.ensures.before c.put_bytes.ensures.behind

pub returns-in-Signed-value-clause-others : goal.returns-in-Signed-value-clause-others
returns-in-Signed-value-clause-others c = λ p free.
    c.put-in-Signed-value.ensures.other_bits p (subst (λ spot. ¬ HasBit spot p) (sym c.number_field-in-Signed-value.ensures) free)
