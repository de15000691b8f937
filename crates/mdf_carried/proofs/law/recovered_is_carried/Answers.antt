use Rattle.std.proofs.Common.{map}
use Rattle.mdf_layout.specs.Row.{field_row}
use Rattle.mdf_carried.proofs.Carried.{carried_is_recovered}
use Rattle.mdf_carried.proofs.law.recovered_is_carried.Goals as goal

-- src/law.rt:14:1
pub returns : goal.returns
returns c =
    let laws = c.rules_are_tested.ensures in
    carried_is_recovered (λ data_bytes inval_bytes rows k row breaks.
    (laws.numbers data_bytes inval_bytes rows k row).0 ((laws.fields data_bytes inval_bytes (map field_row rows) k (field_row row)).1 breaks))
