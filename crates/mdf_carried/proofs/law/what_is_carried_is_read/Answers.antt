use Rattle.std.proofs.Common.{map}
use Rattle.mdf_layout.specs.Row.{field_row}
use Rattle.mdf_carried.proofs.Sessions.{session_read}
use Rattle.mdf_carried.proofs.law.what_is_carried_is_read.Goals as goal

-- src/law.rt:30:1
pub returns : goal.returns
returns c =
    let laws = c.rules_are_tested.ensures in
    session_read (λ data_bytes inval_bytes rows k row breaks.
    (laws.numbers data_bytes inval_bytes rows k row).0 ((laws.fields data_bytes inval_bytes (map field_row rows) k (field_row row)).1 breaks))
    (λ data_bytes inval_bytes rows k row is. (laws.fields data_bytes inval_bytes rows k row).0 is)
