use Rattle.std.proofs.Common.{map}
use Rattle.mdf_layout.specs.Row.{field_row}
use Rattle.mdf_carried.proofs.Apart.{ids_apart}
use Rattle.mdf_carried.proofs.law.recovered_ids_are_apart.Goals as goal

pub returns : goal.returns
returns c = λ start rows file found.
    let laws = c.rules_are_tested.ensures in
    ids_apart (λ data_bytes inval_bytes rows k row breaks.
    (laws.numbers data_bytes inval_bytes rows k row).0 ((laws.fields data_bytes inval_bytes (map field_row rows) k (field_row row)).1 breaks))
    file start rows found
