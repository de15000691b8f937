use Rattle.mdf_layout.proofs.Rules.{breaks_law}
use Rattle.mdf_layout.proofs.Numbers.{numbers_law}
use Rattle.mdf_layout.proofs.row.rules_are_tested.Goals as goal

pub returns-clause-fields : goal.returns-clause-fields
returns-clause-fields c = λ data_bytes inval_bytes rows k row.
    let law = breaks_law data_bytes inval_bytes rows k row in (law.to, law.from)

pub returns-clause-numbers : goal.returns-clause-numbers
returns-clause-numbers c = λ data_bytes inval_bytes rows k row.
    let law = numbers_law data_bytes inval_bytes rows k row in (law.to, law.from)
