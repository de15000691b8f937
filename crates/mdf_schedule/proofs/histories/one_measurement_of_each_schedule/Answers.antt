use Rattle.std.proofs.Common.{map, refl, subst}
use Rattle.mdf_layout.specs.Row.{field_row}
use Rattle.mdf_carried.specs.Recovered.{Recovery}
use Rattle.mdf_carried.proofs.Placed.{RulesAgree}
use Rattle.tool_final.specs.Keeping.{KeepsRecovery}
use Rattle.mdf_schedule.proofs.Found.{found_of, is_found_of, groups_same}
use Rattle.mdf_schedule.proofs.Measures.{keeps_same}
use Rattle.mdf_schedule.proofs.histories.one_measurement_of_each_schedule.Goals as goal

pub returns : goal.returns
returns c = λ form also start rows history other file second now final last m n are read read' one two same fin fin' of_final of_last.
    let laws = c.rules_are_tested.ensures in
    let agree : RulesAgree = λ data_bytes inval_bytes rs k row breaks.
    (laws.numbers data_bytes inval_bytes rs k row).0 ((laws.fields data_bytes inval_bytes (map field_row rs) k (field_row row)).1 breaks) in
    let first = found_of agree start rows are form history file one read in
    let next = found_of agree start rows are also other second two read' in
    let is_first = c.recoveries_agree.ensures.found file fin.recovered.found first fin.recovered.recovery (is_found_of agree start rows are form history file one read) in
    let is_next = c.recoveries_agree.ensures.found second fin'.recovered.found next fin'.recovered.recovery (is_found_of agree start rows are also other second two read') in
    keeps_same c.measurements_agree.ensures first next final last now m n refl refl refl
    (groups_same agree start rows are form also read read' history other file second one two same)
    (subst (λ (r : Recovery). KeepsRecovery r final now) is_first fin.keeps)
    (subst (λ (r : Recovery). KeepsRecovery r last now) is_next fin'.keeps) of_final of_last
