use Rattle.std.proofs.Common.{map, sym, ◌∙◌, subst}
use Rattle.mdf_layout.specs.Row.{field_row}
use Rattle.mdf_carried.specs.Recovered.{Recovery, IsSessionOf}
use Rattle.mdf_carried.proofs.Placed.{RulesAgree}
use Rattle.mdf_schedule.proofs.Found.{found, is_found}
use Rattle.mdf_schedule.proofs.Alike.{found_same, sessions_same}
use Rattle.mdf_schedule.proofs.forms.one_finalized_file_of_both_forms.Goals as goal

pub returns : goal.returns
returns c = λ form also start rows history other file second now final last of_final of_last are read read' one two same fin fin'.
    let laws = c.rules_are_tested.ensures in
    let agree : RulesAgree = λ data_bytes inval_bytes rs k row breaks.
    (laws.numbers data_bytes inval_bytes rs k row).0 ((laws.fields data_bytes inval_bytes (map field_row rs) k (field_row row)).1 breaks) in
    let first = found agree start rows are form read history file one in
    let next = found agree start rows are also read' other second two in
    let held = c.what_is_read_is_recovered.ensures file fin.found fin.is_read in
    let held' = c.what_is_read_is_recovered.ensures second fin'.found fin'.is_read in
    let is_first = c.recoveries_agree.ensures.found file held.0 first held.1 (is_found agree start rows are form read history file one) in
    let is_next = c.recoveries_agree.ensures.found second held'.0 next held'.1 (is_found agree start rows are also read' other second two)
    ∙ sym (found_same agree start rows are form also read read' history other file second one two same) in
    sessions_same first fin.found fin'.found now final last
    (subst (λ (r : Recovery). IsSessionOf r fin.found) is_first held.2)
    (subst (λ (r : Recovery). IsSessionOf r fin'.found) is_next held'.2) fin.bytes_are fin'.bytes_are
