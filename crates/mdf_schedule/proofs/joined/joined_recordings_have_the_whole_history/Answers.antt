use Rattle.std.proofs.Common.{List, ◌++◌, map}
use Rattle.std.specs.Prelude.{flat_map}
use Rattle.mdf_content.specs.Layouts.{layout_of}
use Rattle.mdf_layout.specs.Row.{field_row}
use Rattle.mdf_layout.specs.declared.sample.Sample.{Sample}
use Rattle.mdf_carried.proofs.Placed.{RulesAgree}
use Rattle.mdf_schedule.proofs.Finished.{histories_hold, history_holds, kept}
use Rattle.mdf_schedule.proofs.Parts.{all_joined, own_samples}
use Rattle.mdf_schedule.proofs.joined.joined_recordings_have_the_whole_history.Goals as goal

pub returns : goal.returns
returns c = λ start rows first histories one later whole are done each are_joined.
    let laws = c.rules_are_tested.ensures in
    let agree : RulesAgree = λ data_bytes inval_bytes rs k row breaks.
    (laws.numbers data_bytes inval_bytes rs k row).0 ((laws.fields data_bytes inval_bytes (map field_row rs) k (field_row row)).1 breaks) in
    let found = c.recoveries_agree.ensures.found in
    let samples = c.recoveries_agree.ensures.samples in
    let carried = c.recovered_is_carried.ensures in
    let measured = c.measurements_agree.ensures in
    own_samples (map layout_of rows) (first ++ flat_map (λ (history : List Sample). history) histories) whole.groups
    (all_joined (map layout_of rows) first histories one later whole
    (kept agree start rows are found samples carried measured first one done)
    (history_holds agree start rows are found samples carried measured first one done)
    (histories_hold agree start rows are found samples carried measured histories later each) are_joined)
