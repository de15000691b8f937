use Rattle.std.proofs.Common.{sym, ◌∙◌}
use Rattle.std.specs.Prelude.{codes}
use Rattle.mdf_schedule.proofs.histories.one_sorted_file_of_each_schedule.Goals as goal

pub returns : goal.returns
returns c = λ form also start rows history other file second now later final last sorted resorted of_final of_last of_sorted of_resorted are read read' one two same fin fin' sort sort'.
    let measured = c.one_measurement_of_each_schedule.ensures form also start rows history other file second now final last sort.found sort'.found are read read' one two same
    fin.keeps fin'.keeps (c.what_is_read_is_the_measurement.ensures final sort.found sort.is_read)
    (c.what_is_read_is_the_measurement.ensures last sort'.found sort'.is_read) in
    sort.bytes_are ∙ c.one_sorted_file.ensures sort.found sort'.found (codes "sort") later measured ∙ sym sort'.bytes_are
