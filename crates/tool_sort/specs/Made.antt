-- The sorted file of a measurement with what is told of it.
use Rattle.std.specs.Prelude.{ℕ, ◌≡◌, List, length, sum_by}
use Rattle.mdf_model.specs.declared.part.Measure.{Measure}
use Rattle.mdf_model.specs.Measurement.{Measured}
use Rattle.mdf_tool.specs.declared.made.Made.{Made}
use Rattle.mdf_tool.specs.declared.made.Report.{Report}
use Rattle.tool_sort.specs.Sorted.{sorted_file}

-- how many samples the groups have in all
abbrev pub sample_count : List Measure → ℕ
sample_count groups = sum_by (λ (m : Measure). m.count) groups

-- what is told of the file: its groups and samples, and how many links were passed over where the measurement was read
abbrev pub report_for : Measured → Report
report_for m = record { groups = length m.groups; samples = sample_count m.groups; dropped = m.dropped }

pub record IsMadeOf (m : Measured) (title : List ℕ) (now : ℕ) (made : Made) : Type 0 where
  pub bytes_are : made.bytes ≡ sorted_file m title now
  pub report_is : made.report ≡ report_for m
