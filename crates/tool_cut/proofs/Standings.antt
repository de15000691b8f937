-- The groups that are cut stand in the file.
use Rattle.std.proofs.Common.{ℕ, ℤ, List, [], ◌∷◌, map, Option, Some, None}
use Rattle.std.specs.List.{AllByRecursion}
use Rattle.mdf_layout.specs.declared.field.FieldRow.{FieldRow}
use Rattle.mdf_model.specs.declared.part.Measure.{Measure}
use Rattle.mdf_model.specs.Measurement.{HasSamples, Measured}
use Rattle.tool_sort.specs.Kept.{IsMeasureIn, StandsIn}
use Rattle.tool_cut.specs.Kept.{cut_at, cut_measure, cut_of}
use Rattle.tool_cut.specs.Master.{master_field}
use Rattle.tool_cut.proofs.Groups.{by_samples}

-- the records of the groups that stand are samples
pub all_samples : (file : List ℕ) (groups : List Measure) → AllByRecursion (IsMeasureIn file) groups → AllByRecursion HasSamples groups
all_samples file [] stand = tt
all_samples file (m ∷ groups) stand = (stand.0.samples, all_samples file groups stand.1)

module _ (file : List ℕ) (from to : ℤ) where
  at_stands : (m : Measure) (field : Option FieldRow) → IsMeasureIn file m → IsMeasureIn file (cut_at from to m field)
  at_stands m None is = is
  at_stands m (Some field) is = record {
    row = is.row;
    no_values = is.no_values;
    place = is.place;
    comment = is.comment;
    ruled = is.ruled;
    shape = is.shape;
    samples = by_samples from to m field is.samples;
  }

  one_stands : (m : Measure) → IsMeasureIn file m → IsMeasureIn file (cut_measure from to m)
  unfolding cut_measure
  one_stands m is = at_stands m (master_field m) is

  all_stand : (groups : List Measure) → AllByRecursion (IsMeasureIn file) groups → AllByRecursion (IsMeasureIn file) (map (cut_measure from to) groups)
  all_stand [] stand = tt
  all_stand (m ∷ groups) stand = (one_stands m stand.0, all_stand groups stand.1)

  pub cut_stands : (found : Measured) → StandsIn file found → StandsIn file (cut_of from to found)
  cut_stands found stands = record { bytes = stands.bytes; head = stands.head; groups = all_stand found.groups stands.groups }
