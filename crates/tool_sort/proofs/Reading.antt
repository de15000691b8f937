-- The groups of a file's measurement stand in it.
use Rattle.std.proofs.Common.{◌≡◌, ◌+◌, ℕ, Bool, true, false, List, [], ◌∷◌, refl, sym, subst}
use Rattle.std.specs.Prelude.{Result, Ok, Err, IfOk, filter, zip}
use Rattle.std.specs.List.{flat_map, enumerate_from, AllByRecursion, AllZip}
use Rattle.mdf_format.specs.Block.{link_at}
use Rattle.mdf_block.specs.Refusal.{GivesOf}
use Rattle.mdf_block.specs.Text.{IsNote}
use Rattle.mdf_stream.proofs.Links.{all_more}
use Rattle.mdf_data.specs.Split.{Record}
use Rattle.mdf_group.specs.declared.row.GroupRow.{GroupRow}
use Rattle.mdf_group.specs.declared.row.DataRow.{DataRow}
use Rattle.mdf_group.specs.Group.{is_variable}
use Rattle.mdf_group.specs.Standing.{IsGroup, IsDataGroup, AreDataGroups}
use Rattle.mdf_content.specs.declared.contents.Contents.{Contents}
use Rattle.mdf_content.specs.declared.fault.ReadFault.{ReadFault}
use Rattle.mdf_content.specs.Fault.{read_refusal}
use Rattle.mdf_spell.specs.Standing.{AreBytes}
use Rattle.mdf_model.specs.Measurement.{Measured, holds_samples, paired, measurement}
use Rattle.mdf_model.specs.Contents.{IsContents, is_of_samples, IsDataContents}
use Rattle.mdf_model.specs.InWords.{row_measures, IsMeasurement}
use Rattle.mdf_model.proofs.Wholes.{measurement_read}
use Rattle.tool_sort.specs.Kept.{IsMeasureIn, StandsIn}

module _ (file : List ℕ) (row : DataRow) (records : List Record) (place : ℕ) (noted : IsNote file place row.comment) where
  abbrev AreIn : List GroupRow → List Contents → Type 0
  AreIn groups found = AllByRecursion (IsMeasureIn file) (paired row.comment (filter holds_samples groups) found)

  abbrev Hold : ℕ → List GroupRow → List Contents → Type 0
  Hold k groups found = AllZip (λ (one : ℕ × GroupRow) (contents : Contents). IsContents file row records one.0 one.1 contents)
      (filter is_of_samples (enumerate_from k groups)) found

  -- a group, where it is told whether it holds values, and the groups behind it
  group_in : (b : Bool) (k : ℕ) (group : GroupRow) (groups : List GroupRow) (found : List Contents) → is_variable group ≡ b → IsGroup file group
      → ((more : List Contents) → Hold (k + 1) groups more → AreIn groups more)
      → Hold k (group ∷ groups) found → AreIn (group ∷ groups) found
  group_in true k group groups found is stands rest hold = rw is (rest found (rw is at hold))
  group_in false k group groups [] is stands rest hold = rw is tt
  group_in false k group groups (contents ∷ found) is stands rest hold =
      let both = rw is at hold in rw is (
        record {
          row = stands;
          no_values = is;
          place = place;
          comment = noted;
          ruled = both.0.ruled;
          shape = both.0.shape;
          samples = both.0.samples;
        },
        rest found both.1,
      )

  groups_in : (k : ℕ) (groups : List GroupRow) (found : List Contents) → AllByRecursion (IsGroup file) groups → Hold k groups found → AreIn groups found
  groups_in k [] found each hold = tt
  groups_in k (group ∷ groups) found each hold =
      group_in (is_variable group) k group groups found refl each.0 (λ more. groups_in (k + 1) groups more each.1) hold

-- the groups of data groups
data_in : (file : List ℕ) (rows : List DataRow) (contents : List (List Contents)) → AllByRecursion (IsDataGroup file) rows
    → AllZip (IsDataContents file) rows contents → AllByRecursion (IsMeasureIn file) (flat_map row_measures (zip rows contents))
data_in file [] contents each hold = tt
data_in file (row ∷ rows) [] each hold = tt
data_in file (row ∷ rows) (found ∷ contents) each hold =
    all_more (IsMeasureIn file) (row_measures (row, found)) (flat_map row_measures (zip rows contents))
    (groups_in file row hold.0.records (link_at file row.at 3) each.0.comment 0 row.groups found each.0.groups.each hold.0.groups)
    (data_in file rows contents each.1 hold.1)

pub measured_stands : (file : List ℕ) (m : Measured) → AreBytes file → (is : IsMeasurement file m.head m.history m.groups)
    → AreDataGroups file m.head.first_dg is.rows → StandsIn file m
measured_stands file m bytes is rows = record {
  bytes = bytes;
  head = is.stands;
  groups = subst (AllByRecursion (IsMeasureIn file)) (sym is.groups_are) (data_in file is.rows is.contents rows.each is.hold);
}

-- what is read stands
pub read_stands : (file : List ℕ) (result : Result Measured ReadFault) → AreBytes file → GivesOf read_refusal result (measurement file)
    → IfOk result (StandsIn file)
read_stands file (Ok m) bytes is = let found = measurement_read file m is in measured_stands file m bytes found.0 found.1
read_stands file (Err fault) bytes is = tt
