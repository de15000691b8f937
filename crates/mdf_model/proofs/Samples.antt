-- The samples of the groups of a measurement.
use Rattle.std.proofs.Common.{◌≡◌, ◌+◌, ◌*◌, ◌<◌, ◌≤◌, ℕ, zero, suc, List, [], ◌∷◌, take, Option, Some, None, refl, sym, ◌∙◌, ap, arith}
use Rattle.std.proofs.Math.Nat.{mul-le-mul_right}
use Rattle.std.specs.List.{AllByRecursion}
use Rattle.std.specs.Option.{option_map}
use Rattle.std.specs.Prelude.{filter, slice_get}
use Rattle.mdf_format.specs.Field.{field_number}
use Rattle.mdf_block.specs.declared.note.Note.{Note}
use Rattle.mdf_stream.proofs.Links.{all_more}
use Rattle.mdf_group.specs.declared.row.GroupRow.{GroupRow}
use Rattle.mdf_group.specs.declared.row.DataRow.{DataRow}
use Rattle.mdf_layout.specs.Rule.{spot_in, is_variable}
use Rattle.mdf_layout.specs.Values.{Finder, value_in, is_valid, entry_of, first_finder, finders_behind, finder_at, sample_by, streams_before}
use Rattle.mdf_layout.specs.declared.field.FieldRow.{FieldRow}
use Rattle.mdf_layout.specs.declared.field.FieldKind.{FieldKind}
use Rattle.mdf_layout.specs.declared.field.FieldKind.TheVariants.{Variable}
use Rattle.mdf_layout.specs.declared.sample.Value.{Value}
use Rattle.mdf_layout.specs.declared.sample.Value.TheVariants as value
use Rattle.mdf_layout.specs.declared.sample.Entry.{Entry}
use Rattle.mdf_layout.proofs.Entered.{parts_of_entries, finder_behind}
use Rattle.mdf_content.specs.declared.contents.Contents.{Contents}
use Rattle.mdf_content.specs.declared.contents.DataContents.{DataContents}
use Rattle.mdf_content.specs.Contents.{HaveSamples, AllHaveSamples}
use Rattle.mdf_model.specs.Measurement.{HasSamples, holds_samples, paired, data_measures, measures}
use Rattle.mdf_block.proofs.Cases.{some_injective}

-- groups with what they hold have the samples that were found
paired_samples : (comment : Note) (rows : List GroupRow) (found : List Contents) → AllByRecursion HaveSamples found
    → AllByRecursion HasSamples (paired comment rows found)
paired_samples comment [] found all = tt
paired_samples comment (row ∷ rows) [] all = tt
paired_samples comment (row ∷ rows) (one ∷ found) all = (all.0, paired_samples comment rows found all.1)

pub measures_samples : (rows : List DataRow) (found : List DataContents) → AllByRecursion AllHaveSamples found
    → AllByRecursion HasSamples (measures rows found)
measures_samples [] found all = tt
measures_samples (row ∷ rows) [] all = tt
measures_samples (row ∷ rows) (one ∷ found) all =
    all_more HasSamples (data_measures row one) (measures rows found)
    (paired_samples row.comment (filter holds_samples row.groups) one.groups all.0) (measures_samples rows found all.1)

-- record i lies in the content
pub record_within : (i count size long : ℕ) → i < count → long ≡ count * size → i * size + size ≤ long
record_within i count size long below is =
    let more : suc i * size ≤ count * size = mul-le-mul_right size (omega (arith, below)) in
    let next : i * size + size ≡ suc i * size = grind arith in
    omega (arith, more, next, is)

-- a record with a sample has no offset that meets no value
no_entry : (row : FieldRow) (bytes inval : List ℕ) (find : Finder) (index : ℕ) → row.kind ≡ Variable
    → find (field_number (spot_in row) bytes) ≡ None → entry_of row bytes inval find index ≡ None
no_entry row bytes inval find index kind missing =
    let g = option_map (λ (v : Value). record { value = v; valid = is_valid row inval }) in
    ap (λ (k : FieldKind). g (value_in k (spot_in row) bytes find index)) kind
    ∙ ap (λ (found : Option (List ℕ)). g (option_map value.Bytes found)) missing

pub none_missing : (rows : List FieldRow) (bytes inval : List ℕ) (finders : List Finder) (index k offset : ℕ) (row : FieldRow) (entries : List Entry)
    → slice_get rows k ≡ Some row → row.kind ≡ Variable → offset ≡ field_number (spot_in row) bytes
    → finder_at finders (streams_before rows k) offset ≡ None → sample_by rows bytes inval finders index ≡ Some entries → ⊥
unfolding sample_by
none_missing [] bytes inval finders index k offset row entries there kind offset_is missing is =
    let wrong : ◌≡◌ {A = Option FieldRow} None (Some row) = there in cc
none_missing (first ∷ rows) bytes inval finders index zero offset row entries there kind offset_is missing is =
    let same : first ≡ row = some_injective first row there in
    let found = parts_of_entries (entry_of first bytes inval (first_finder finders) index) (sample_by rows bytes inval (finders_behind first finders) index) entries is in
    let none : entry_of row bytes inval (first_finder finders) index ≡ None =
    no_entry row bytes inval (first_finder finders) index kind (ap (first_finder finders) (sym offset_is) ∙ missing) in
    let wrong : ◌≡◌ {A = Option Entry} None (Some found.0) =
    sym none ∙ ap (λ (r : FieldRow). entry_of r bytes inval (first_finder finders) index) (sym same) ∙ found.2 in cc
none_missing (first ∷ rows) bytes inval finders index (suc k) offset row entries there kind offset_is missing is =
    let found = parts_of_entries (entry_of first bytes inval (first_finder finders) index) (sample_by rows bytes inval (finders_behind first finders) index) entries is in
    let finder = finder_behind (is_variable first) first (take k rows) finders refl in
    none_missing rows bytes inval (finders_behind first finders) index k offset row found.1 there kind offset_is
    (ap (λ (find : Finder). find offset) finder ∙ missing) found.3
