-- What a recording of rows with a history holds.
use Rattle.std.proofs.Common.{◌≡◌, ◌+◌, ◌<◌, ℕ, List, [], ◌∷◌, length, get_or, map, refl, sym, subst, inl, arith}
use Rattle.std.proofs.lemmas.List.{length-map}
use Rattle.std.proofs.lemmas.Option.{slice_get-get_or, slice_get_within}
use Rattle.std.specs.Prelude.{slice_get, Some}
use Rattle.std.specs.List.{concat}
use Rattle.mdf_data.specs.Split.{IsRecordSplit}
use Rattle.mdf_format.specs.declared.form.Form.{Form}
use Rattle.mdf_group.specs.declared.row.GroupRow.{GroupRow}
use Rattle.mdf_group.specs.declared.row.DataRow.{DataRow}
use Rattle.mdf_group.specs.Recordable.{AreRecordable}
use Rattle.mdf_group.proofs.Nested.{without_limit}
use Rattle.mdf_layout.specs.Layout.{Layout}
use Rattle.mdf_layout.specs.Read.{Piece, IsPiece, AreRead}
use Rattle.mdf_layout.specs.declared.sample.Sample.{Sample}
use Rattle.mdf_layout.proofs.Bridge.{encodings_read}
use Rattle.mdf_content.specs.Layouts.{layout_of}
use Rattle.mdf_spell.specs.Recording.{recorded_row, recorded_head, recorded_history, IsRecordingTree}
use Rattle.mdf_spell.specs.Standing.{AreBytes}
use Rattle.mdf_model.specs.Contents.{KeepsRules}
use Rattle.mdf_carried.specs.Recovered.{Recovery, IsRecovery}
use Rattle.mdf_carried.specs.Recovers.{IsReadHead}
use Rattle.mdf_carried.proofs.Lists.{all_along}
use Rattle.mdf_carried.proofs.Rows.{IsRecorded, fronts_many, front_at}
use Rattle.mdf_carried.proofs.Records.{record_of, known, records_split}
use Rattle.mdf_carried.proofs.Holds.{groups_hold, no_group}
use Rattle.mdf_carried.proofs.Sampled.{recovery}
use Rattle.mdf_carried.proofs.Placed.{RulesAgree, is_recorded}
use Rattle.mdf_schedule.specs.Records.{AreStored, AreRecords, IsIdOf, records_with}
use Rattle.mdf_schedule.proofs.Chunks.{content_once}
use Rattle.mdf_schedule.specs.Schedules.{IsLeftOf, IsRecordingOf, AgreeByGroup}
use Rattle.mdf_schedule.proofs.Contents.{contents_same}
use Rattle.mdf_schedule.proofs.Stored.{units_small, layout_stored, row_at}

-- the layouts of a recording keep the rules
pub layouts_keep : (rows : List GroupRow) (row : DataRow) → IsRecorded (map layout_of rows) row → (k : ℕ) (layout : Layout)
    → slice_get (map layout_of rows) k ≡ Some layout → KeepsRules layout
layouts_keep rows row is k layout there =
    let layouts = map layout_of rows in
    let below : k < length is.front = omega (arith, slice_get_within layouts k layout there, fronts_many is.at 0 is.front layouts is.fronts) in
    let group = get_or is.front k no_group in
    let one = front_at is.at 0 k is.front layouts group layout is.fronts (slice_get-get_or is.front k no_group below) there in
    subst KeepsRules one.layout_is one.ruled

pub layouts_stored : (rows : List GroupRow) (row : DataRow) → AreRecordable rows → IsRecorded (map layout_of rows) row → (k : ℕ) (layout : Layout)
    → slice_get (map layout_of rows) k ≡ Some layout → AreStored layout
layouts_stored rows row are is k layout there =
    let found = row_at rows k layout are.each there in
    let keeps = layouts_keep rows row is k layout there in
    subst AreStored found.2 (layout_stored found.0 found.1 (subst KeepsRules (sym found.2) keeps))

-- a recording that holds the records of its history as they are written
abbrev pub left_of : (form : Form) (start : ℕ) (rows : List GroupRow) (history : List Sample) (file : List ℕ) → IsRecordingOf form start rows history file
    → IsLeftOf form start rows history file
left_of form start rows history file of_rows = record {
  begins = of_rows.begins;
  carried = record {
    blocks = of_rows.encoded.blocks;
    opened = of_rows.encoded.opened;
    records = encodings_read (map layout_of rows) (concat of_rows.encoded.blocks) history of_rows.encoded.records;
  };
}

module _ (agree : RulesAgree) (start : ℕ) (rows : List GroupRow) (are : AreRecordable rows) where
  abbrev layouts : List Layout
  layouts = map layout_of rows

  abbrev row : DataRow
  row = recorded_row start rows

  module _ (form : Form) (read : IsReadHead form start rows) (samples : List Sample) (file : List ℕ) (left : IsLeftOf form start rows samples file) where
    pub tree : IsRecordingTree file start rows
    tree = subst (λ (f : List ℕ). IsRecordingTree f start rows) left.begins.1 (read.tree left.begins.0)

    pub is : IsRecorded layouts row
    is = is_recorded agree file start rows are tree

    abbrev pub bytes : List ℕ
    bytes = concat left.carried.blocks

    abbrev pub held : AreRead layouts bytes samples
    held = left.carried.records

    abbrev pub pieces : List Piece
    pieces = held.pieces

    pub records_are : AreRecords layouts bytes pieces
    records_are = record { each = held.each; bytes_are = held.bytes_are }

    -- what it holds
    abbrev pub found : Recovery
    found = recovery (recorded_head start rows) (recorded_history start rows) (row ∷ []) layouts row is pieces

    pub is_found : IsRecovery file found
    is_found =
        let each = all_along (IsPiece layouts) pieces held.each in
        let split = records_split layouts row is pieces each in
        record {
          stands = tree.head;
          tree = without_limit file _ (row ∷ []) tree.groups;
          first = refl;
          records = record {
            id_size = inl (inl refl);
            blocks = left.carried.blocks;
            opened = left.carried.opened;
            rest = [];
            split = subst (λ (bs : List ℕ). IsRecordSplit bs 1 (known layouts row is) 0 (map (record_of (length layouts)) pieces) []) (sym held.bytes_are) split;
            whole = λ some. refl;
          };
          groups = groups_hold file layouts row is pieces each samples held.samples_are;
        }

  -- one that holds the records of its history as they are written
  module _ (form : Form) (history : List Sample) (file : List ℕ) (of_rows : IsRecordingOf form start rows history file) where
    small : AreBytes (concat of_rows.encoded.blocks)
    small = units_small _ file _ _ of_rows.encoded.blocks of_rows.bytes of_rows.encoded.opened.1.units

    abbrev pub found_of : IsReadHead form start rows → Recovery
    found_of read = found form read history file (left_of form start rows history file of_rows)

    pub is_found_of : (read : IsReadHead form start rows) → IsRecovery file (found_of read)
    is_found_of read = is_found form read history file (left_of form start rows history file of_rows)

  -- two of them hold the same of each group
  pub groups_same : (form also : Form) (read : IsReadHead form start rows) (read' : IsReadHead also start rows) (history other : List Sample) (file second : List ℕ)
      (one : IsRecordingOf form start rows history file) (two : IsRecordingOf also start rows other second)
      → AgreeByGroup (length rows) history other → (found_of form history file one read).groups ≡ (found_of also other second two read').groups
  groups_same form also read read' history other file second one two same =
      let first = left_of form start rows history file one in
      let next = left_of also start rows other second two in
      contents_same layouts (pieces form read history file first) (pieces also read' other second next) 0 layouts (λ k layout there.
      let here : slice_get layouts k ≡ Some layout = there in
      let below : k < length rows = omega (arith, slice_get_within layouts k layout here, length-map rows layout_of) in
      let zero_on : k ≡ 0 + k = omega arith in
      subst (λ (n : ℕ). (id : ℕ) → IsIdOf layouts n layout id → records_with id (pieces form read history file first) ≡ records_with id (pieces also read' other second next)) zero_on
      (content_once layouts (concat one.encoded.blocks) (concat two.encoded.blocks) history other (pieces form read history file first) (pieces also read' other second next) k layout here
      (layouts_stored rows row are (is form read history file first) k layout here) (small form history file one) (small also other second two)
      one.encoded.records two.encoded.records (records_are form read history file first) (records_are also read' other second next) (same k below)))
