-- What a recording carries is what is recovered of it.
use Rattle.std.proofs.Common.{ℕ, List, [], ◌∷◌, length, map, refl, sym, subst, inl}
use Rattle.mdf_group.specs.declared.row.GroupRow.{GroupRow}
use Rattle.mdf_group.specs.Recordable.{AreRecordable}
use Rattle.mdf_group.proofs.Nested.{without_limit}
use Rattle.mdf_layout.specs.declared.sample.Sample.{Sample}
use Rattle.mdf_data.specs.Split.{IsRecordSplit}
use Rattle.mdf_content.specs.Layouts.{layout_of}
use Rattle.mdf_spell.specs.Recording.{recorded_row, recorded_head, recorded_history, IsRecordingTree}
use Rattle.mdf_gate.specs.Carried.{IsCarried}
use Rattle.mdf_carried.specs.Samples.{IsRecovered}
use Rattle.mdf_carried.proofs.Lists.{all_along}
use Rattle.mdf_carried.proofs.Records.{record_of, known, records_split}
use Rattle.mdf_carried.proofs.Holds.{groups_hold}
use Rattle.mdf_carried.proofs.Sampled.{recovery, samples_are}
use Rattle.mdf_carried.proofs.Placed.{RulesAgree, is_recorded}
use Rattle.mdf_layout.specs.Read.{IsPiece}

pub carried_is_recovered : RulesAgree → (start : ℕ) (rows : List GroupRow) (file : List ℕ) (samples : List Sample) → AreRecordable rows
    → IsRecordingTree file start rows → IsCarried (map layout_of rows) file samples → IsRecovered file samples
carried_is_recovered agree start rows file samples are tree carried =
    let layouts = map layout_of rows in
    let row = recorded_row start rows in
    let is = is_recorded agree file start rows are tree in
    let pieces = carried.records.pieces in
    let each = all_along (IsPiece layouts) pieces carried.records.each in
    let records = map (record_of (length layouts)) pieces in
    let split = records_split layouts row is pieces each in
    record {
      found = recovery (recorded_head start rows) (recorded_history start rows) (row ∷ []) layouts row is pieces;
      recovery = record {
        stands = tree.head;
        tree = without_limit file _ (row ∷ []) tree.groups;
        first = refl;
        records = record {
          id_size = inl (inl refl);
          blocks = carried.blocks;
          opened = carried.opened;
          rest = [];
          split = subst (λ (bytes : List ℕ). IsRecordSplit bytes 1 (known layouts row is) 0 records []) (sym carried.records.bytes_are) split;
          whole = λ some. refl;
        };
        groups = groups_hold file layouts row is pieces each samples carried.records.samples_are;
      };
      each = samples_are (recorded_head start rows) (recorded_history start rows) (row ∷ []) layouts row is pieces 0 [] samples [] pieces each refl refl
          (λ g below. refl) carried.records.samples_are;
    }
