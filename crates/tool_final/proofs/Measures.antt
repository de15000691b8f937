-- The measurement of a finalized file is what its recording holds.
use Rattle.std.proofs.Common.{◌≡◌, ◌+◌, ◌≤◌, ℕ, List, [], ◌∷◌, ◌++◌, length, map, refl, sym, ◌∙◌, ap, subst, inl, inr, arith, length-append, append-nil}
use Rattle.std.specs.Prelude.{filter}
use Rattle.std.specs.List.{concat, flat_map, AllByRecursion, AllZip, enumerate_from}
use Rattle.std.proofs.lemmas.Slice.Zip.{AllZip-long}
use Rattle.mdf_format.specs.Block.{IsBlock}
use Rattle.mdf_format.specs.Identification.{standard_flags, custom_flags}
use Rattle.mdf_format.specs.declared.kind.Kind.{Kind}
use Rattle.mdf_format.specs.declared.kind.Kind.TheVariants.{Cg, Dt}
use Rattle.mdf_block.specs.Draft.{Placed, address_of, block_bytes}
use Rattle.mdf_stream.specs.Stream.{IsOne}
use Rattle.mdf_data.specs.declared.known.Known.{Known}
use Rattle.mdf_data.specs.Record.{IsIdSize}
use Rattle.mdf_data.specs.Split.{Record, IsRecordSplit}
use Rattle.mdf_head.specs.declared.entry.History.{History}
use Rattle.mdf_group.specs.declared.row.GroupRow.{GroupRow}
use Rattle.mdf_group.specs.declared.row.DataRow.{DataRow}
use Rattle.mdf_group.specs.Standing.{AreDistinct}
use Rattle.mdf_group.proofs.Nested.{without_limit}
use Rattle.mdf_content.specs.declared.contents.Contents.{Contents}
use Rattle.mdf_content.specs.Records.{known_of}
use Rattle.mdf_model.specs.declared.part.Measure.{Measure}
use Rattle.mdf_model.specs.Measurement.{holds_samples, paired, contents_of}
use Rattle.mdf_data.specs.Bodies.{bodies}
use Rattle.mdf_model.specs.Contents.{HasIdSize, empties_in, IsContents, IsDataSplit, sample_groups, IsDataContents}
use Rattle.mdf_model.specs.InWords.{IsFinalizedMdf, IsMeasurement, IsValidData}
use Rattle.mdf_model.specs.Same.{plain_head, plain_group, SameRows}
use Rattle.mdf_block.proofs.Names.{none_first}
use Rattle.mdf_carried.specs.Recovered.{AreRecords, IsGroupContents, Recovery, IsRecovery}
use Rattle.mdf_tree.specs.Group.{data_groups}
use Rattle.mdf_tree.specs.Head.{placed_history}
use Rattle.mdf_tree.proofs.Heads.{entries_same}
use Rattle.mdf_spell.specs.declared.recovered.Recovered.{Recovered}
use Rattle.mdf_spell.specs.Counts.{IsCounted}
use Rattle.mdf_spell.specs.Session.{finalized_ident, session_names, session_history, session_blocks, session_file}
use Rattle.mdf_spell.specs.Standing.{HoldsData, HoldStreams, data_number, records_number, finalized_row, IsSessionTree}
use Rattle.mdf_spell.specs.Values.{with_streams, own_streams, group_numbers}
use Rattle.mdf_carried.proofs.Grouped.{passed_long}
use Rattle.tool_final.specs.Keeping.{plain_entry, row_of, HasComment, KeepsRecovery}
use Rattle.tool_final.proofs.Fields.{AreCounted, are_counted, knowns_same}
use Rattle.tool_final.proofs.Names.{chain_blocks, named}
use Rattle.tool_final.proofs.Plain.{rows_plain, said_true, ids_same, count_same, paired_rows, paired_contents, paired_comments}
use Rattle.tool_final.proofs.Splits.{bytes_of, split_again, none_said}
use Rattle.tool_final.proofs.Threads.{thread_groups}

-- what the finalized file is made of is this of a recording
pub record IsMadeFrom (found : Recovery) (recovered : Recovered) : Type 0 where
  pub head : recovered.head.now ≡ found.head
  pub history : recovered.history.now ≡ found.history
  pub row : recovered.row.now ≡ found.row
  pub counts : recovered.counts.now ≡ map (λ (group : ℕ × GroupRow). length (bodies found.row.id_size found.records group.0)) (enumerate_from 0 found.row.groups)
  pub content : recovered.content.now ≡ bytes_of found.records
  pub streams : recovered.streams.now ≡ flat_map (λ (contents : Contents). contents.streams) found.groups

-- the identification
ident_finalized : (rest : List ℕ) → IsFinalizedMdf (finalized_ident ++ rest)
ident_finalized rest =
    let long : 64 ≤ length (finalized_ident ++ rest) = omega (arith, length-append finalized_ident rest) in record {
      mdf = record { long = long; marked = inl refl };
      version = record { not_below = omega arith; not_above = omega arith };
      finalized = refl;
    }

no_standard : (rest : List ℕ) → standard_flags (finalized_ident ++ rest) ≡ 0
no_standard rest = refl

no_custom : (rest : List ℕ) → custom_flags (finalized_ident ++ rest) ≡ 0
no_custom rest = refl

-- as many groups stand, so that the id size fits
size_fits : (row after : DataRow) → row.id_size ≡ after.id_size → length after.groups ≡ length row.groups → HasIdSize row → HasIdSize after
size_fits row after same long (inl some) = inl (subst IsIdSize same some)
size_fits row after same long (inr few) = inr (sym same ∙ few.0, subst (λ (n : ℕ). n ≤ 1) (sym long) few.1)

module _ (f file : List ℕ) (recovered : Recovered) (now : ℕ) (records : List Record) (groups : List Contents)
    (ident : IsFinalizedMdf file) (tree : IsSessionTree file recovered now) (counted : IsCounted recovered)
    (are_records : AreRecords f recovered.row.now records)
    (each : AllZip (IsGroupContents f recovered.row.now records) (sample_groups recovered.row.now) groups)
    (counts : recovered.counts.now
    ≡ map (λ (group : ℕ × GroupRow). length (bodies recovered.row.now.id_size records group.0)) (enumerate_from 0 recovered.row.now.groups))
    (content : recovered.content.now ≡ bytes_of records)
    (streams : recovered.streams.now ≡ flat_map (λ (contents : Contents). contents.streams) groups) where
  abbrev row : DataRow
  row = recovered.row.now

  abbrev after : DataRow
  after = finalized_row recovered now

  abbrev blocks : List Placed
  blocks = session_blocks recovered now

  abbrev numbers : List ℕ
  numbers = group_numbers (data_groups (data_number recovered now) row) row.groups

  are : AreCounted row.id_size records 0 row.groups recovered.counts.now recovered.totals.now
  are = are_counted row.id_size records blocks 0 row.groups recovered.counts.now recovered.totals.now counts counted.totals

  free : (kind : Kind) → IsBlock file 0 kind → ⊥
  free kind = none_first file ident.finalized kind

  -- the records
  is_split : IsDataSplit file after records []
  is_split =
      let held : HoldsData file after.content Dt recovered.content.now = tree.records in
      let split : IsRecordSplit (bytes_of records) row.id_size (map known_of row.groups) (empties_in after.groups) records [] =
      split_again (concat are_records.blocks) row.id_size (map known_of row.groups) records are_records.rest (empties_in after.groups) are_records.split are_records.whole
      (none_said row.id_size records blocks row.groups recovered.counts.now recovered.totals.now (data_groups (data_number recovered now) row)
      (with_streams (records_number recovered now + 1) (session_names (data_number recovered now) row)) are) in
      let known : IsRecordSplit (bytes_of records) row.id_size (map known_of after.groups) (empties_in after.groups) records [] =
      subst (λ (ks : List Known). IsRecordSplit (bytes_of records) row.id_size ks (empties_in after.groups) records [])
      (sym (knowns_same row.id_size records blocks 0 row.groups recovered.counts.now recovered.totals.now (data_groups (data_number recovered now) row)
      (with_streams (records_number recovered now + 1) (session_names (data_number recovered now) row)) are)) split in
      record {
        stream = recovered.content.now;
        is_stream = IsOne (λ none. free Dt (subst (λ (n : ℕ). IsBlock file n Dt) none held.0)) held.0 (sym held.1);
        split = subst (λ (stream : List ℕ). IsRecordSplit stream row.id_size (map known_of after.groups) (empties_in after.groups) records []) (sym content) known;
      }

  -- the groups
  all_hold : AllZip (λ (group : ℕ × GroupRow) (contents : Contents). IsContents file after records group.0 group.1 contents) (sample_groups after) groups
  all_hold =
      let n = data_groups (data_number recovered now) row in
      let values = with_streams (records_number recovered now + 1) (session_names (data_number recovered now) row) in
      let stand = chain_blocks file _ Cg _ tree.groups.each.0.groups.chain in
      let held = subst (λ (found : List (List ℕ)). HoldStreams file blocks (records_number recovered now + 1)
      (own_streams (session_names (data_number recovered now) row) found)) streams tree.streams in
      thread_groups f file row after records blocks numbers refl free stand
      (λ at. named blocks row.id_size records 0 row.groups recovered.counts.now recovered.totals.now n 0 at values are tree.groups.each.0.groups.once)
      row.groups 0 n recovered.counts.now recovered.totals.now are (records_number recovered now + 1) groups each held

  long : length after.groups ≡ length row.groups
  long = count_same row.id_size records blocks 0 row.groups recovered.counts.now recovered.totals.now (data_groups (data_number recovered now) row)
      (with_streams (records_number recovered now + 1) (session_names (data_number recovered now) row)) are

  data_holds : IsDataContents file after groups
  data_holds = record {
    id_size = size_fits row after refl long are_records.id_size;
    records = records;
    rest = [];
    split = is_split;
    whole = λ _. refl;
    groups = all_hold;
  }

  abbrev pub measures : List Measure
  measures = paired row.comment (filter holds_samples after.groups) groups

  pub is_measured : IsMeasurement file (record recovered.head.now { first_dg = address_of blocks (data_number recovered now) })
      (placed_history blocks 1 (session_history recovered.history.now now)) measures
  is_measured = record {
    ident = ident;
    stands = tree.head;
    rows = after ∷ [];
    tree = without_limit file _ (after ∷ []) tree.groups;
    contents = groups ∷ [];
    hold = (data_holds, tt);
    groups_are = sym (append-nil measures);
  }

  -- validity
  pub is_valid_data : AreDistinct (map (λ (group : GroupRow). group.id) row.groups) → IsValidData file after
  is_valid_data apart = record {
    records = records;
    split = is_split;
    said = said_true row.id_size records blocks 0 row.groups recovered.counts.now recovered.totals.now (data_groups (data_number recovered now) row)
        (with_streams (records_number recovered now + 1) (session_names (data_number recovered now) row)) are;
    ids = subst AreDistinct
        (sym (ids_same row.id_size records blocks 0 row.groups recovered.counts.now recovered.totals.now (data_groups (data_number recovered now) row)
        (with_streams (records_number recovered now + 1) (session_names (data_number recovered now) row)) are)) apart;
  }

  pub paired_long : length (filter holds_samples after.groups) ≡ length groups
  paired_long = sym (passed_long holds_samples 0 after.groups) ∙ sym (AllZip-long _ (sample_groups after) groups all_hold)

  pub rows_same : SameRows (filter holds_samples row.groups) (map row_of measures)
  rows_same =
      rows_plain row.id_size records blocks 0 row.groups recovered.counts.now recovered.totals.now (data_groups (data_number recovered now) row)
      (with_streams (records_number recovered now + 1) (session_names (data_number recovered now) row)) are
      ∙ sym (ap (map plain_group) (paired_rows row.comment (filter holds_samples after.groups) groups paired_long))

  pub contents_same : map contents_of measures ≡ groups
  contents_same = paired_contents row.comment (filter holds_samples after.groups) groups paired_long

  pub comments_same : AllByRecursion (HasComment row.comment) measures
  comments_same = paired_comments row.comment (filter holds_samples after.groups) groups

-- the finalized file keeps the recording
pub keeps_recovery : (f file : List ℕ) (found : Recovery) (recovered : Recovered) (now : ℕ) → IsRecovery f found → IsMadeFrom found recovered
    → IsCounted recovered → file ≡ session_file recovered now → IsSessionTree file recovered now → KeepsRecovery found file now
unfolding is_measured
keeps_recovery f file found recovered now is made counted is_file tree =
    let blocks = session_blocks recovered now in
    let row = recovered.row.now in
    let rest = flat_map (block_bytes blocks) blocks in
    let ident : IsFinalizedMdf file = subst IsFinalizedMdf (sym is_file) (ident_finalized rest) in
    let back : found.row ≡ row = sym made.row in
    let records : AreRecords f row found.records = subst (λ (r : DataRow). AreRecords f r found.records) back is.records in
    let each : AllZip (IsGroupContents f row found.records) (sample_groups row) found.groups =
    subst (λ (r : DataRow). AllZip (IsGroupContents f r found.records) (sample_groups r) found.groups) back is.groups in
    let counts : recovered.counts.now ≡ map (λ (group : ℕ × GroupRow). length (bodies row.id_size found.records group.0)) (enumerate_from 0 row.groups) =
    made.counts
    ∙ ap (λ (r : DataRow). map (λ (group : ℕ × GroupRow). length (bodies r.id_size found.records group.0)) (enumerate_from 0 r.groups)) back in
    let all = measures f file recovered now found.records found.groups ident tree counted records each counts made.content made.streams in
    let measured : IsMeasurement file (record recovered.head.now { first_dg = address_of blocks (data_number recovered now) })
    (placed_history blocks 1 (session_history recovered.history.now now)) all =
    is_measured f file recovered now found.records found.groups ident tree counted records each counts made.content made.streams in
    record {
      head = record recovered.head.now { first_dg = address_of blocks (data_number recovered now) };
      history = placed_history blocks 1 (session_history recovered.history.now now);
      groups = all;
      measurement = measured;
      same_head = ap plain_head (sym made.head);
      one_more =
          entries_same blocks 1 (session_history recovered.history.now now)
          ∙ ap (λ (entries : List History). map plain_entry (session_history entries now)) made.history;
      same_rows =
          ap (λ (r : DataRow). map plain_group (filter holds_samples r.groups)) back
          ∙ rows_same f file recovered now found.records found.groups ident tree counted records each counts made.content made.streams;
      comments =
          subst (λ (r : DataRow). AllByRecursion (HasComment r.comment) all) made.row
          (comments_same f file recovered now found.records found.groups ident tree counted records each counts made.content made.streams);
      contents = contents_same f file recovered now found.records found.groups ident tree counted records each counts made.content made.streams;
      valid = λ apart.
          let distinct : AreDistinct (map (λ (group : GroupRow). group.id) row.groups) =
          subst (λ (r : DataRow). AreDistinct (map (λ (group : GroupRow). group.id) r.groups)) back apart in
          record {
            standard = ap standard_flags is_file ∙ no_standard rest;
            custom = ap custom_flags is_file ∙ no_custom rest;
            head = record recovered.head.now { first_dg = address_of blocks (data_number recovered now) };
            history = placed_history blocks 1 (session_history recovered.history.now now);
            groups = all;
            measurement = measured;
            each = (is_valid_data f file recovered now found.records found.groups ident tree counted records each counts made.content made.streams distinct, tt);
          };
    }
