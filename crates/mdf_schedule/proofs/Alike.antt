-- Two recordings whose opened blocks have the same data hold the same, and are finalized to the same bytes.
use Rattle.std.proofs.Common.{◌≡◌, ℕ, List, [], ◌∷◌, map, refl, sym, ◌∙◌, ap, subst}
use Rattle.std.proofs.lemmas.Option.{same_Some}
use Rattle.std.specs.Prelude.{slice_get}
use Rattle.mdf_format.specs.declared.form.Form.{Form}
use Rattle.mdf_group.specs.declared.row.DataRow.{DataRow}
use Rattle.mdf_group.specs.declared.row.GroupRow.{GroupRow}
use Rattle.mdf_group.specs.Recordable.{AreRecordable}
use Rattle.mdf_layout.specs.Layout.{Layout}
use Rattle.mdf_layout.specs.Read.{Piece}
use Rattle.mdf_layout.specs.declared.sample.Sample.{Sample}
use Rattle.mdf_content.specs.Layouts.{layout_of}
use Rattle.mdf_session.specs.Session.{SessionParts}
use Rattle.mdf_spell.specs.declared.recovered.Recovered.{Recovered}
use Rattle.mdf_spell.specs.Recording.{recorded_row, recorded_head, recorded_history}
use Rattle.mdf_spell.specs.Session.{session_blocks, session_data, session_file}
use Rattle.mdf_carried.specs.Recovered.{Recovery, IsSessionOf}
use Rattle.mdf_carried.specs.Recovers.{IsReadHead}
use Rattle.mdf_carried.proofs.Placed.{RulesAgree}
use Rattle.mdf_carried.proofs.Sampled.{recovery}
use Rattle.tool_final.specs.Finalized.{IsSessionFile}
use Rattle.mdf_schedule.specs.Forms.{HaveSameData}
use Rattle.mdf_schedule.specs.Records.{AreRecords}
use Rattle.mdf_schedule.specs.Schedules.{IsLeftOf}
use Rattle.mdf_schedule.proofs.Found.{found, is, pieces, bytes, records_are}
use Rattle.mdf_schedule.proofs.Pieces.{records_once}

module _ (agree : RulesAgree) (start : ℕ) (rows : List GroupRow) (are : AreRecordable rows) (form also : Form) (read : IsReadHead form start rows)
    (read' : IsReadHead also start rows) (history other : List Sample) (file second : List ℕ) (one : IsLeftOf form start rows history file)
    (two : IsLeftOf also start rows other second) (same : HaveSameData file second) where
  abbrev layouts : List Layout
  layouts = map layout_of rows

  data_same : bytes agree start rows are form read history file one ≡ bytes agree start rows are also read' other second two
  data_same = same one.carried.blocks two.carried.blocks one.carried.opened two.carried.opened

  pieces_same : pieces agree start rows are form read history file one ≡ pieces agree start rows are also read' other second two
  pieces_same =
      records_once layouts (bytes agree start rows are form read history file one) _ _ (records_are agree start rows are form read history file one)
      (subst (λ (bs : List ℕ). AreRecords layouts bs (pieces agree start rows are also read' other second two)) (sym data_same)
      (records_are agree start rows are also read' other second two))

  pub found_same : found agree start rows are form read history file one ≡ found agree start rows are also read' other second two
  found_same =
      ap (λ (ps : List Piece). recovery (recorded_head start rows) (recorded_history start rows) (recorded_row start rows ∷ []) layouts (recorded_row start rows)
      (is agree start rows are form read history file one) ps) pieces_same

-- the finalized file of what was read, by what it is made of
same_bytes : (one two : Recovered) (now : ℕ) → one.head.now ≡ two.head.now → one.history.now ≡ two.history.now → one.row.now ≡ two.row.now
    → one.counts.now ≡ two.counts.now → one.totals.now ≡ two.totals.now → one.content.now ≡ two.content.now → one.streams.now ≡ two.streams.now
    → session_file one now ≡ session_file two now
unfolding session_blocks session_data
same_bytes one two now head history row counts totals content streams = rw (head, history, row, counts, totals, content, streams) refl

pub sessions_same : (found : Recovery) (s t : SessionParts) (now : ℕ) (final last : List ℕ) → IsSessionOf found s → IsSessionOf found t
    → IsSessionFile s now final → IsSessionFile t now last → final ≡ last
sessions_same found s t now final last of_s of_t one two =
    let rows = of_s.rows ∙ sym of_t.rows in
    let row : one.recovered.row.now ≡ two.recovered.row.now =
    same_Some _ _ (sym one.is_of.row ∙ ap (λ (rs : List DataRow). slice_get rs 0) rows ∙ two.is_of.row) in
    one.bytes_are
    ∙ same_bytes one.recovered two.recovered now
    (one.is_of.head ∙ of_s.head ∙ sym of_t.head ∙ sym two.is_of.head)
    (one.is_of.history ∙ of_s.history ∙ sym of_t.history ∙ sym two.is_of.history)
    row
    (one.is_of.counts ∙ of_s.kept.counts ∙ sym of_t.kept.counts ∙ sym two.is_of.counts)
    (one.is_of.totals ∙ of_s.kept.totals ∙ sym of_t.kept.totals ∙ sym two.is_of.totals)
    (one.is_of.content ∙ of_s.kept.content ∙ sym of_t.kept.content ∙ sym two.is_of.content)
    (one.is_of.streams ∙ of_s.kept.streams ∙ sym of_t.kept.streams ∙ sym two.is_of.streams)
    ∙ sym two.bytes_are
