-- The finalized file of a session keeps what its recording holds.
use Rattle.std.proofs.Common.{◌≡◌, ℕ, List, [], ◌∷◌, Some, sym, ◌∙◌, ap, subst}
use Rattle.std.specs.Prelude.{slice_get, Option, None}
use Rattle.std.specs.Option.{option_map}
use Rattle.std.specs.List.{AllByRecursion}
use Rattle.std.proofs.lemmas.Option.{slice_get-map}
use Rattle.mdf_head.specs.declared.entry.Head.{Head}
use Rattle.mdf_head.specs.declared.entry.History.{History}
use Rattle.mdf_head.specs.Head.{IsHead}
use Rattle.mdf_group.specs.declared.row.DataRow.{DataRow}
use Rattle.mdf_group.specs.Standing.{IsDataGroup}
use Rattle.mdf_content.specs.declared.contents.Contents.{Contents}
use Rattle.mdf_session.specs.Session.{SessionParts}
use Rattle.mdf_block.proofs.Cases.{some_injective}
use Rattle.mdf_carried.specs.Recovered.{Recovery, IsRecovery, IsSessionOf}
use Rattle.mdf_carried.proofs.Founds.{session_rows, session_found}
use Rattle.mdf_carried.proofs.Grouped.{groups_have_samples}
use Rattle.mdf_carried.proofs.Onces.{recoveries_agree}
use Rattle.mdf_carried.proofs.Samplings.{has_samples}
use Rattle.mdf_spell.specs.declared.recovered.Recovered.{Recovered}
use Rattle.mdf_spell.specs.Counts.{IsCounted}
use Rattle.mdf_spell.specs.Session.{session_file}
use Rattle.mdf_spell.specs.Standing.{AreBytes, IsRecoveredOf, IsSessionTree}
use Rattle.mdf_model.specs.Measurement.{contents_of}
use Rattle.tool_final.specs.Finalized.{IsOfSession, KeepsSession}
use Rattle.tool_final.specs.Keeping.{KeepsRecovery}
use Rattle.tool_final.proofs.Measures.{IsMadeFrom, keeps_recovery}

-- the first data group stands
first_stands : (f : List ℕ) (rows : List DataRow) (row : DataRow) → AllByRecursion (IsDataGroup f) rows → slice_get rows 0 ≡ Some row → IsDataGroup f row
first_stands f [] row each there = let wrong : ◌≡◌ {A = Option DataRow} None (Some row) = there in cc
first_stands f (first ∷ rows) row each there = subst (IsDataGroup f) (some_injective first row there) each.0

module _ (s : SessionParts) (recovered : Recovered) (now : ℕ) (bytes : List ℕ) (of_session : IsOfSession s recovered) (counted : IsCounted recovered)
    (is : bytes ≡ session_file recovered now) (stand : (file : List ℕ) → IsRecoveredOf file recovered → IsSessionTree bytes recovered now) where
  made_from : (found : Recovery) → slice_get found.rows 0 ≡ Some found.row → IsSessionOf found s → IsMadeFrom found recovered
  made_from found first of_file = record {
    head = of_session.head ∙ of_file.head;
    history = of_session.history ∙ of_file.history;
    row = some_injective recovered.row.now found.row (sym of_session.row ∙ ap (λ (rows : List DataRow). slice_get rows 0) of_file.rows ∙ first);
    counts = of_session.counts ∙ of_file.kept.counts;
    content = of_session.content ∙ of_file.kept.content;
    streams = of_session.streams ∙ of_file.kept.streams;
  }

  -- over the recovery of which the samples are
  keeps_of : (file : List ℕ) → AreBytes file → (found : Recovery) → IsRecovery file found → AllByRecursion (IsDataGroup file) found.rows
      → IsSessionOf found s → KeepsRecovery found bytes now
  keeps_of file whole found recovery rows of_file =
      let made = made_from found recovery.first of_file in
      let head : IsHead file recovered.head.now recovered.history.now =
      subst (λ (h : Head). IsHead file h recovered.history.now) (sym made.head)
      (subst (λ (entries : List History). IsHead file found.head entries) (sym made.history) recovery.stands) in
      let row : IsDataGroup file recovered.row.now =
      subst (IsDataGroup file) (sym made.row) (first_stands file found.rows found.row rows recovery.first) in
      let tree = stand file (record { bytes = whole; head = head; row = row }) in
      keeps_recovery file bytes found recovered now recovery made counted is tree

  pub keeps_session : KeepsSession s now bytes
  keeps_session file whole read =
      let found = session_found file s read in
      let all = has_samples file found.0 found.1 in
      let recovery = all.1.recovery in
      let of_file : IsSessionOf all.1.found s =
      subst (λ (one : Recovery). IsSessionOf one s) (sym (recoveries_agree file all.1.found found.0 recovery found.1)) found.2 in
      let rows = subst (AllByRecursion (IsDataGroup file)) of_file.rows (session_rows file s read).each in
      let keeps = keeps_of file whole all.1.found recovery rows of_file in
      record {
        samples = all.0;
        recovered = all.1;
        keeps = keeps;
        own = λ g m there.
            let held : slice_get all.1.found.groups g ≡ Some (contents_of m) =
            ap (λ (groups : List Contents). slice_get groups g) (sym keeps.contents)
            ∙ slice_get-map contents_of keeps.groups g
            ∙ ap (option_map contents_of) there in
            groups_have_samples file all.1.found recovery all.0 all.1.each g (contents_of m) held;
      }
