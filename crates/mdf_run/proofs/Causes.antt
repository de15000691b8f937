-- A status that speaks of the source, of a disk or of the sink comes only where that has failed.
use Rattle.std.proofs.Common.{◌≡◌, ◌≢◌, ◌⊎◌, inl, inr, ⊎_elim, ℕ, List, Option, Some, None, Result, Ok, Err, refl, sym, ◌∙◌, ap, subst, arith}
use Rattle.std.specs.Prelude.{◌==◌}
use Rattle.std.proofs.lemmas.Bool.{cases_eq, cond-false, ne_eqb}
use Rattle.mdf_format.specs.Cause.{Rose}
use Rattle.mdf_port.specs.State.{SinkState}
use Rattle.mdf_disk.specs.State.{DiskState}
use Rattle.mdf_block.specs.Refusal.{Refusal}
use Rattle.mdf_content.specs.Fault.{read_refusal}
use Rattle.mdf_gate.specs.declared.answer.Opened.{Opened}
use Rattle.mdf_attach.specs.declared.entry.Entry.{Entry}
use Rattle.mdf_make.specs.declared.said.Said.{Said}
use Rattle.mdf_command.specs.Texts.{Prints, unwritten_status}
use Rattle.mdf_command.specs.Faults.{end_status, fault_line, fault_status, refused_status}
use Rattle.mdf_command.specs.declared.fault.Fault.{Fault}
use Rattle.mdf_command.specs.declared.fault.Fault.TheVariants as fault
use Rattle.mdf_make.specs.Making.{EndsMaking, Inputs, MakingComes, making_text}
use Rattle.mdf_inspect.specs.Opened.{EndsOpened, OpenedComes, OpenedFaultComes, opened_text}
use Rattle.mdf_inspect.specs.Reading.{EndsReading, Reading, ReadingComes, ReadingFaultComes, answer_text}
use Rattle.mdf_inspect.specs.Attachments.{EndsListing, ListingComes, ListingFaultComes, listing_text}
use Rattle.mdf_inspect.specs.Export.{EndsExport, PrintsEnd, TableComes, TableFaultComes}
use Rattle.mdf_inspect.specs.declared.table.TableEnd.{TableEnd}
use Rattle.mdf_inspect.specs.declared.table.TableEnd.TheVariants as table
use Rattle.mdf_run.specs.Ends.{IsCaused}

-- what is known of a status before its lines are printed
record Coded (Source Device : Type 0) (status : ℕ) : Type 0 where
  usage : status ≢ 1
  source : status ≡ 2 → Source
  device : status ≡ 4 → Device
  sink : status ≢ 6

-- a status that speaks of none of them
plain : (S D : Type 0) (status : ℕ) → status ≢ 1 → status ≢ 2 → status ≢ 4 → status ≢ 6 → Coded S D status
plain S D status one two four six = record {
  usage = one;
  source = λ is. absurd (two is);
  device = λ is. absurd (four is);
  sink = six;
}

done : (S D : Type 0) → Coded S D 0
done S D = plain S D 0 (λ is. omega (arith, is)) (λ is. omega (arith, is)) (λ is. omega (arith, is)) (λ is. omega (arith, is))

refused_coded : (S D : Type 0) (refusal : Option Refusal) → Coded S D (refused_status refusal)
refused_coded S D None = plain S D 7 (λ is. omega (arith, is)) (λ is. omega (arith, is)) (λ is. omega (arith, is)) (λ is. omega (arith, is))
refused_coded S D (Some refusal) = plain S D 3 (λ is. omega (arith, is)) (λ is. omega (arith, is)) (λ is. omega (arith, is)) (λ is. omega (arith, is))

fault_coded : (S D : Type 0) (problem : Fault) → (problem ≡ fault.Source → S) → (problem ≡ fault.Device → D) → Coded S D (fault_status problem)
fault_coded S D fault.Source source device = record {
  usage = λ is. omega (arith, is);
  source = λ is. source refl;
  device = λ is. absurd (omega (arith, is));
  sink = λ is. omega (arith, is);
}
fault_coded S D fault.Device source device = record {
  usage = λ is. omega (arith, is);
  source = λ is. absurd (omega (arith, is));
  device = λ is. device refl;
  sink = λ is. omega (arith, is);
}
fault_coded S D (fault.Read refused) source device = refused_coded S D (read_refusal refused)
fault_coded S D problem source device =
    plain S D (fault_status problem) (λ is. omega (arith, is)) (λ is. omega (arith, is)) (λ is. omega (arith, is)) (λ is. omega (arith, is))

-- a status that is not that of an unwritten line stands as it was
unwritten_is : (status result : ℕ) → unwritten_status status ≡ result → result ≢ 6 → status ≡ result
unwritten_is status result is other =
    ⊎_elim (λ none. absurd (other (sym is ∙ ap unwritten_status none)))
    (λ some. sym (cond-false (status == 0) 6 status (ne_eqb status 0 some)) ∙ is) (cases_eq status 0)

printed : (S D : Type 0) (text : List ℕ) (status : ℕ) (sink sink' : SinkState) (result : ℕ) → Coded S D status → Prints text status sink sink' result
    → IsCaused S D (Rose sink.faults sink'.faults) result
printed S D text status sink sink' result coded (inl all) = record {
  usage = λ is. coded.usage (sym all.1 ∙ is);
  source = λ is. coded.source (sym all.1 ∙ is);
  device = λ is. coded.device (sym all.1 ∙ is);
  sink = λ is. absurd (coded.sink (sym all.1 ∙ is));
}
printed S D text status sink sink' result coded (inr front) = record {
  usage = λ is. coded.usage (unwritten_is status 1 (sym front.2 ∙ is) (λ six. omega (arith, six)));
  source = λ is. coded.source (unwritten_is status 2 (sym front.2 ∙ is) (λ six. omega (arith, six)));
  device = λ is. coded.device (unwritten_is status 4 (sym front.2 ∙ is) (λ six. omega (arith, six)));
  sink = λ is. front.1;
}

-- a cause is told by what it causes
pub widened : (S D K S' D' K' : Type 0) (status : ℕ) → IsCaused S D K status → (S → S') → (D → D') → (K → K') → IsCaused S' D' K' status
widened S D K S' D' K' status caused source device sink = record {
  usage = caused.usage;
  source = λ is. source (caused.source is);
  device = λ is. device (caused.device is);
  sink = λ is. sink (caused.sink is);
}

module _ (disk disk' : DiskState) (sink sink' : SinkState) (status : ℕ) where
  opened_coded : (end : Result Opened Fault) → OpenedComes disk disk' end → Coded ⊥ (Rose disk.faults disk'.faults) (end_status end)
  opened_coded (Ok count) comes = done ⊥ (Rose disk.faults disk'.faults)
  opened_coded (Err problem) comes =
      fault_coded ⊥ (Rose disk.faults disk'.faults) problem (λ is. subst (λ p. OpenedFaultComes disk disk' p) is comes)
      (λ is. subst (λ p. OpenedFaultComes disk disk' p) is comes)

  pub opened_caused : EndsOpened disk disk' sink sink' status → IsCaused ⊥ (Rose disk.faults disk'.faults) (Rose sink.faults sink'.faults) status
  opened_caused ends =
      printed ⊥ (Rose disk.faults disk'.faults) (opened_text ends.0) (end_status ends.0) sink sink' status (opened_coded ends.0 ends.1) ends.2

  reading_coded : (end : Result Reading Fault) → ReadingComes disk disk' end → Coded ⊥ (Rose disk.faults disk'.faults) (end_status end)
  reading_coded (Ok found) comes = done ⊥ (Rose disk.faults disk'.faults)
  reading_coded (Err problem) comes =
      fault_coded ⊥ (Rose disk.faults disk'.faults) problem (λ is. subst (λ p. ReadingFaultComes disk disk' p) is comes)
      (λ is. subst (λ p. ReadingFaultComes disk disk' p) is comes)

  pub reading_caused : (text : Reading → List ℕ) → EndsReading text disk disk' sink sink' status
      → IsCaused ⊥ (Rose disk.faults disk'.faults) (Rose sink.faults sink'.faults) status
  reading_caused text ends =
      printed ⊥ (Rose disk.faults disk'.faults) (answer_text text ends.0) (end_status ends.0) sink sink' status (reading_coded ends.0 ends.1) ends.2

  listing_coded : (end : Result (List Entry) Fault) → ListingComes disk disk' end → Coded ⊥ (Rose disk.faults disk'.faults) (end_status end)
  listing_coded (Ok rows) comes = done ⊥ (Rose disk.faults disk'.faults)
  listing_coded (Err problem) comes =
      fault_coded ⊥ (Rose disk.faults disk'.faults) problem (λ is. subst (λ p. ListingFaultComes disk disk' p) is comes)
      (λ is. subst (λ p. ListingFaultComes disk disk' p) is comes)

  pub listing_caused : EndsListing disk disk' sink sink' status → IsCaused ⊥ (Rose disk.faults disk'.faults) (Rose sink.faults sink'.faults) status
  listing_caused ends =
      printed ⊥ (Rose disk.faults disk'.faults) (listing_text ends.0) (end_status ends.0) sink sink' status (listing_coded ends.0 ends.1) ends.2

  module _ (group : ℕ) (failed : status ≡ 6 → Rose sink.faults sink'.faults) where
    table_caused : (end : TableEnd) (between : SinkState) → TableComes group disk disk' sink between end → PrintsEnd end between sink' status
        → IsCaused ⊥ (Rose disk.faults disk'.faults) (Rose sink.faults sink'.faults) status
    table_caused (table.Given rows) between comes prints = record {
      usage = λ is. omega (arith, is, prints.1);
      source = λ is. omega (arith, is, prints.1);
      device = λ is. absurd (omega (arith, is, prints.1));
      sink = failed;
    }
    table_caused table.Unwritten between comes prints = record {
      usage = λ is. omega (arith, is, prints.1);
      source = λ is. omega (arith, is, prints.1);
      device = λ is. absurd (omega (arith, is, prints.1));
      sink = failed;
    }
    table_caused (table.Refused problem) between comes prints =
        let coded = fault_coded ⊥ (Rose disk.faults disk'.faults) problem (λ is. subst (λ p. TableFaultComes group disk disk' sink between p) is comes)
        (λ is. (subst (λ p. TableFaultComes group disk disk' sink between p) is comes).0) in
        let caused = printed ⊥ (Rose disk.faults disk'.faults) (fault_line problem) (fault_status problem) between sink' status coded prints in
        record { usage = caused.usage; source = caused.source; device = caused.device; sink = failed }

    pub export_caused : EndsExport group disk disk' sink sink' status → IsCaused ⊥ (Rose disk.faults disk'.faults) (Rose sink.faults sink'.faults) status
    export_caused ends = table_caused ends.0 ends.1 ends.2 ends.3

-- a command that makes a file with a tool that refuses none for the source
module _ {Input : Type 0} (inputs : Inputs Input) (Makes : Input → List ℕ → Said → Type 0) (Refuses : Input → Fault → Type 0)
    (takes : (input : Input) → ¬ Refuses input fault.Source) (out out' : DiskState) where
  making_coded : (end : Result Said Fault) → MakingComes inputs Makes Refuses out out' end → Coded ⊥ (inputs.Failed ⊎ Rose out.faults out'.faults) (end_status end)
  making_coded (Ok report) comes = done ⊥ (inputs.Failed ⊎ Rose out.faults out'.faults)
  making_coded (Err problem) comes = fault_coded ⊥ (inputs.Failed ⊎ Rose out.faults out'.faults) problem refused
      (λ is. ⊎_elim (λ failed. inl failed.0) inr (subst (λ p. MakingComes inputs Makes Refuses out out' (Err p)) is comes)) where
        refused : ¬ (problem ≡ fault.Source)
        refused is =
            let made : MakingComes inputs Makes Refuses out out' (Err fault.Source) = subst (λ p. MakingComes inputs Makes Refuses out out' (Err p)) is comes in
            takes made.0.0 made.0.2

  pub making_caused : (sink sink' : SinkState) (status : ℕ) → EndsMaking inputs Makes Refuses out out' sink sink' status
      → IsCaused ⊥ (inputs.Failed ⊎ Rose out.faults out'.faults) (Rose sink.faults sink'.faults) status
  making_caused sink sink' status ends =
      printed ⊥ (inputs.Failed ⊎ Rose out.faults out'.faults) (making_text ends.0) (end_status ends.0) sink sink' status
      (making_coded ends.0 ends.1) ends.2
