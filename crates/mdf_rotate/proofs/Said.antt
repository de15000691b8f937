-- What comes of a script that was handed in, in the words of what is recorded.
use Rattle.std.proofs.Common.{◌≡◌, ℕ, List, Ok, Err, subst, inl, inr}
use Rattle.std.specs.Prelude.{◌⊎◌, Result}
use Rattle.mdf_disk.specs.State.{DiskState}
use Rattle.acq_script.specs.declared.script.Script.{Script}
use Rattle.mdf_command.specs.declared.fault.Fault.{Fault}
use Rattle.mdf_record.specs.Record.{Outcome}
use Rattle.mdf_record.specs.Recorded.{IsNotBegun, IsUnread, RecordComes}
use Rattle.mdf_record.specs.declared.record.RecordEnd.{RecordEnd}
use Rattle.mdf_record.specs.declared.record.RecordEnd.TheVariants.{Refused, Closed}

abbrev HandedIn : Script → Script → Type 0
HandedIn part said = ◌≡◌ {A = Result Script Fault} (Ok part) (Ok said)

abbrev InItsPlace : Script → Fault → Type 0
InItsPlace part fault = ◌≡◌ {A = Result Script Fault} (Ok part) (Err fault)

same_script : (part said : Script) → HandedIn part said → said ≡ part
same_script part said is = cc

refused_of : (part : Script) (name : List ℕ) (now : ℕ) (disk left : DiskState) (problem : Fault)
    → IsUnread (InItsPlace part) disk left problem ⊎ IsNotBegun (HandedIn part) name now disk left problem
    → IsUnread (λ fault. ⊥) disk left problem ⊎ IsNotBegun (λ said. said ≡ part) name now disk left problem
refused_of part name now disk left problem (inl unread) = let is : InItsPlace part problem = unread.comes in let no : ⊥ = cc in absurd no
refused_of part name now disk left problem (inr not) =
    inr (record { script = not.script; says = same_script part not.script not.says; begun = not.begun; comes = not.comes; asked_is = not.asked_is })

said_as : (part : Script) (name : List ℕ) (now : ℕ) (disk : DiskState) (left : Outcome) (end : RecordEnd) → RecordComes (HandedIn part) (InItsPlace part) name now disk left end
    → RecordComes (λ said. said ≡ part) (λ fault. ⊥) name now disk left end
said_as part name now disk left (Refused problem) comes =
    record { history = comes.history; marks = comes.marks; comes = refused_of part name now disk left.disk problem comes.comes }
said_as part name now disk left (Closed accepted samples last live problem seen) comes = record {
  script = comes.script;
  says = same_script part comes.script comes.says;
  is_script = comes.is_script;
  readable = comes.readable;
  recorded = comes.recorded;
  accepted_is = comes.accepted_is;
  samples_is = comes.samples_is;
  durable_is = comes.durable_is;
  live_is = comes.live_is;
  saw = comes.saw;
  comes = comes.comes;
  asked_is = comes.asked_is;
}

-- under a name that is that of the part
pub said_of : (part : Script) (name other : List ℕ) → name ≡ other → (now : ℕ) (disk : DiskState) (left : Outcome) (end : RecordEnd)
    → RecordComes (HandedIn part) (InItsPlace part) name now disk left end → RecordComes (λ said. said ≡ part) (λ fault. ⊥) other now disk left end
said_of part name other same now disk left end comes =
    subst (λ named. RecordComes (λ said. said ≡ part) (λ fault. ⊥) named now disk left end) same (said_as part name now disk left end comes)
