-- What comes of a part.
use Rattle.std.proofs.Common.{◌≡◌, ◌≤◌, ℕ, zero, suc, List, [], ◌∷◌, length, map, refl, sym, ◌∙◌, ap, subst, inl, inr, ⊎_elim, arith}
use Rattle.std.specs.Prelude.{replicate}
use Rattle.mdf_disk.specs.State.{DiskState, state_of}
use Rattle.mdf_gate.specs.Gated.{Gated}
use Rattle.mdf_layout.specs.declared.sample.Sample.{Sample}
use Rattle.mdf_spell.specs.Recording.{head_file}
use Rattle.book_owned.specs.Members.{DiskOf}
use Rattle.acq_run.specs.declared.feed.Fed.{Fed}
use Rattle.acq_run.specs.Ran.{AllHanded}
use Rattle.acq_run.specs.declared.work.Driven.{Driven}
use Rattle.acq_run.specs.declared.work.Ended.{Ended}
use Rattle.acq_run.specs.declared.work.Ended.TheVariants.{Running, Done, SessionFull, Stopped, DiskFault, Memory}
use Rattle.acq_script.specs.declared.script.Plan.{Plan}
use Rattle.mdf_command.specs.declared.fault.Fault.{Fault}
use Rattle.mdf_record.specs.Created.{IsCreated}
use Rattle.mdf_record.specs.Feeds.{AllTaken, EndsAt, HasTaken, HaveFed}
use Rattle.mdf_record.specs.Finish.{IsUnmade}
use Rattle.mdf_record.specs.Record.{Outcome}
use Rattle.mdf_record.specs.Sources.{feds_of}
use Rattle.mdf_record.specs.declared.record.RecordEnd.{RecordEnd}
use Rattle.mdf_record.specs.declared.record.RecordEnd.TheVariants.{Refused}
use Rattle.mdf_record.proofs.Recording.{record_comes}
use Rattle.mdf_log.specs.Part.{PartComes}

-- no task was handed in by any of so many
feds_none : (n : ℕ) → map feds_of (replicate n []) ≡ replicate n []
feds_none zero = refl
feds_none (suc n) = ap (λ (lists : List (List Fed)). [] ∷ lists) (feds_none n)

handed_none : {F : Type 0} (hands : F → List Fed → F → Type 0) → ((feed : F) → hands feed [] feed) → (feeds : List F) → AllHanded hands feeds (replicate (length feeds) []) feeds
handed_none hands none [] = tt
handed_none hands none (feed ∷ feeds) = (none feed, handed_none hands none feeds)

-- a fault of the disk since an earlier count
module _ (plan : Plan) (earlier faults : ℕ) (later : earlier ≤ faults) (left : Outcome) where
  ends_earlier : (seen : List Sample) (rest : List Fed) (how : Ended) → EndsAt plan faults left seen rest how → EndsAt plan earlier left seen rest how
  ends_earlier seen rest Running ends = ends
  ends_earlier seen rest Done ends = ends
  ends_earlier seen rest (SessionFull held size limit) ends = ends
  ends_earlier seen rest (Stopped mark) ends = (omega (arith, later, ends.0), ends.1)
  ends_earlier seen rest (DiskFault before after) ends = (omega (arith, later, ends.0), ends.1)
  ends_earlier seen rest Memory ends = ends

  taken_earlier : {F : Type 0} (waits : F → Fed → Type 0) (source : ℕ) (handed : List Fed) (driven : Driven) (feed : F) → HasTaken waits plan faults left source handed driven feed
      → HasTaken waits plan earlier left source handed driven feed
  taken_earlier waits source handed driven feed taken = record {
    done = taken.done;
    rest = taken.rest;
    parts = taken.parts;
    one = taken.one;
    waiting = taken.waiting;
    finished = taken.finished;
    own = taken.own;
    counted = taken.counted;
    marked = taken.marked;
    seen = taken.seen;
    begins = taken.begins;
    ends = ends_earlier taken.seen taken.rest driven.ended taken.ends;
  }

  all_earlier : {F : Type 0} (waits : F → Fed → Type 0) (source : ℕ) (lists : List (List Fed)) (all : List Driven) (feeds : List F) → AllTaken waits plan faults left source lists all feeds
      → AllTaken waits plan earlier left source lists all feeds
  all_earlier waits source [] [] [] taken = tt
  all_earlier waits source [] [] (feed ∷ feeds) taken = absurd taken
  all_earlier waits source [] (driven ∷ all) feeds taken = absurd taken
  all_earlier waits source (feds ∷ lists) [] feeds taken = absurd taken
  all_earlier waits source (feds ∷ lists) (driven ∷ all) [] taken = absurd taken
  all_earlier waits source (feds ∷ lists) (driven ∷ all) (feed ∷ feeds) taken =
      (taken_earlier waits source feds driven feed taken.0, all_earlier waits (suc source) lists all feeds taken.1)

-- a part for which no file was made
pub refused_comes : {F : Type 0} (hands : F → List Fed → F → Type 0) (waits : F → Fed → Type 0) (ends : F → Type 0) → ((feed : F) → hands feed [] feed) → (plan : Plan) (name : List ℕ) (now : ℕ)
    (disk : DiskState) (left : Outcome) (feeds : List F) (problem : Fault) → left.history ≡ [] → left.marks ≡ [] → length feeds ≡ plan.sources
    → IsUnmade name (head_file plan.form now plan.rows) disk left.disk problem → PartComes hands waits ends plan name now disk left feeds feeds [] (Refused problem)
refused_comes hands waits ends none plan name now disk left feeds problem history marks count unmade =
    let lists_are : map feds_of (replicate plan.sources []) ≡ replicate (length feeds) [] = feds_none plan.sources ∙ ap (λ n. replicate n []) (sym count) in
    record {
      script = record { plan = plan; lists = replicate plan.sources [] };
      plan_is = refl;
      handed = subst (λ lists. AllHanded hands feeds lists feeds) (sym lists_are) (handed_none hands none feeds);
      comes = record {
        history = history;
        marks = marks;
        comes = inr (record {
          script = record { plan = plan; lists = replicate plan.sources [] };
          says = refl;
          begun = unmade.begun;
          comes = unmade.comes;
          asked_is = unmade.asked_is;
        });
      };
      did = inl (record { same = refl; nothing = lists_are; none = refl; empty = history; short = λ is. is });
    }

-- a part over a file that was created
pub recorded_comes : {C F : Type 0} (tells : DiskOf C) (hands : F → List Fed → F → Type 0) (waits : F → Fed → Type 0) (ends : F → Type 0) (plan : Plan) (name : List ℕ) (now : ℕ) (out : C) (file : Gated C)
    (left : Outcome) (feeds feeds' : List F) (all : List Driven) (end : RecordEnd) → IsCreated tells name plan.form now plan.rows out file
    → HaveFed tells hands waits ends plan file left end feeds feeds' all → PartComes hands waits ends plan name now (state_of tells out) left feeds feeds' all end
recorded_comes tells hands waits ends plan name now out file left feeds feeds' all end created fed =
    let made = subst (λ (p : Plan). IsCreated tells name p.form now p.rows out file) (sym fed.plan_is) created in
    record {
      script = fed.script;
      plan_is = fed.plan_is;
      handed = fed.handed;
      comes = record_comes tells (λ said. said ≡ fed.script) (λ problem. ⊥) name now out fed.script file left end refl fed.is_script made.readable made.asked made.begun made.head
          made.told made.start made.faults made.made fed.run;
      did = ⊎_elim inl
          (λ taken. inr (record {
            begun = taken.begun;
            ended = taken.ended;
            each = all_earlier plan (tells.faults out) file.faults made.faults left waits 0 (map feds_of fed.script.lists) all feeds' taken.each;
            well = taken.well;
            calm = taken.calm;
          }))
          fed.did;
    }
