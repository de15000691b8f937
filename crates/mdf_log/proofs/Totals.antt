-- What the parts of a log keep, and how many samples of a source are durable in all.
use Rattle.std.proofs.Common.{◌≡◌, ◌≢◌, ◌<◌, ◌⊎◌, ◌∙◌, ℕ, List, [], ◌∷◌, ◌++◌, length, All, Some, None, refl, sym, ap, subst, inl, inr, ⊎_elim, arith, append-nil, append_assoc}
use Rattle.std.specs.List.{AllZip}
use Rattle.std.proofs.lemmas.List.{take_all}
use Rattle.std.proofs.lemmas.List.Elements.{All-cons, All-head, All-nil, All-tail}
use Rattle.mdf_disk.specs.State.{DiskState}
use Rattle.mdf_layout.specs.History.{source_samples}
use Rattle.mdf_layout.specs.declared.sample.Sample.{Sample}
use Rattle.mdf_spell.specs.Recording.{head_file}
use Rattle.book_owned.specs.Kept.{MarkHolds, MarksHold}
use Rattle.acq_run.specs.Feeds.{samples_of}
use Rattle.acq_run.specs.declared.feed.Fed.{Fed}
use Rattle.acq_script.specs.declared.script.Plan.{Plan}
use Rattle.acq_script.specs.declared.script.Script.{Script}
use Rattle.mdf_command.specs.declared.fault.Fault.TheVariants as fault
use Rattle.mdf_record.specs.Record.{Outcome}
use Rattle.mdf_record.specs.Recorded.{RecordComes}
use Rattle.mdf_record.specs.declared.record.RecordEnd.{RecordEnd}
use Rattle.mdf_record.specs.declared.record.RecordEnd.TheVariants.{Refused, Closed}
use Rattle.mdf_log.specs.Durable.{IsDurableWhole, history_of}
use Rattle.mdf_log.specs.Logged.{DidIn, IsDurableAmong, in_order}
use Rattle.mdf_log.specs.Parts.{IsPart, Part, Precedes, fault_of, lefts_of}
use Rattle.mdf_log.proofs.Durable.{closed_whole}
use Rattle.mdf_log.proofs.Moving.{full_calm}
use Rattle.mdf_log.proofs.Serving.{own_all}

-- a recording of a script of this plan, begun or not
module _ (plan : Plan) (script : Script) (plan_is : script.plan ≡ plan) (name : List ℕ) (now : ℕ) (disk : DiskState) (left : Outcome) where
  abbrev Comes : RecordEnd → Type 0
  Comes end = RecordComes (λ said. said ≡ script) (λ problem. ⊥) name now disk left end

  holds_for : (end : RecordEnd) → Comes end → MarksHold plan.shapes (head_file plan.form now plan.rows) left.disk.story left.disk.moment left.history left.marks
  holds_for (Refused problem) comes =
      subst (MarksHold plan.shapes (head_file plan.form now plan.rows) left.disk.story left.disk.moment left.history) (sym comes.marks)
      (All-nil (MarkHolds plan.shapes (head_file plan.form now plan.rows) left.disk.story left.disk.moment left.history))
  holds_for (Closed accepted samples last live problem seen) comes =
      subst (λ (p : Plan). MarksHold p.shapes (head_file p.form now p.rows) left.disk.story left.disk.moment left.history left.marks)
      (ap (λ (s : Script). s.plan) comes.says ∙ plan_is) comes.recorded.marks_hold

  -- a part in which nothing went wrong is durable whole, and so is one with samples whose disk did not fail
  whole_well : (end : RecordEnd) → Comes end → fault_of end ≡ None → IsDurableWhole plan (head_file plan.form now plan.rows) left
  whole_well (Refused problem) comes well = absurd (cc well)
  whole_well (Closed accepted samples last live problem seen) comes well =
      subst (λ (p : Plan). IsDurableWhole p (head_file p.form now p.rows) left) (ap (λ (s : Script). s.plan) comes.says ∙ plan_is)
      (closed_whole comes.script now disk.moment disk.faults left seen problem comes.recorded comes.comes (λ failed. absurd (cc (well, failed))))

  whole_for : (end : RecordEnd) → Comes end → 0 < length left.history → fault_of end ≢ Some fault.Device → IsDurableWhole plan (head_file plan.form now plan.rows) left
  whole_for (Refused problem) comes some calm = absurd (omega (arith, some, ap length comes.history))
  whole_for (Closed accepted samples last live problem seen) comes some calm =
      subst (λ (p : Plan). IsDurableWhole p (head_file p.form now p.rows) left) (ap (λ (s : Script). s.plan) comes.says ∙ plan_is)
      (closed_whole comes.script now disk.moment disk.faults left seen problem comes.recorded comes.comes calm)

module _ (plan : Plan) (output : List ℕ) (now number : ℕ) (part : Part) (is : IsPart plan output now number part) where
  pub hold_of : MarksHold plan.shapes (head_file plan.form now plan.rows) part.left.disk.story part.left.disk.moment part.left.history part.left.marks
  hold_of = holds_for plan part.script is.plan_is _ now part.disk part.left part.end is.comes

  calm_whole : 0 < length part.left.history → fault_of part.end ≢ Some fault.Device → IsDurableWhole plan (head_file plan.form now plan.rows) part.left
  calm_whole some calm = whole_for plan part.script is.plan_is _ now part.disk part.left part.end is.comes some calm

  pub whole_of : Precedes part → IsDurableWhole plan (head_file plan.form now plan.rows) part.left
  whole_of goes = ⊎_elim (λ on. calm_whole on.some (full_calm (fault_of part.end) on.full))
      (λ well. whole_well plan part.script is.plan_is _ now part.disk part.left part.end is.comes well) goes

-- the samples of parts behind others
history_more : (some more : List Part) → history_of (lefts_of (some ++ more)) ≡ history_of (lefts_of some) ++ history_of (lefts_of more)
history_more [] more = refl
history_more (part ∷ some) more =
    ap (λ (rest : List Sample). part.left.history ++ rest) (history_more some more)
    ∙ sym (append_assoc part.left.history (history_of (lefts_of some)) (history_of (lefts_of more)))

empty_or : (history : List Sample) → (history ≡ []) ⊎ (0 < length history)
empty_or [] = inl refl
empty_or (sample ∷ history) = inr (omega arith)

-- the last of some parts
last_part : (first : Part) (parts : List Part) → (init : List Part) × (last : Part) × (first ∷ parts ≡ init ++ last ∷ [])
last_part first [] = ([], first, refl)
last_part first (part ∷ parts) = let behind = last_part part parts in (first ∷ behind.0, behind.1, ap (λ (ps : List Part). first ∷ ps) behind.2)

module _ (plan : Plan) (now source : ℕ) where
  abbrev Whole : Outcome → Type 0
  Whole = IsDurableWhole plan (head_file plan.form now plan.rows)

  abbrev Did : List Part → List (List Fed) → Type 0
  Did parts dones = AllZip (DidIn plan.owners source) parts dones

  abbrev total : List (List Fed) → ℕ
  total dones = length (samples_of (in_order dones))

  -- all samples of a source are durable by a part that is durable whole, where those before are and those behind have no samples
  total_at : (init : List Part) (last : Part) (after : List Part) (dones : List (List Fed)) → All Whole (lefts_of init) → Whole last.left → history_of (lefts_of after) ≡ []
      → Did (init ++ last ∷ after) dones → IsDurableAmong plan now (init ++ last ∷ after) source (total dones)
  total_at init last after dones whole one none did =
      let history = last.left.history in
      let before = history_of (lefts_of init) in
      let split = history_more init (last ∷ after) ∙ ap (λ (rest : List Sample). before ++ (history ++ rest)) none ∙ ap (λ (rest : List Sample). before ++ rest) (append-nil history) in
      record {
        before = init;
        part = last;
        after = after;
        stands = refl;
        durable = record {
          whole = whole;
          through = length history;
          durable = one;
          own = ap (λ (h : List Sample). length (source_samples plan.owners (before ++ h) source)) (take_all (length history) history (omega arith))
              ∙ ap (λ (h : List Sample). length (source_samples plan.owners h source)) (sym split) ∙ ap length (own_all plan.owners source (init ++ last ∷ after) dones did);
        };
      }

  whole_front : (some more : List Part) → All Whole (lefts_of (some ++ more)) → All Whole (lefts_of some)
  whole_front [] more whole = All-nil Whole
  whole_front (part ∷ some) more whole =
      All-cons Whole part.left (lefts_of some) (All-head Whole part.left (lefts_of (some ++ more)) whole)
      (whole_front some more (All-tail Whole part.left (lefts_of (some ++ more)) whole))

  whole_last : (some : List Part) (last : Part) → All Whole (lefts_of (some ++ last ∷ [])) → Whole last.left
  whole_last [] last whole = All-head Whole last.left [] whole
  whole_last (part ∷ some) last whole = whole_last some last (All-tail Whole part.left (lefts_of (some ++ last ∷ [])) whole)

  -- the last part has no samples, and there is one before
  total_before : (init : List Part) (last final : Part) (dones : List (List Fed)) → All Whole (lefts_of (init ++ last ∷ [])) → final.left.history ≡ []
      → Did ((init ++ last ∷ []) ++ final ∷ []) dones → IsDurableAmong plan now ((init ++ last ∷ []) ++ final ∷ []) source (total dones)
  total_before init last final dones whole none did =
      let same = append_assoc init (last ∷ []) (final ∷ []) in
      subst (λ parts. IsDurableAmong plan now parts source (total dones)) (sym same)
      (total_at init last (final ∷ []) dones (whole_front init (last ∷ []) whole) (whole_last init last whole) (append-nil final.left.history ∙ none)
      (subst (λ parts. Did parts dones) same did))

  total_empty : (before : List Part) (final : Part) (dones : List (List Fed)) → All Whole (lefts_of before) → final.left.history ≡ [] → Did (before ++ final ∷ []) dones
      → total dones ≢ 0 → IsDurableAmong plan now (before ++ final ∷ []) source (total dones)
  total_empty [] final dones whole none did some =
      absurd (some (sym (ap length (own_all plan.owners source (final ∷ []) dones did))
      ∙ ap (λ (h : List Sample). length (source_samples plan.owners h source)) (append-nil final.left.history ∙ none)))
  total_empty (first ∷ parts) final dones whole none did some =
      let at = last_part first parts in
      subst (λ before. All Whole (lefts_of before) → Did (before ++ final ∷ []) dones → IsDurableAmong plan now (before ++ final ∷ []) source (total dones)) (sym at.2)
      (λ whole did. total_before at.0 at.1 final dones whole none did) whole did

  pub total_durable : (output : List ℕ) (number : ℕ) (before : List Part) (final : Part) → IsPart plan output now number final → All Whole (lefts_of before)
      → fault_of final.end ≢ Some fault.Device → (dones : List (List Fed)) → Did (before ++ final ∷ []) dones → total dones ≢ 0
      → IsDurableAmong plan now (before ++ final ∷ []) source (total dones)
  total_durable output number before final is whole calm dones did some = ⊎_elim
      (λ none. total_empty before final dones whole none did some)
      (λ there. total_at before final [] dones whole (calm_whole plan output now number final is there calm) refl did)
      (empty_or final.left.history)
