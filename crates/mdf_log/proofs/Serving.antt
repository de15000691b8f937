-- What a source did over parts, when one more was recorded.
use Rattle.std.proofs.Common.{◌≡◌, ◌+◌, ◌∙◌, ℕ, List, [], ◌∷◌, ◌++◌, length, All, Option, Some, None, refl, sym, ap, subst, ⊎_elim, arith, append-nil, append_assoc, length-append}
use Rattle.std.specs.Prelude.{IfSome}
use Rattle.std.specs.List.{AllZip}
use Rattle.std.proofs.lemmas.List.Elements.{All-append, filter-append}
use Rattle.mdf_port.specs.declared.source.Source as source
use Rattle.mdf_port.specs.declared.sink.Sink as sink
use Rattle.mdf_layout.specs.History.{source_samples}
use Rattle.mdf_layout.specs.declared.sample.Sample.{Sample}
use Rattle.mdf_spell.specs.Recording.{head_file}
use Rattle.book_owned.specs.Kept.{MarksHold}
use Rattle.acq_run.specs.Feeds.{flushes_behind, samples_of}
use Rattle.acq_run.specs.declared.feed.Fed.{Fed}
use Rattle.acq_run.specs.declared.feed.Fed.TheVariants as fed
use Rattle.acq_lines.specs.Handled.{Halts, Hands, Resumes, ResumesFrom, Serves, Stops, StopsWell}
use Rattle.acq_lines.specs.Steps.{behind_more, serves_more}
use Rattle.acq_lines.specs.declared.feed.Halt.{Halt}
use Rattle.acq_lines.specs.declared.feed.Halt.TheVariants as halts
use Rattle.acq_lines.specs.declared.feed.LineFeed.{LineFeed}
use Rattle.acq_run.specs.Works.{AreMarked}
use Rattle.acq_script.specs.declared.script.Plan.{Plan}
use Rattle.mdf_command.specs.declared.fault.Fault.{Fault}
use Rattle.mdf_log.specs.Course.{HasEnded, HasMoved, HasServed}
use Rattle.mdf_log.specs.Durable.{IsDurableWhole, history_of}
use Rattle.mdf_log.specs.Logged.{DidIn, IsDurableAmong, in_order}
use Rattle.mdf_log.specs.Parts.{Part, Precedes, fault_of, lefts_of}
use Rattle.mdf_log.proofs.Durable.{told_durable}

-- the samples of what was handed in in two steps
samples_more : (some more : List Fed) → samples_of (some ++ more) ≡ samples_of some ++ samples_of more
samples_more [] more = refl
samples_more (fed.Sample sample ∷ some) more = ap (λ (rest : List Sample). sample ∷ rest) (samples_more some more)
samples_more (fed.Flush ∷ some) more = samples_more some more
samples_more (fed.End ∷ some) more = samples_more some more

-- what was done in all parts, and in one more
in_order_behind : (dones : List (List Fed)) (done : List Fed) → in_order (dones ++ done ∷ []) ≡ in_order dones ++ done
in_order_behind [] done = append-nil done
in_order_behind (one ∷ dones) done = ap (λ (rest : List Fed). one ++ rest) (in_order_behind dones done) ∙ sym (append_assoc one (in_order dones) done)

zip_behind : {A B : Type 0} (R : A → B → Type 0) (xs : List A) (ys : List B) (x : A) (y : B) → AllZip R xs ys → R x y → AllZip R (xs ++ x ∷ []) (ys ++ y ∷ [])
zip_behind R [] [] x y all one = (one, tt)
zip_behind R [] (b ∷ ys) x y all one = absurd all
zip_behind R (a ∷ xs) [] x y all one = absurd all
zip_behind R (a ∷ xs) (b ∷ ys) x y all one = (all.0, zip_behind R xs ys x y all.1 one)

-- the samples of a source in all parts are those of what it did
pub own_all : (owners : List ℕ) (source : ℕ) (parts : List Part) (dones : List (List Fed)) → AllZip (DidIn owners source) parts dones
    → source_samples owners (history_of (lefts_of parts)) source ≡ samples_of (in_order dones)
own_all owners source [] [] did = refl
own_all owners source [] (done ∷ dones) did = absurd did
own_all owners source (part ∷ parts) [] did = absurd did
own_all owners source (part ∷ parts) (done ∷ dones) did =
    filter-append _ part.left.history (history_of (lefts_of parts))
    ∙ ap (λ (own : List Sample). own ++ source_samples owners (history_of (lefts_of parts)) source) did.0.own
    ∙ ap (λ (rest : List Sample). samples_of done ++ rest) (own_all owners source parts dones did.1)
    ∙ sym (samples_more done (in_order dones))

-- behind these parts one more, of a plan
module _ (plan : Plan) (now : ℕ) (parts : List Part) (part : Part) (number : ℕ) (whole : All (IsDurableWhole plan (head_file plan.form now plan.rows)) (lefts_of parts))
    (hold : MarksHold plan.shapes (head_file plan.form now plan.rows) part.left.disk.story part.left.disk.moment part.left.history part.left.marks) where
  abbrev Among : ℕ → Type 0
  Among = IsDurableAmong plan now (parts ++ part ∷ []) number

  among_more : (n : ℕ) → IsDurableAmong plan now parts number n → Among n
  among_more n is = record {
    before = is.before;
    part = is.part;
    after = is.after ++ part ∷ [];
    stands = ap (λ (ps : List Part). ps ++ part ∷ []) is.stands ∙ append_assoc is.before (is.part ∷ is.after) (part ∷ []);
    durable = is.durable;
  }

  told_among : (dones : List (List Fed)) (done : List Fed) → AllZip (DidIn plan.owners number) parts dones → AreMarked plan.owners number part.left.history part.left.marks [] done
      → All Among (flushes_behind (0 + length (samples_of (in_order dones))) done)
  told_among dones done did marked k d within = record {
    before = parts;
    part = part;
    after = [];
    stands = refl;
    durable = told_durable plan (head_file plan.form now plan.rows) (lefts_of parts) part.left number (0 + length (samples_of (in_order dones))) whole hold
        (omega (arith, ap length (own_all plan.owners number parts dones did))) done marked k d within;
  }

  durable_on : (dones : List (List Fed)) (done : List Fed) → AllZip (DidIn plan.owners number) parts dones → AreMarked plan.owners number part.left.history part.left.marks [] done
      → All (IsDurableAmong plan now parts number) (flushes_behind 0 (in_order dones)) → All Among (flushes_behind 0 (in_order (dones ++ done ∷ [])))
  durable_on dones done did marked so_far =
      subst (All Among) (sym (ap (flushes_behind 0) (in_order_behind dones done) ∙ behind_more 0 (in_order dones) done))
      (All-append Among (flushes_behind 0 (in_order dones)) (flushes_behind (0 + length (samples_of (in_order dones))) done)
      (λ k d within. among_more _ (so_far k d within)) (told_among dones done did marked))

  -- a source that served the parts before, and moved in this one
  module _ {S K : Type 0} {tells : source.Ghosts S} (holds : sink.Ghosts K) (first feed new : LineFeed S K tells) (running : first.halt ≡ None) (before behind : ℕ)
      (so_far : HasServed holds plan now parts number first feed before) (moved : HasMoved holds plan part number feed new before behind) where
    abbrev dones : List (List Fed)
    dones = so_far.dones ++ moved.done ∷ []

    did : AllZip (DidIn plan.owners number) (parts ++ part ∷ []) dones
    did = zip_behind (DidIn plan.owners number) parts so_far.dones part moved.done so_far.did moved.did

    serves_all : Serves holds first (in_order so_far.dones ++ (moved.done ++ moved.did.rest)) new
    serves_all = serves_more holds first feed new (in_order so_far.dones) (moved.done ++ moved.did.rest) so_far.served moved.hands.0

    stops : StopsWell holds new
    stops = serves_all.stops (subst (λ halt. IfSome halt (Stops holds first)) (sym running) tt)

    halted_told : Halts new → new.flushed ≡ None
    halted_told is = let stopped : Stops holds new is.halt = subst (λ halt. IfSome halt (Stops holds new)) is.halt_is stops in stopped.told

    accepted_is : behind ≡ length (samples_of (in_order dones))
    accepted_is = omega (
      arith,
      moved.counted,
      so_far.accepted_is,
      ap (λ (feds : List Fed). length (samples_of feds)) (in_order_behind so_far.dones moved.done),
      ap length (samples_more (in_order so_far.dones) moved.done),
      length-append (samples_of (in_order so_far.dones)) (samples_of moved.done),
    )

    durable : All Among (flushes_behind 0 (in_order dones))
    durable = durable_on so_far.dones moved.done so_far.did moved.marked so_far.durable

    pub has_ended : (problem : Option Fault) → problem ≡ fault_of part.end → HasEnded holds plan now (parts ++ part ∷ []) problem number first new behind
    has_ended problem is = record {
      dones = dones;
      did = did;
      rest = moved.did.rest;
      one = moved.did.one;
      served = subst (λ feds. Serves holds first feds new)
          (sym (append_assoc (in_order so_far.dones) moved.done moved.did.rest) ∙ ap (λ (feds : List Fed). feds ++ moved.did.rest) (sym (in_order_behind so_far.dones moved.done))) serves_all;
      waiting = moved.waiting;
      told = λ none. ⊎_elim halted_told (λ same. ap (λ (f : LineFeed S K tells). f.flushed) same ∙ so_far.told) (moved.still none);
      well = λ well. moved.well (sym is ∙ well);
      accepted_is = accepted_is;
      durable = durable;
    }

    -- a feed that has ended goes on, or stays
    went_on : (next : LineFeed S K tells) (halt : Halt) → ResumesFrom holds (Some halt) new next → (feds : List Fed) → Serves holds first feds new → new.flushed ≡ None
        → Serves holds first feds next × (next.flushed ≡ None)
    went_on next halts.Input same feds served told = (subst (λ f. Serves holds first feds f) (sym same) served, ap (λ (f : LineFeed S K tells). f.flushed) same ∙ told)
    went_on next halts.Line same feds served told = (subst (λ f. Serves holds first feds f) (sym same) served, ap (λ (f : LineFeed S K tells). f.flushed) same ∙ told)
    went_on next halts.Failed same feds served told = (subst (λ f. Serves holds first feds f) (sym same) served, ap (λ (f : LineFeed S K tells). f.flushed) same ∙ told)
    went_on next halts.Memory same feds served told = (subst (λ f. Serves holds first feds f) (sym same) served, ap (λ (f : LineFeed S K tells). f.flushed) same ∙ told)
    went_on next halts.Count same feds served told = (subst (λ f. Serves holds first feds f) (sym same) served, ap (λ (f : LineFeed S K tells). f.flushed) same ∙ told)
    went_on next halts.Called resumes feds served told = (resumes.2 first feds served, resumes.1 ∙ told)

    -- all was done
    resumed_whole : (next : LineFeed S K tells) → Resumes holds new next → moved.did.rest ≡ [] → Halts new → Serves holds first (in_order dones) next × (next.flushed ≡ None)
    resumed_whole next resumes none is = went_on next is.halt (subst (λ halt. ResumesFrom holds halt new next) is.halt_is resumes) (in_order dones)
        (subst (λ feds. Serves holds first feds new)
        (ap (λ (rest : List Fed). in_order so_far.dones ++ (moved.done ++ rest)) none ∙ ap (λ (done : List Fed). in_order so_far.dones ++ done) (append-nil moved.done)
        ∙ sym (in_order_behind so_far.dones moved.done)) serves_all)
        (halted_told is)

    -- a sample was not done, and is put back
    resumed_back : (next : LineFeed S K tells) → Resumes holds new next → (sample : Sample) → moved.did.rest ≡ fed.Sample sample ∷ []
        → Serves holds first (in_order dones) next × (next.flushed ≡ None)
    resumed_back next resumes sample rest_is =
        let waits = moved.waiting (fed.Sample sample) rest_is in
        let back = subst (λ halt. ResumesFrom holds halt new next) waits.0 resumes in (
          subst (λ feds. Serves holds first feds next) (sym (in_order_behind so_far.dones moved.done))
              (serves_more holds first feed next (in_order so_far.dones) moved.done so_far.served
              (back.2 feed moved.done sample (subst (λ rest. Hands holds feed (moved.done ++ rest) new) rest_is moved.hands))),
          back.1 ∙ waits.1,
        )

    pub has_served : (next : LineFeed S K tells) → Precedes part → Resumes holds new next → HasServed holds plan now (parts ++ part ∷ []) number first next behind
    has_served next goes resumes =
        let both = ⊎_elim (λ (whole : (moved.did.rest ≡ []) × Halts new). resumed_whole next resumes whole.0 whole.1)
        (λ (back : (sample : Sample) × (moved.did.rest ≡ fed.Sample sample ∷ [])). resumed_back next resumes back.0 back.1) (moved.left goes) in
        record { dones = dones; did = did; served = both.0; told = both.1; accepted_is = accepted_is; durable = durable }
