-- Two lists of owners that are looked up alike.
use Rattle.std.proofs.Common.{◌≡◌, ◌<◌, ℕ, List, [], ◌∷◌, ◌++◌, take, refl, sym, ◌∙◌, ap, arith, All}
use Rattle.std.proofs.lemmas.List.Elements.{All-weaker}
use Rattle.std.specs.Prelude.{◌==◌, cond, slice_index}
use Rattle.mdf_layout.specs.History.{source_samples}
use Rattle.mdf_layout.specs.declared.sample.Sample.{Sample}
use Rattle.book_owned.specs.Account.{Account, Terms}
use Rattle.book_owned.specs.declared.mark.Mark.{Mark}
use Rattle.acq_run.specs.Tasks.{MayFeed}
use Rattle.acq_run.specs.Works.{AreMarked, IsFlushed, IsMarkedAt}
use Rattle.acq_run.specs.Ran.{Ran}
use Rattle.acq_run.specs.declared.feed.Fed.{Fed}
use Rattle.acq_run.specs.declared.feed.Fed.TheVariants as fed
use Rattle.acq_run.specs.declared.work.Driven.{Driven}

module _ (table owners : List ℕ) (alike : (group : ℕ) → slice_index table group ≡ slice_index owners group) (source : ℕ) where
  pub source_same : (history : List Sample) → source_samples table history source ≡ source_samples owners history source
  source_same [] = refl
  source_same (sample ∷ history) =
      ap (λ owner. cond (owner == source) (sample ∷ source_samples table history source) (source_samples table history source)) (alike sample.group)
      ∙ ap (λ rest. cond (slice_index owners sample.group == source) (sample ∷ rest) rest) (source_same history)

  marked_at_same : (history own : List Sample) (marks : List Mark) → IsMarkedAt table source history marks own → IsMarkedAt owners source history marks own
  marked_at_same history own marks at = record {
    through = at.through;
    mark = at.mark;
    within = at.within;
    own_is = sym (source_same (take at.through history)) ∙ at.own_is;
  }

  pub flushed_same : (history before : List Sample) (feds : List Fed) (n : ℕ) → IsFlushed table source history before feds n → IsFlushed owners source history before feds n
  flushed_same history before feds n flushed = record {
    first = flushed.first;
    later = flushed.later;
    feds_are = flushed.feds_are;
    within = flushed.within;
    own_is = sym (source_same (take n history)) ∙ flushed.own_is;
  }

  marked_same : (history before : List Sample) (marks : List Mark) (feds : List Fed) → AreMarked table source history marks before feds → AreMarked owners source history marks before feds
  marked_same history before marks [] are = tt
  marked_same history before marks (fed.Sample sample ∷ feds) are = marked_same history (before ++ sample ∷ []) marks feds are
  marked_same history before marks (fed.Flush ∷ feds) are = (marked_at_same history before marks are.0, marked_same history before marks feds are.1)
  marked_same history before marks (fed.End ∷ feds) are = marked_same history before marks feds are

  pub may_same : (terms : Terms) (task : Fed) → MayFeed owners terms source task → MayFeed table terms source task
  may_same terms (fed.Sample sample) may = record { owned = alike sample.group ∙ may.owned; fits = may.fits; size = may.size }
  may_same terms fed.Flush may = tt
  may_same terms fed.End may = tt

  pub ran_same : {D V : Type 0} (book : Account D V) (seen : List Sample) (feds : List Fed) (driven : Driven) → Ran table book source seen feds driven
      → Ran owners book source seen feds driven
  ran_same book seen feds driven ran = record {
    done = ran.done;
    rest = ran.rest;
    parts = ran.parts;
    own = sym (source_same book.history) ∙ ran.own;
    counted = ran.counted;
    begins = ran.begins;
    all_own = sym (source_same seen) ∙ ran.all_own;
    marked = marked_same seen [] book.marks ran.done ran.marked;
    ends = ran.ends;
  }

  pub done_same : {D V : Type 0} (book : Account D V) (seen : List Sample) (feds : List Fed) (driven : Driven) (ran : Ran table book source seen feds driven)
      → (ran_same book seen feds driven ran).done ≡ ran.done
  unfolding ran_same
  done_same book seen feds driven ran = refl

  pub rest_same : {D V : Type 0} (book : Account D V) (seen : List Sample) (feds : List Fed) (driven : Driven) (ran : Ran table book source seen feds driven)
      → (ran_same book seen feds driven ran).rest ≡ ran.rest
  unfolding ran_same
  rest_same book seen feds driven ran = refl

  pub owned_same : (sources count : ℕ) → sources ≡ count → (history : List Sample) → All (λ (s : Sample). slice_index table s.group < sources) history
      → All (λ (s : Sample). slice_index owners s.group < count) history
  owned_same sources count same history owned =
      All-weaker (λ (s : Sample). slice_index table s.group < sources) (λ (s : Sample). slice_index owners s.group < count)
      (λ sample less. omega (arith, alike sample.group, same, less)) history owned
