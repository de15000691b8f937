-- Each sample of the history is of a group of the book, since a source hands in no other.
use Rattle.std.proofs.Common.{◌≡◌, ◌+◌, ◌≤◌, ◌<◌, ⊎_elim, Bool, true, false, ℕ, zero, suc, List, [], ◌∷◌, ◌++◌, length, All, refl, sym, subst, arith, length-append}
use Rattle.std.specs.Prelude.{◌==◌, cond, slice_index}
use Rattle.std.proofs.lemmas.Bool.{cases_eq, cases_lt, cond-true, eq-eqb}
use Rattle.std.proofs.lemmas.List.{get_or_append_left}
use Rattle.std.proofs.lemmas.Option.{slice_get_within}
use Rattle.mdf_layout.specs.History.{source_samples}
use Rattle.mdf_layout.specs.declared.sample.Sample.{Sample}
use Rattle.book_owned.specs.Account.{Account, Terms}
use Rattle.acq_run.specs.Feeds.{samples_of}
use Rattle.acq_run.specs.Tasks.{MayAppend, MayFeed}
use Rattle.acq_run.specs.Ran.{AllHanded, AllMayFeed, AllMayHand, AllRan, AreOwned}
use Rattle.acq_run.specs.declared.feed.Fed.{Fed}
use Rattle.acq_run.specs.declared.feed.Fed.TheVariants as fed
use Rattle.acq_run.specs.declared.work.Driven.{Driven}

-- each of these is of one of so many groups
abbrev Grouped : ℕ → List Sample → Type 0
Grouped groups samples = All (λ (s : Sample). s.group < groups) samples

-- what is done of a feed
pub front_may : (owners : List ℕ) (terms : Terms) (source : ℕ) (done rest : List Fed) → All (MayFeed owners terms source) (done ++ rest) → All (MayFeed owners terms source) done
front_may owners terms source done rest may k d within =
    subst (MayFeed owners terms source) (get_or_append_left done rest d k within) (may k d (omega (arith, within, length-append done rest)))

fed_grouped : (owners : List ℕ) (terms : Terms) (source : ℕ) (feds : List Fed) → All (MayFeed owners terms source) feds → Grouped (length terms.layouts) (samples_of feds)
fed_grouped owners terms source [] may k d within = absurd (omega (arith, within))
fed_grouped owners terms source (fed.Sample sample ∷ feds) may zero d within =
    let one : MayAppend owners terms source sample = may 0 fed.Flush (omega arith) in
    slice_get_within terms.layouts sample.group one.fits.layout one.fits.known
fed_grouped owners terms source (fed.Sample sample ∷ feds) may (suc k) d within =
    fed_grouped owners terms source feds (λ j e less. may (suc j) e (omega (arith, less))) k d (omega (arith, within))
fed_grouped owners terms source (fed.Flush ∷ feds) may k d within =
    fed_grouped owners terms source feds (λ j e less. may (suc j) e (omega (arith, less))) k d within
fed_grouped owners terms source (fed.End ∷ feds) may k d within =
    fed_grouped owners terms source feds (λ j e less. may (suc j) e (omega (arith, less))) k d within

module _ {D V : Type 0} (owners : List ℕ) (terms : Terms) (book : Account D V) (seen : List (List Sample)) where
  -- the samples of each source
  own_grouped : (first : ℕ) (feeds : List (List Fed)) (all : List Driven) → AllRan owners book seen first feeds all → AllMayFeed owners terms first feeds
      → (s : ℕ) → first ≤ s → s < first + length feeds → Grouped (length terms.layouts) (source_samples owners book.history s)
  own_grouped first [] all ran may s low high = absurd (omega (arith, low, high))
  own_grouped first (feds ∷ feeds) [] ran may s low high = absurd ran
  own_grouped first (feds ∷ feeds) (driven ∷ all) ran may s low high = ⊎_elim
      (λ same. subst (λ n. Grouped (length terms.layouts) (source_samples owners book.history n)) (sym same)
      (subst (Grouped (length terms.layouts)) (sym ran.0.own)
      (fed_grouped owners terms first ran.0.done
      (front_may owners terms first ran.0.done ran.0.rest (subst (All (MayFeed owners terms first)) (sym ran.0.parts) may.0.0)))))
      (λ differs. own_grouped (suc first) feeds all ran.1 may.1 s (above first s low differs) (omega (arith, high))) (cases_eq s first) where
        above : (a b : ℕ) → a ≤ b → (b ≡ a → ⊥) → suc a ≤ b
        above a b low differs = ⊎_elim (λ less. omega (arith, less)) (λ more. absurd (differs (omega (arith, low, more)))) (cases_lt a b)

-- of what is one sample more, or not, the rest
behind : (groups : ℕ) (b : Bool) (sample : Sample) (samples : List Sample) → Grouped groups (cond b (sample ∷ samples) samples) → Grouped groups samples
behind groups true sample samples all k d within = all (suc k) d (omega (arith, within))
behind groups false sample samples all k d within = all k d within

module _ (owners : List ℕ) (groups sources : ℕ) where
  all_owned : (history : List Sample) → ((s : ℕ) → s < sources → Grouped groups (source_samples owners history s))
      → All (λ (s : Sample). slice_index owners s.group < sources) history → AreOwned owners groups sources history
  all_owned [] each owned k d within = absurd (omega (arith, within))
  all_owned (sample ∷ history) each owned zero d within =
      let owner = slice_index owners sample.group in
      let below : owner < sources = owned 0 sample (omega arith) in
      let own = source_samples owners history owner in
      record {
        group = subst (Grouped groups) (cond-true (owner == owner) (sample ∷ own) own (eq-eqb owner owner refl)) (each owner below) 0 sample (omega arith);
        owner = below;
      }
  all_owned (sample ∷ history) each owned (suc k) d within =
      all_owned history
      (λ s less. behind groups (slice_index owners sample.group == s) sample (source_samples owners history s) (each s less))
      (λ j e less. owned (suc j) e (omega (arith, less))) k d (omega (arith, within))

-- what was handed in is what may be
pub handed_may : {F : Type 0} (hands : F → List Fed → F → Type 0) (owners : List ℕ) (terms : Terms) (first : ℕ) (feeds rest : List F) (handed : List (List Fed))
    → AllHanded hands feeds handed rest → AllMayHand hands owners terms first feeds → AllMayFeed owners terms first handed
handed_may hands owners terms first [] [] [] all may = tt
handed_may hands owners terms first [] [] (feds ∷ handed) all may = absurd all
handed_may hands owners terms first [] (left ∷ rest) [] all may = absurd all
handed_may hands owners terms first [] (left ∷ rest) (feds ∷ handed) all may = absurd all
handed_may hands owners terms first (feed ∷ feeds) [] [] all may = absurd all
handed_may hands owners terms first (feed ∷ feeds) [] (feds ∷ handed) all may = absurd all
handed_may hands owners terms first (feed ∷ feeds) (left ∷ rest) [] all may = absurd all
handed_may hands owners terms first (feed ∷ feeds) (left ∷ rest) (feds ∷ handed) all may =
    (may.0 feds (left, all.0), handed_may hands owners terms (suc first) feeds rest handed all.1 may.1)

pub handed_count : {F : Type 0} (hands : F → List Fed → F → Type 0) (feeds rest : List F) (handed : List (List Fed)) → AllHanded hands feeds handed rest
    → length handed ≡ length feeds
handed_count hands [] [] [] all = refl
handed_count hands [] [] (feds ∷ handed) all = absurd all
handed_count hands [] (left ∷ rest) [] all = absurd all
handed_count hands [] (left ∷ rest) (feds ∷ handed) all = absurd all
handed_count hands (feed ∷ feeds) [] [] all = absurd all
handed_count hands (feed ∷ feeds) [] (feds ∷ handed) all = absurd all
handed_count hands (feed ∷ feeds) (left ∷ rest) [] all = absurd all
handed_count hands (feed ∷ feeds) (left ∷ rest) (feds ∷ handed) all = omega (arith, handed_count hands feeds rest handed all.1)

-- all that sources did which may hand in what they have
pub ran_owned : {D V : Type 0} (owners : List ℕ) (terms : Terms) (book : Account D V) (seen : List (List Sample)) (feeds : List (List Fed)) (all : List Driven) (sources : ℕ)
    → sources ≡ length feeds → AllRan owners book seen 0 feeds all → AllMayFeed owners terms 0 feeds
    → All (λ (s : Sample). slice_index owners s.group < sources) book.history → AreOwned owners (length terms.layouts) sources book.history
ran_owned owners terms book seen feeds all sources count ran may owned =
    all_owned owners (length terms.layouts) sources book.history
    (λ s less. own_grouped owners terms book seen 0 feeds all ran may s (omega arith) (omega (arith, less, count))) owned
