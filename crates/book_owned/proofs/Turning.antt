-- What samples cost, and what is so of a disk that tells its story.
use Rattle.std.proofs.Common.{◌≡◌, ◌≢◌, ◌+◌, ◌-◌, ◌<◌, ◌≤◌, ℕ, false, List, [], ◌∷◌, length, take, drop, Option, Some, None, refl, sym, ◌∙◌, ap, subst, arith, length-drop, take-append-drop}
use Rattle.std.specs.Prelude.{is_some, IfSome}
use Rattle.std.specs.Bool.{OnTrue}
use Rattle.std.specs.List.{All}
use Rattle.mdf_disk.specs.Story.{Story}
use Rattle.mdf_disk.specs.Crash.{Adds, HoldsSince}
use Rattle.mdf_layout.specs.Layout.{Layout}
use Rattle.mdf_layout.specs.Next.{AreNext}
use Rattle.mdf_layout.specs.Record.{SampleFits, history_cost}
use Rattle.mdf_layout.specs.Behind.{AreEncodingsBehind}
use Rattle.mdf_layout.specs.declared.sample.Sample.{Sample}
use Rattle.mdf_layout.proofs.Sizes.{encodings-length}
use Rattle.mdf_layout.proofs.Once.{no_bytes_behind}
use Rattle.book_owned.specs.Holds.{IsCounted, IsPending}
use Rattle.book_owned.specs.declared.in_memory.InMemory.{InMemory}
use Rattle.book_owned.proofs.Costs.{history_cost-least, history_cost-append}

-- the cost of the durable samples and of the pending ones
pub cost_parts : (layouts : List Layout) (history : List Sample) (through : ℕ)
    → history_cost layouts history ≡ history_cost layouts (take through history) + history_cost layouts (drop through history)
cost_parts layouts history through =
    ap (history_cost layouts) (sym (take-append-drop through history)) ∙ history_cost-append layouts (take through history) (drop through history)

-- the pending records and the block around them are shorter than what their samples cost
pub block_small : (layouts : List Layout) (before samples : List Sample) (bytes : List ℕ) → AreEncodingsBehind layouts before bytes samples → bytes ≢ []
    → length bytes + 96 ≤ history_cost layouts samples
block_small layouts before [] bytes records some = absurd (some (none bytes records)) where
  no_length : (bs : List ℕ) → length bs ≡ 0 → bs ≡ []
  no_length [] is = refl
  no_length (b ∷ bs) is = absurd (omega (arith, is))

  none : (bs : List ℕ) → AreEncodingsBehind layouts before bs [] → bs ≡ []
  none bs r = no_length bs (encodings-length layouts before bs [] r)
block_small layouts before (sample ∷ samples) bytes records some =
    omega (arith, encodings-length layouts before bytes (sample ∷ samples) records, history_cost-least layouts (sample ∷ samples))

-- where records are pending not all samples are durable
pub some_pending : (layouts : List Layout) (history : List Sample) (through : ℕ) (bytes : List ℕ)
    → AreEncodingsBehind layouts (take through history) bytes (drop through history) → bytes ≢ [] → through < length history
some_pending layouts history through bytes records some =
    below (drop through history) (omega (arith, block_small layouts (take through history) (drop through history) bytes records some)) (length-drop through history)
  where
    below : (samples : List Sample) → 96 ≤ history_cost layouts samples → length samples ≡ length history - through → through < length history
    below [] big long = absurd (omega (arith, big))
    below (sample ∷ samples) big long = omega (arith, long)

-- with nothing pending all samples were handed over
pub all_handed : {V : Type 0} (front : InMemory V) → IsPending front → front.from ≤ length front.history.items → front.stopped ≡ false → front.block.bytes ≡ []
    → front.from ≡ length front.history.items
all_handed front pending within going none =
    let rest = no_bytes_behind front.shapes (take front.from front.history.items) (drop front.from front.history.items)
    (subst (λ bytes. AreEncodingsBehind front.shapes (take front.from front.history.items) bytes (drop front.from front.history.items)) none (pending.records going)) in
    omega (arith, ap length rest, length-drop front.from front.history.items, within)

-- what is so where the story was told is so where it is told now
pub rises_told : (old new : Option Story) → is_some new ≡ is_some old → (P : Type 0) → IfSome old (λ _. P) → OnTrue (is_some new) P
rises_told None new same P has = subst (λ b. OnTrue b P) (sym same) tt
rises_told (Some s) new same P has = subst (λ b. OnTrue b P) (sym same) has

-- the same of what follows from it
pub told_on : (old new : Option Story) (P Q : Type 0) → is_some new ≡ is_some old → (P → Q) → IfSome old (λ _. P) → IfSome new (λ _. Q)
told_on old None P Q same follows has = tt
told_on None (Some s) P Q same follows has = absurd (cc same)
told_on (Some old) (Some s) P Q same follows has = follows has

-- Of a disk that tells no story nothing is said: it is enough to look at one that tells it.
pub adds_told : (old new : Option Story) (P : List ℕ → Type 0) (Q : Type 0) → is_some new ≡ is_some old → IfSome old (λ _. Q) → (Q → Adds old new P) → Adds old new P
adds_told None None P Q same has adds = λ t file left. absurd left
adds_told None (Some s) P Q same has adds = absurd (cc same)
adds_told (Some s) new P Q same has adds = adds has

pub holds_told : (story : Option Story) (t : ℕ) (P : List ℕ → Type 0) (Q : Type 0) → IfSome story (λ _. Q) → (Q → HoldsSince story t P) → HoldsSince story t P
holds_told None t P Q has holds = λ file left. absurd left
holds_told (Some s) t P Q has holds = holds has

-- what is counted stays where the samples stay and the block keeps its limit
pub counted_as : {V : Type 0} (old new : InMemory V)
    → new ≡ record old { history = new.history; block = new.block; spare = new.spare; from = new.from; stopped = new.stopped; marks = new.marks; view = new.view }
    → new.history.items ≡ old.history.items → new.block.limit ≡ old.block.limit → IsCounted old → IsCounted new
counted_as old new rest history limit counted = subst IsCounted (sym rest) (record {
  fit = subst (All (SampleFits old.shapes)) (sym history) counted.fit;
  held = counted.held ∙ ap (history_cost old.shapes) (sym history);
  within = counted.within;
  session = counted.session;
  some = omega (arith, counted.some, limit);
  block = omega (arith, counted.block, limit);
  groups = counted.groups;
  fields = counted.fields;
  disjoint = counted.disjoint;
  stored = counted.stored;
  variable = counted.variable;
  next = subst (λ h. AreNext old.shapes h old.next) (sym history) counted.next;
})
