-- The lists of a seat, and a history that goes on.
use Rattle.std.proofs.Common.{◌≡◌, ℕ, zero, suc, ◌<◌, ◌≤◌, List, [], ◌∷◌, ◌++◌, length, length-append, take, refl, sym, ap, ◌∙◌, subst, arith, append-nil}
use Rattle.std.specs.Prelude.{◌==◌, slice_index, cond, Bool}
use Rattle.std.proofs.lemmas.Bool.{cond-false, eq-eqb, ne_eqb}
use Rattle.std.proofs.lemmas.List.Elements.{filter-append}
use mathlib.Core.List.{IsPrefix}
use Rattle.mdf_gate.proofs.Carrying.{prefix_trans}
use Rattle.mdf_layout.specs.History.{source_samples}
use Rattle.mdf_layout.specs.declared.sample.Sample.{Sample}
use Rattle.book_owned.specs.declared.mark.Mark.{Mark}
use Rattle.book_shared.specs.Basis.{Turn, idle, holding, Device, free, resting, handed, writing, written, settled}
use Rattle.book_shared.specs.Rule.{World, times_in, holds_turn, holds_device, lends_block, has_back, AreOwn, AreOld, Names, Answers}
use Rattle.book_shared.specs.Plays.{recount, AreFrom}
use Rattle.book_shared.specs.declared.view.View.{View}

abbrev pub one_if : Bool → ℕ
one_if b = cond b 1 0

-- a source stands where it is put first
pub counts_first : (n : ℕ) (samples : List Sample) (parts : List (ℕ × List Sample)) → 0 < times_in n ((n, samples) ∷ parts)
counts_first n samples parts = omega (arith, ap one_if (eq-eqb n n refl))

-- a history with more samples has of a source the samples of both
pub source_more : (owners : List ℕ) (history added : List Sample) (n : ℕ) → source_samples owners (history ++ added) n ≡ source_samples owners history n ++ source_samples owners added n
source_more owners history added n = filter-append (λ (sample : Sample). slice_index owners sample.group == n) history added

-- samples of sources that stand among these are of no other
pub none_of : (owners : List ℕ) (mine : List (ℕ × List Sample)) (added : List Sample) (n : ℕ) → AreFrom owners mine added
    → (0 < times_in n mine → ⊥) → source_samples owners added n ≡ []
none_of owners mine [] n from none = refl
none_of owners mine (sample ∷ added) n from none =
    cond-false (slice_index owners sample.group == n) _ _
    (ne_eqb (slice_index owners sample.group) n (λ is. none (subst (λ k. 0 < times_in k mine) is from.0)))
    ∙ none_of owners mine added n from.1 none

-- lists that stay all that the history has of their sources
pub own_same : (owners : List ℕ) (history added : List Sample) (parts : List (ℕ × List Sample))
    → ((n : ℕ) → 0 < times_in n parts → source_samples owners added n ≡ []) → AreOwn owners history parts → AreOwn owners (history ++ added) parts
own_same owners history added [] none own = tt
own_same owners history added (part ∷ parts) none own = (
  own.0 ∙ sym (source_more owners history added part.0
      ∙ ap (λ more. source_samples owners history part.0 ++ more) (none part.0 (counts_first part.0 part.1 parts))
      ∙ append-nil (source_samples owners history part.0)),
  own_same owners history added parts (λ n some. none n (omega (arith, some))) own.1,
)

-- where a list is all of two others behind it, those have nothing
nothing_between : (own a b : List Sample) → own ≡ (own ++ a) ++ b → a ≡ []
nothing_between own [] b is = refl
nothing_between own (x ∷ a) b is = absurd (omega (arith, ap length is, length-append (own ++ x ∷ a) b, length-append own (x ∷ a)))

-- lists that are all that a history and a later one have of their sources are that of each history between them
pub own_between : (owners : List ℕ) (seen between history : List Sample) (parts : List (ℕ × List Sample)) → IsPrefix seen between → IsPrefix between history
    → AreOwn owners seen parts → AreOwn owners history parts → AreOwn owners between parts
own_between owners seen between history [] begins goes first last = tt
own_between owners seen between history (part ∷ parts) begins goes first last =
    let more = source_samples owners begins.0 part.0 in
    let here : source_samples owners between part.0 ≡ part.1 ++ more =
    ap (λ h. source_samples owners h part.0) (sym begins.1) ∙ source_more owners seen begins.0 part.0 ∙ ap (λ ss. ss ++ more) (sym first.0) in
    let all : part.1 ≡ (part.1 ++ more) ++ source_samples owners goes.0 part.0 =
    last.0 ∙ ap (λ h. source_samples owners h part.0) (sym goes.1) ∙ source_more owners between goes.0 part.0 ∙ ap (λ ss. ss ++ source_samples owners goes.0 part.0) here in (
      sym (here ∙ ap (λ ss. part.1 ++ ss) (nothing_between part.1 more (source_samples owners goes.0 part.0) all) ∙ append-nil part.1),
      own_between owners seen between history parts begins goes first.1 last.1,
    )

-- a beginning of a list is one of each longer beginning
pub prefix_within : {A : Type 0} (xs ys : List A) (n : ℕ) → IsPrefix xs ys → length xs ≤ n → IsPrefix xs (take n ys)
prefix_within xs ys n begins less = subst (λ zs. IsPrefix xs (take n zs)) begins.1 (within xs n less) where
  within : (zs : List _) (k : ℕ) → length zs ≤ k → IsPrefix zs (take k (zs ++ begins.0))
  within [] k few = (take k begins.0, refl)
  within (z ∷ zs) zero few = absurd (omega (arith, few))
  within (z ∷ zs) (suc k) few = let more = within zs k (omega (arith, few)) in (more.0, ap (λ ws. z ∷ ws) more.1)

-- lists that are counted anew
pub own_recount : (owners : List ℕ) (history : List Sample) (mine : List (ℕ × List Sample)) → AreOwn owners history (recount owners history mine)
own_recount owners history [] = tt
own_recount owners history (part ∷ parts) = (refl, own_recount owners history parts)

pub times_recount : (owners : List ℕ) (history : List Sample) (mine : List (ℕ × List Sample)) (n : ℕ) → times_in n (recount owners history mine) ≡ times_in n mine
times_recount owners history [] n = refl
times_recount owners history (part ∷ parts) n = omega (arith, times_recount owners history parts n)

-- what was seen before begins what is seen later
pub old_later : (seen seen' : List Sample) (kept kept' : List Mark) (olds : List (List Sample × List Mark)) → IsPrefix seen seen' → IsPrefix kept kept'
    → AreOld seen kept olds → AreOld seen' kept' olds
old_later seen seen' kept kept' [] s k are = tt
old_later seen seen' kept kept' (old ∷ olds) s k are =
    ((prefix_trans old.0 seen seen' are.0.0 s, prefix_trans old.1 kept kept' are.0.1 k), old_later seen seen' kept kept' olds s k are.1)

-- a seat with no turn names nothing, and one with a turn may meet the word again
pub names_none : (w : World) (v : View) (t : Turn) → holds_turn t ≡ 0 → Names w v t
names_none w v idle none = tt
names_none w v (holding held) none = absurd (omega (arith, none))

-- a list of one without its last
pub alone : {A : Type 0} (rest : List A) (last first : A) → first ∷ [] ≡ rest ++ last ∷ [] → (first ≡ last) × (rest ≡ [])
alone [] last first is = (cc, refl)
alone (x ∷ rest) last first is = absurd (omega (arith, ap length is, length-append rest (last ∷ [])))

-- who lends a block or has the back out has the device
pub lends_less : (d : Device) → lends_block d ≤ holds_device d
lends_less free = omega arith
lends_less resting = omega arith
lends_less handed = omega arith
lends_less writing = omega arith
lends_less (written answer) = omega arith
lends_less (settled answer) = omega arith

pub back_held : (d : Device) → has_back d ≤ holds_device d
back_held free = omega arith
back_held resting = omega arith
back_held handed = omega arith
back_held writing = omega arith
back_held (written answer) = omega arith
back_held (settled answer) = omega arith

-- no answer is owed by who lends no block
pub answers_none : (from : ℕ) (d : Device) → lends_block d ≡ 0 → Answers from d
answers_none from free none = tt
answers_none from resting none = tt
answers_none from handed none = tt
answers_none from writing none = tt
answers_none from (written answer) none = absurd (omega (arith, none))
answers_none from (settled answer) none = absurd (omega (arith, none))

-- a seat of one source has one
pub one_source : (number : ℕ) (parts : List (ℕ × List Sample)) (samples : List Sample) → parts ≡ (number, samples) ∷ [] → 0 < length parts
one_source number parts samples is = omega (arith, ap length is)
