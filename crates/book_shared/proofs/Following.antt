-- What a seat knew goes on in what it knows later.
use Rattle.std.proofs.Common.{◌≡◌, ℕ, ◌+◌, ◌≤◌, true, false, List, [], ◌∷◌, ◌++◌, length, length-append, refl, sym, ap, ◌∙◌, subst, inl, inr, ⊎_elim, arith, append-nil, append_assoc}
use Rattle.std.specs.Prelude.{Option as Opt, None, Some}
use mathlib.Core.List.{IsPrefix}
use Rattle.mdf_disk.specs.declared.disk.Disk.{Ghosts as DiskOf}
use Rattle.mdf_gate.proofs.Carrying.{prefix_self, prefix_append, prefix_trans}
use Rattle.mdf_layout.specs.declared.sample.Sample.{Sample}
use Rattle.book_owned.specs.FrontHalf.{FrontAccount}
use Rattle.book_owned.specs.declared.view.Shown.{Ghosts as ViewOf}
use Rattle.book_owned.specs.Answers.{accepted_by}
use Rattle.book_owned.specs.declared.answer.Flush.{Flush}
use Rattle.book_owned.specs.declared.answer.Flush.TheVariants as flush
use Rattle.book_shared.specs.Basis.{Device, Held, resting, writing}
use Rattle.book_shared.specs.Plays.{recount, at_device, given, held_of}
use Rattle.book_shared.specs.Place.{own_part, IsSingle}
use Rattle.book_shared.specs.Turns.{IsFirst, Took, Served, Rests}
use Rattle.book_shared.specs.Told.{FlushesSeen, Asks, MarksThrough}
use Rattle.book_shared.specs.Rounds.{wanted, HasFlushed, IsRound, HasTried}
use Rattle.book_shared.specs.declared.answer.Try.{Try}
use Rattle.book_shared.specs.declared.answer.Try.TheVariants.{Busy, NeedsFlush, Answered}
use Rattle.book_shared.specs.declared.view.View.{View}
use Rattle.book_shared.proofs.Given.{single_again}
use Rattle.book_shared.proofs.Finishing.{recount_same}

-- no sample of its own was accepted in between, and it asked for no mark
pub record Follows (v y : View) : Type 0 where
  pub seen : IsPrefix v.seen y.seen
  pub kept : IsPrefix v.kept y.kept
  pub knows : v.knows ≡ true → y.knows ≡ true
  pub mine : own_part y.mine ≡ own_part v.mine
  pub olds : y.olds ≡ v.olds
  pub basis_is : y.basis ≡ v.basis
  pub turns : v.turns ≤ y.turns
  pub found : IsPrefix v.found y.found
  pub asked : y.asked ≡ v.asked
  pub single : (number : ℕ) → IsSingle v number → IsSingle y number

pub follows_self : (v : View) → Follows v v
follows_self v = record {
  seen = prefix_self v.seen;
  kept = prefix_self v.kept;
  knows = λ stop. stop;
  mine = refl;
  olds = refl;
  basis_is = refl;
  turns = omega arith;
  found = prefix_self v.found;
  asked = refl;
  single = λ number is. is;
}

-- what a seat knew that then took the device
pub follows_device : (v : View) (device : Device) → Follows v (at_device v device)
follows_device v device = record {
  seen = prefix_self v.seen;
  kept = prefix_self v.kept;
  knows = λ stop. stop;
  mine = refl;
  olds = refl;
  basis_is = refl;
  turns = omega arith;
  found = prefix_self v.found;
  asked = refl;
  single = λ number is. is;
}

-- and one that took it for a sample, or for none
follows_taking : (v : View) (rounds : ℕ) (due : List Sample) → Follows v (record v { rounds = rounds; due = due })
follows_taking v rounds due = record {
  seen = prefix_self v.seen;
  kept = prefix_self v.kept;
  knows = λ stop. stop;
  mine = refl;
  olds = refl;
  basis_is = refl;
  turns = omega arith;
  found = prefix_self v.found;
  asked = refl;
  single = λ number is. is;
}

pub follows_due : (v : View) (due : Opt Sample) → Follows v (wanted v due)
follows_due v None = follows_taking v (v.rounds + 1) v.due
follows_due v (Some sample) = follows_taking v (v.rounds + 1) (v.due ++ sample ∷ [])

-- and one that took the turn then, handed the pending records out and gave the front back
pub follows_handed : {V : Type 0} (v u : View) (old new : FrontAccount V) (word : ℕ) → Took (at_device v resting) u resting old
    → new.history ≡ old.history → new.marks ≡ old.marks → new.stopped ≡ old.stopped → Follows v (at_device (given false u word new) writing)
follows_handed {V} v u old new word took history marks stopped =
    subst (λ (y : View). Follows v (at_device (given false y word new) writing)) (sym took.rest) (record {
      seen = subst (λ h. IsPrefix v.seen h) (sym history) took.meets.seen;
      kept = subst (λ ms. IsPrefix v.kept ms) (sym marks) took.meets.kept;
      knows = λ stop. stopped ∙ took.meets.knows stop;
      mine = ap (λ h. own_part (recount v.basis.owners h v.mine)) history ∙ ap own_part (recount_same v.basis.owners old.history v.mine took.meets.mine);
      olds = refl;
      basis_is = refl;
      turns = omega arith;
      found = prefix_append v.found (held_of old ∷ []);
      asked = append-nil v.asked;
      single = λ number single. single_again v.basis.owners new.history v.mine number single;
    })

-- what a seat had seen, and what it has seen after turns
pub served_seen : (v u : View) (history added : List Sample) → Served v u history added → IsPrefix v.seen u.seen
served_seen v u history added served = prefix_trans v.seen history u.seen served.later (added, sym served.seen)

pub round_seen : {D V N : Type 0} (disk : DiskOf D) (view : ViewOf V N) (v x : View) (sample : Sample) (answer : Try) → IsRound disk view v x sample answer → IsPrefix v.seen x.seen
round_seen disk view v x sample (Busy word back) round = absurd round
round_seen disk view v x sample (NeedsFlush held size limit back) round = served_seen v x round.0.0 [] round.0.1
round_seen disk view v x sample (Answered answer) round = served_seen v x round.0.0 (accepted_by answer sample) round.0.1

-- and what its turns had met
pub round_found : {D V N : Type 0} (disk : DiskOf D) (view : ViewOf V N) (v x : View) (sample : Sample) (answer : Try) → IsRound disk view v x sample answer → IsPrefix v.found x.found
round_found disk view v x sample (Busy word back) round = absurd round
round_found disk view v x sample (NeedsFlush held size limit back) round = round.0.1.found
round_found disk view v x sample (Answered answer) round = round.0.1.found

-- the first turn of a seat is the first also where it has had more
pub first_later : (v y x : View) (met : Held) → IsFirst v y met → IsPrefix y.found x.found → IsFirst v x met
first_later v y x met is more = (is.0 ++ more.0, sym more.1 ∙ ap (λ turns. turns ++ more.0) is.1 ∙ append_assoc v.found (met ∷ is.0) more.0)

-- a mark through all of these goes through their first ones
pub marks_fewer : (x : View) (first samples : List Sample) → IsPrefix first samples → MarksThrough x samples → MarksThrough x first
marks_fewer x first samples begins marks = ⊎_elim (λ none. inl none) (λ all. inr (omega (arith, all, ap length begins.1, length-append first begins.0))) marks

-- and one that had turns in which nothing was accepted
pub follows_served : (v u : View) (history : List Sample) → Served v u history [] → Rests v u → u.asked ≡ v.asked → Follows v u
follows_served v u history served rests asked = record {
  seen = prefix_trans v.seen history u.seen served.later (subst (λ h. IsPrefix history h) (sym (served.seen ∙ append-nil history)) (prefix_self history));
  kept = served.kept;
  knows = served.knows;
  mine = served.mine ∙ append-nil (own_part v.mine);
  olds = served.olds;
  basis_is = served.basis_is;
  turns = omega (arith, served.turns);
  found = served.found;
  asked = asked;
  single = rests.single;
}

module _ (v y x : View) (on : Follows v y) where
  pub follows_on : Follows y x → Follows v x
  follows_on more = record {
    seen = prefix_trans v.seen y.seen x.seen on.seen more.seen;
    kept = prefix_trans v.kept y.kept x.kept on.kept more.kept;
    knows = λ stop. more.knows (on.knows stop);
    mine = more.mine ∙ on.mine;
    olds = more.olds ∙ on.olds;
    basis_is = more.basis_is ∙ on.basis_is;
    turns = omega (arith, on.turns, more.turns);
    found = prefix_trans v.found y.found x.found on.found more.found;
    asked = more.asked ∙ on.asked;
    single = λ number is. more.single number (on.single number is);
  }

  pub served_later : (history added : List Sample) → Served y x history added → Served v x history added
  served_later history added served = record {
    later = prefix_trans v.seen y.seen history on.seen served.later;
    seen = served.seen;
    kept = prefix_trans v.kept y.kept x.kept on.kept served.kept;
    knows = λ stop. served.knows (on.knows stop);
    mine = served.mine ∙ ap (λ ps. ps ++ added) on.mine;
    own = served.own;
    olds = served.olds ∙ on.olds;
    basis_is = served.basis_is ∙ on.basis_is;
    turns = omega (arith, served.turns, on.turns);
    found = prefix_trans v.found y.found x.found on.found served.found;
  }

  pub rests_later : Rests y x → Rests v x
  rests_later rests = record {
    calm = rests.calm;
    no_device = rests.no_device;
    basis_is = rests.basis_is ∙ on.basis_is;
    single = λ number is. rests.single number (on.single number is);
  }

  seen_later : {N : Type 0} (result : Flush N) → FlushesSeen y result → FlushesSeen v result
  seen_later (flush.Done through shown note) less = omega (arith, less, ap length on.seen.1, length-append v.seen on.seen.0)
  seen_later (flush.DiskFault before after) less = tt
  seen_later (flush.Stopped mark) less = tt

  asked_later : {N : Type 0} (result : Flush N) → Asks y x result → Asks v x result
  asked_later (flush.Done through shown note) asks = ⊎_elim (λ same. inl (same ∙ on.asked)) (λ more. inr (more ∙ ap (λ ms. ms ++ through ∷ []) on.asked)) asks
  asked_later (flush.DiskFault before after) asks = asks ∙ on.asked
  asked_later (flush.Stopped mark) asks = asks ∙ on.asked

  module _ {D V N : Type 0} (disk : DiskOf D) (view : ViewOf V N) where
    -- a flush of a seat that knew this later is one of it before
    pub flushed_later : (result : Flush N) → HasFlushed disk view y x result → HasFlushed disk view v x result
    flushed_later result is = record {
      flushes = (is.flushes.0, served_later is.flushes.0 [] is.flushes.1, is.flushes.2);
      noted = is.noted;
      seen = seen_later result is.seen;
      asked = asked_later result is.asked;
      rests = rests_later is.rests;
      front = is.front;
    }

    round_later : (sample : Sample) (answer : Try) → IsRound disk view y x sample answer → IsRound disk view v x sample answer
    round_later sample (Busy word back) round = absurd round
    round_later sample (NeedsFlush held size limit back) round =
        ((round.0.0, served_later round.0.0 [] round.0.1), round.1, omega (arith, round.2, ap length on.kept.1, length-append v.kept on.kept.0))
    round_later sample (Answered answer) round = ((round.0.0, served_later round.0.0 (accepted_by answer sample) round.0.1, round.0.2), round.1)

    -- and so is a round of an append
    pub tried_later : (sample : Sample) (answer : Try) → HasTried disk view y x sample answer → HasTried disk view v x sample answer
    tried_later sample answer is = record {
      round = round_later sample answer is.round;
      marks = marks_fewer x v.seen y.seen on.seen is.marks;
      rests = rests_later is.rests;
      asked = is.asked ∙ on.asked;
    }
