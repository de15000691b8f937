-- What the calls of one step tell of the seat, and work on what is out with it.
use Rattle.std.proofs.Common.{◌≡◌, ℕ, ◌+◌, ◌%◌, ◌<◌, true, List, [], ◌∷◌, refl, sym, ap, ◌∙◌, subst, arith}
use Rattle.std.specs.Prelude.{MatchBool}
use Rattle.std.specs.Prelude.{Option as Opt, Some, None}
use Rattle.std.proofs.lemmas.Bool.{eq-eqb}
use Rattle.atomic_table.specs.Lent.{seat_with}
use Rattle.atomic_table.specs.Table.{step, rest}
use Rattle.mdf_gate.specs.Gated.{Gated}
use Rattle.book_owned.specs.FrontHalf.{FrontAccount, HandTells}
use Rattle.book_owned.specs.declared.handed.Handed.{Handed}
use Rattle.book_shared.specs.Basis.{Device, resting, last_word}
use Rattle.book_shared.specs.Plays.{Slot, Here, looked, at_device, taking, told_device, Meets, Wins, Takes}
use Rattle.book_shared.specs.Turns.{TellsBy, said_of, told_by, Took, Waited, Works}
use Rattle.book_shared.specs.Chairs.{Chair, WorksOn, WritesOn}
use Rattle.book_shared.specs.Rounds.{HasSeized, HasTurned}
use Rattle.book_shared.specs.declared.half.Answer.{Answer}
use Rattle.book_shared.specs.declared.half.Half.TheVariants.{TheFront, TheBack, Told, Due, Out}
use Rattle.book_shared.specs.declared.view.View.{View}
use Rattle.book_shared.proofs.Keeps.{seat_of, slot_front, slot_back}
use Rattle.book_shared.proofs.Stores.{front_in}

-- what a seat knew that looked at the word
meets_before : {V : Type 0} (v : View) (word : ℕ) (front : FrontAccount V) → Meets (looked v word) front → Meets v front
meets_before v word front meets = record {
  seen = meets.seen;
  kept = meets.kept;
  from = meets.from;
  knows = meets.knows;
  mine = meets.mine;
  within = meets.within;
  spare = meets.spare;
  awaits = meets.awaits;
  terms = meets.terms;
}

-- the turn was taken after some steps that took nothing
pub took_later : {V : Type 0} (v u w : View) (device : Device) (front : FrontAccount V) → Waited v u → Took u w device front → Took v w device front
took_later v u w device front waited took =
    subst (λ y. Took y w device front → Took v w device front) (sym waited.rest) (λ now. record {
      rest = now.rest;
      meets = record {
        seen = now.meets.seen;
        kept = now.meets.kept;
        from = now.meets.from;
        knows = now.meets.knows;
        mine = now.meets.mine;
        within = now.meets.within;
        spare = now.meets.spare;
        awaits = now.meets.awaits;
        terms = now.meets.terms;
      };
      odd = now.odd;
      low = now.low;
    }) took

-- what a seat tells, as it knew before it waited
pub tells_later : (v u : View) (told : Opt Answer) → Waited v u → TellsBy v told → TellsBy u told
tells_later v u told waited tells = subst (λ y. TellsBy y told) (sym waited.rest) (tells_same told tells) where
  tells_same : (said : Opt Answer) → TellsBy v said → TellsBy (record v { met = u.met; prior = u.prior; steps = u.steps }) said
  tells_same None is = is
  tells_same (Some answer) is = is

told_same : (D V : Type 0) (device : Device) (told : Opt Answer) → told_device device (said_of {D = D} {V = V} told) ≡ told_by device told
told_same D V device None = refl
told_same D V device (Some answer) = refl

module _ {D V : Type 0} where
  -- the exchange that won
  won_now : (v : View) (carried : List (ℕ × Slot D V)) (m n : Here D V) (word found : ℕ) (told : Opt Answer) → m ≡ seat_of (looked v word) carried
      → Takes (step 2 0 word (word + 1) (said_of told)) m found n → found ≡ word → Wins (step 2 0 word (word + 1) (said_of told)) (seat_of (looked v word) carried) n
  won_now v carried m n word found told is takes same =
      let st = step 2 0 word (word + 1) (said_of {D = D} {V = V} told) in
      let both : Takes st (seat_of (looked v word) carried) found n = subst (λ x. Takes st x found n) is takes in
      subst (λ b. MatchBool b (Wins st (seat_of (looked v word) carried) n) (n ≡ seat_of (looked (looked v word) found) carried)) (eq-eqb found word same) both.2

  pub took_now : (v : View) (carried : List (ℕ × Slot D V)) (m n : Here D V) (word found : ℕ) (told : Opt Answer) → m ≡ seat_of (looked v word) carried
      → Takes (step 2 0 word (word + 1) (said_of told)) m found n → found ≡ word → word % 2 ≡ 0 → word < last_word
      → (word + 1 ≡ n.0.met) × ((front : FrontAccount V) × (n.1 ≡ (0, TheFront front) ∷ carried) × Took v n.0 (told_by v.device told) front)
  took_now v carried m n word found told is takes same even low =
      let won = won_now v carried m n word found told is takes same in
      let front = won.0 in
      subst (λ (x : Here D V). (word + 1 ≡ x.0.met) × ((other : FrontAccount V) × (x.1 ≡ (0, slot_front other) ∷ carried) × Took v x.0 (told_by v.device told) other)) (sym won.1) (
        refl,
        (
          front,
          refl,
          subst (λ d. Took v (taking (looked v word) (told_device v.device (said_of {D = D} {V = V} told)) (word + 1) front) d front) (told_same D V v.device told) (record {
            rest = refl;
            meets = meets_before v word front won.2;
            odd = omega (arith, even);
            low = omega (arith, low, even);
          }),
        ),
      )

  -- it was a load and an exchange
  pub steps_now : (v : View) (carried : List (ℕ × Slot D V)) (m n : Here D V) (word found : ℕ) (told : Opt Answer) → m ≡ seat_of (looked v word) carried
      → Takes (step 2 0 word (word + 1) (said_of told)) m found n → found ≡ word → n.0.steps ≡ v.steps + 2
  steps_now v carried m n word found told is takes same =
      omega (arith, ap (λ (x : Here D V). x.0.steps) (won_now v carried m n word found told is takes same).1)

  -- the front in its slot was worked on
  pub works_on : (seat : Chair D V) (first then : FrontAccount V) (does : FrontAccount V → FrontAccount V → Type 0)
      → seat.me.1 ≡ (0, TheFront first) ∷ rest seat.me.1 → does first then → WorksOn seat (seat_with seat 0 (slot_front then)) does
  works_on seat first then does is done = record {
    table_is = refl;
    view_is = refl;
    does = λ old held. (then, refl, subst (λ front. does front then) (ap (λ (c : List (ℕ × Slot D V)). front_in c first) (sym is ∙ held)) done);
  }

  abbrev back_of : Slot D V → Gated D → Gated D
  back_of (TheFront front) other = other
  back_of (TheBack back) other = back
  back_of (Told answer) other = other
  back_of (Due sample) other = other
  back_of Out other = other

  abbrev pub back_at : List (ℕ × Slot D V) → Gated D → Gated D
  back_at [] other = other
  back_at (x ∷ xs) other = back_of x.1 other

  -- and so was the back
  pub writes_on : (seat : Chair D V) (first then : Gated D) (does : Gated D → Gated D → Type 0)
      → seat.me.1 ≡ (1, TheBack first) ∷ rest seat.me.1 → does first then → WritesOn seat (seat_with seat 1 (slot_back then)) does
  writes_on seat first then does is done = record {
    table_is = refl;
    view_is = refl;
    does = λ old held. (then, refl, subst (λ back. does back then) (ap (λ (c : List (ℕ × Slot D V)). back_at c first) (sym is ∙ held)) done);
  }

  -- the turn was taken after some steps that took nothing, and what was carried before lies behind the front
  pub seized_later : (v u w : View) (carried carried' now : List (ℕ × Slot D V)) (told : Opt Answer) → Waited v u → carried ≡ carried'
      → (front : FrontAccount V) × (now ≡ (0, TheFront front) ∷ carried) × Took u w (told_by u.device told) front
      → (front : FrontAccount V) × (now ≡ (0, TheFront front) ∷ carried') × Took v w (told_by v.device told) front
  seized_later v u w carried carried' now told waited same took = (
    took.0,
    took.1 ∙ ap (λ b. (0, slot_front took.0) ∷ b) same,
    took_later v u w (told_by v.device told) took.0 waited (subst (λ d. Took u w d took.0) (ap (λ (y : View). told_by y.device told) waited.rest) took.2),
  )

  -- what is carried, and what lies behind it
  pub carries : (carried : List (ℕ × Slot D V)) (x : ℕ × Slot D V) (behind : List (ℕ × Slot D V)) → carried ≡ x ∷ behind → carried ≡ x ∷ rest carried
  carries carried x behind is = is ∙ ap (λ b. x ∷ b) (sym (ap rest is))

  -- the device was taken, and then the turn
  pub seized_now : (v : View) (m at_rest n : Here D V) → at_rest ≡ seat_of (at_device v resting) m.1 → m.1 ≡ []
      → (front : FrontAccount V) × (n.1 ≡ (0, TheFront front) ∷ at_rest.1) × Took at_rest.0 n.0 at_rest.0.device front → HasSeized v n
  seized_now v m at_rest n is alone took =
      let now = subst (λ (x : Here D V). (front : FrontAccount V) × (n.1 ≡ (0, slot_front front) ∷ x.1) × Took x.0 n.0 x.0.device front) is took in
      record { front = now.0; out = now.1 ∙ ap (λ b. (0, slot_front now.0) ∷ b) alone; took = now.2 }

  -- a front that was taken so has its spare block
  pub may_hand : (v : View) (m : Here D V) → HasSeized v m → (front : FrontAccount V) × (m.1 ≡ (0, TheFront front) ∷ rest m.1) × (front.spare ≡ true)
  may_hand v m seized = (seized.front, carries m.1 (0, slot_front seized.front) [] seized.out, seized.took.meets.spare refl refl)

  -- its pending records were handed out
  abbrev pub turned_now : (v : View) (m n : Here D V) (what : Handed) (seized : HasSeized v m) → n.0 ≡ m.0 → Works m n (λ old new. HandTells old new what) → HasTurned v n what
  turned_now v m n what seized same works =
      let done = works seized.front (carries m.1 (0, slot_front seized.front) [] seized.out) in
      record {
        old = seized.front;
        new = done.0;
        out = done.1 ∙ ap (λ b. (0, slot_front done.0) ∷ b) (ap rest seized.out);
        took = subst (λ u. Took (at_device v resting) u resting seized.front) (sym same) seized.took;
        tells = done.2;
      }
