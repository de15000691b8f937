-- The steps on the device's word keep the rule.
use Rattle.std.proofs.Common.{◌≡◌, ℕ, ◌+◌, ◌<◌, ◌≤◌, ◌≢◌, true, List, [], ◌∷◌, ◌++◌, length, take, set, length-set, set-set, refl, sym, ap, ◌∙◌, subst, arith}
use Rattle.std.specs.Prelude.{Option as Opt, Some, None, ◌==◌, slice_index, slice_set, nat_lt, MatchBool}
use mathlib.Core.Option.{Option as Home, some, none}
use lib.ListN.{get_elem?}
use prog.Atomic.{either}
use Rattle.std.proofs.lemmas.Bool.{eq-eqb, ne_eqb}
use Rattle.atomic_table.specs.Table.{State, step, Act, keeps, takes, gives, Valid, stepped, carried_after, rest, turned, Step, Allows}
use Rattle.atomic_table.proofs.Lists.{set_here, set_else, set_again, exchanged}
use Rattle.mdf_gate.proofs.Carrying.{prefix_self}
use Rattle.mdf_gate.specs.Gated.{Gated}
use Rattle.mdf_layout.specs.declared.sample.Sample.{Sample}
use Rattle.book_owned.specs.Members.{DiskOf}
use Rattle.book_owned.specs.Marks.{durable}
use Rattle.book_owned.specs.BackHalf.{back_terms}
use Rattle.book_owned.specs.FrontHalf.{FrontAccount}
use Rattle.book_owned.specs.Split.{back_part}
use Rattle.book_owned.specs.declared.mark.Mark.{Mark}
use Rattle.book_shared.specs.Basis.{Basis, Turn, idle, holding, Device, free, resting, handed, writing, written, settled}
use Rattle.book_shared.specs.Causes.{IsAmong}
use Rattle.book_shared.specs.Rule.{World, asks, AskedOf, DueOf, holds_device, lends_block, has_back, has_answer, backs_out, Names, Answers, KnowsDevice, Knows, KeepsAll, HoldsAll, IsWrittenBy, Stands, BackHome, Runs}
use Rattle.book_shared.specs.Plays.{wanting, Slot, Here, at_device, settled_by, TakesDevice, BringsOut, BringsIn, GivesDevice}
use Rattle.book_shared.specs.declared.half.Answer.{Answer}
use Rattle.book_shared.specs.declared.half.Half.TheVariants.{TheFront, TheBack}
use Rattle.book_shared.specs.declared.view.View.{View}
use Rattle.book_shared.proofs.Sums.{total-set, term_le, total_less, total_less_at}
use Rattle.book_shared.specs.Rounds.{wanted, TakesFor}
use Rattle.book_shared.proofs.Anys.{any_first, at_here}
use Rattle.book_shared.proofs.Causing.{asked_on, caused_later, due_on}
use Rattle.book_shared.proofs.Lists.{back_held}
use Rattle.book_shared.proofs.Keeps.{turns_moved, seats_moved, slots_on, awaits_on, device_calm, least, same_total, alone_stands, stand_on, back_on, seat_of, slot_front, slot_back}

names_at : (w : World) (v : View) (d : Device) (t : Turn) → Names w v t → Names w (at_device v d) t
names_at w v d idle names = tt
names_at w v d (holding held) names = (names.0, names.1, names.2, names.3, names.4, names.5, names.6)

-- what a seat knows that is so far with the device
knows_at : (basis : Basis) (w : World) (v : View) (d : Device) → Knows basis w v → KnowsDevice w (at_device v d) → Knows basis w (at_device v d)
knows_at basis w v d know device = record {
  met = know.met;
  seen = know.seen;
  kept = know.kept;
  from = know.from;
  knows = know.knows;
  mine = know.mine;
  olds = know.olds;
  turn = names_at w v d v.turn know.turn;
  device = device;
  basis_is = know.basis_is;
  asked = know.asked;
  due = know.due;
}

-- and still has its block out
knows_out : (w : World) (v : View) (d : Device) → KnowsDevice w v → lends_block v.device ≡ 1 → holds_device v.device ≡ 1 → has_answer d ≡ has_answer v.device
    → Answers w.from d → KnowsDevice w (at_device v d)
knows_out w v d know out one same answers = record {
  some_source = λ _. know.some_source one;
  awaits = λ _. awaits_on w w v (at_device v d) refl refl refl refl refl (know.awaits out);
  turn = λ _. know.turn out ∙ sym same;
  answers = answers;
}

module _ {D V : Type 0} (disk : DiskOf D) (basis : Basis) (s : State (Slot D V) View) (run : Runs disk basis s) (id : ℕ) (v : View) (at : get_elem? s.views id ≡ some v) where
  -- the table after a step on the device's word that leaves the turn and the front's slot
  device_moved : (d : Device) (device : ℕ) (homes : List (Home (Slot D V))) → holds_device d + run.device ≡ holds_device v.device + device → device ≤ 1
      → lends_block d ≡ lends_block v.device → KnowsDevice run.shared (at_device v d) → length homes ≡ 2 → get_elem? homes 0 ≡ get_elem? s.homes 0
      → (backs_out (set s.views id (at_device v d)) ≡ 0 → BackHome disk basis run.shared (set s.views id (at_device v d)) homes)
      → (backs_out (set s.views id (at_device v d)) ≡ 1 → get_elem? homes 1 ≡ some none)
      → Runs disk basis record { words = slice_set s.words 1 device; homes = homes; views = slice_set s.views id (at_device v d) }
  device_moved d device homes held one lends knows two front back_here back_away =
      let w = run.shared in
      let u = at_device v d in
      record {
        shared = w;
        device = device;
        words = ap (λ ws. slice_set ws 1 device) run.words;
        turns = turns_moved w.word w.word run.device device s.views id v u run.turns at run.turns.few refl refl held one;
        seats = seats_moved basis w w s.views id v u run.seats at (λ k. refl) (knows_at basis w v d (run.seats.each id v at) knows)
            (λ k x apart there. run.seats.each k x there) run.seats.only run.seats.low run.seats.within;
        slots = record {
          two = two;
          spare_is = run.slots.spare_is ∙ ap (λ n. nat_lt n 1) (sym (same_total (λ (y : View). lends_block y.device) s.views id v u at lends));
          here = λ even. let home = run.slots.here even in record { front = home.front; home_is = front ∙ home.home_is; has_it = home.has_it };
          away = λ odd. front ∙ run.slots.away odd;
          back_here = back_here;
          back_away = back_away;
        };
        marks = caused_later (AskedOf s.views) (AskedOf (set s.views id u)) (DueOf s.views) (DueOf (set s.views id u)) basis.terms.layouts basis.terms.block_limit w.history w.history
            (asked_on s.views id v u at (λ k. least (asks k v))) (due_on s.views id v u at (λ sample is. is)) (prefix_self w.history) basis.begun w.marks run.marks;
      }

  -- after one that leaves the slots too, and no back out
  device_kept : (d : Device) (device : ℕ) → holds_device d + run.device ≡ holds_device v.device + device → device ≤ 1 → lends_block d ≡ 0 → lends_block v.device ≡ 0
      → has_back d ≡ has_back v.device → (holds_device d ≡ 1 → 0 < length v.mine)
      → ((samples : List Sample) (marks : List Mark) (back : Gated D) → Stands disk basis samples marks back d)
      → Runs disk basis record { words = slice_set s.words 1 device; homes = s.homes; views = slice_set s.views id (at_device v d) }
  device_kept d device held one calm calm_before outs some_mine stands =
      let u = at_device v d in
      let lends : lends_block d ≡ lends_block v.device = calm ∙ sym calm_before in
      let backs = same_total (λ (y : View). has_back y.device) s.views id v u at outs in
      device_moved d device s.homes held one lends (device_calm run.shared u calm some_mine) run.slots.two refl
      (λ none_there. back_on disk basis run.shared run.shared s.views (set s.views id u) s.homes s.homes refl refl refl refl refl
      (same_total (λ (y : View). lends_block y.device) s.views id v u at lends)
      (stand_on disk basis s.views id v u at (λ samples marks back _. stands samples marks back)) (run.slots.back_here (sym backs ∙ none_there)))
      (λ one_there. run.slots.back_away (sym backs ∙ one_there))

  -- after one that changes nothing
  device_same : (n : ℕ) → n ≡ run.device → Runs disk basis record { words = slice_set s.words 1 n; homes = s.homes; views = slice_set s.views id v }
  device_same n is = subst (λ vs. Runs disk basis record { words = slice_set s.words 1 n; homes = s.homes; views = vs }) (sym (set_again s.views id v at)) (record {
    shared = run.shared;
    device = run.device;
    words = ap (λ ws. slice_set ws 1 n) run.words ∙ ap (λ k. run.shared.word ∷ k ∷ []) is;
    turns = run.turns;
    seats = run.seats;
    slots = run.slots;
    marks = run.marks;
  })

  -- the number of holders is the word
  one_holder : holds_device v.device ≡ 1 → run.device ≡ 1
  one_holder one = omega (arith, term_le (λ (y : View). holds_device y.device) s.views id v at, run.turns.device_held, run.turns.one_device, one)

  -- no back is out where who has the device has it not out
  no_back_out : holds_device v.device ≡ 1 → has_back v.device ≡ 0 → backs_out s.views ≡ 0
  no_back_out one inside = omega (
    arith,
    total_less_at (λ (y : View). has_back y.device) (λ (y : View). holds_device y.device) (λ (y : View). back_held y.device) s.views id v at,
    run.turns.device_held,
    run.turns.one_device,
    one,
    inside,
  )

-- what a seat knows that took the device once more, and has these samples to append
names_due : (w : World) (v : View) (rounds : ℕ) (due : List Sample) (t : Turn) → Names w v t → Names w (record v { rounds = rounds; due = due }) t
names_due w v rounds due idle names = tt
names_due w v rounds due (holding held) names = (names.0, names.1, names.2, names.3, names.4, names.5, names.6)

knows_due : (basis : Basis) (w : World) (v : View) (rounds : ℕ) (due : List Sample) → 0 < length v.mine → Knows basis w v → Knows basis w (record v { rounds = rounds; due = due })
knows_due basis w v rounds due some_mine know = record {
  met = know.met;
  seen = know.seen;
  kept = know.kept;
  from = know.from;
  knows = know.knows;
  mine = know.mine;
  olds = know.olds;
  turn = names_due w v rounds due v.turn know.turn;
  device = record {
    some_source = know.device.some_source;
    awaits = λ out. awaits_on w w v (record v { rounds = rounds; due = due }) refl refl refl refl refl (know.device.awaits out);
    turn = know.device.turn;
    answers = know.device.answers;
  };
  basis_is = know.basis_is;
  asked = know.asked;
  due = λ _. some_mine;
}

-- the table then
taken_runs : {D V : Type 0} (disk : DiskOf D) (basis : Basis) (s : State (Slot D V) View) (run : Runs disk basis s) (id : ℕ) (v : View) (rounds : ℕ) (due : List Sample) → get_elem? s.views id ≡ some v
    → 0 < length v.mine → ((other : Sample) → IsAmong v.due other → IsAmong due other)
    → Runs disk basis record { words = s.words; homes = s.homes; views = set s.views id (record v { rounds = rounds; due = due }) }
taken_runs disk basis s run id v rounds due at some_mine more =
    let w = run.shared in
    let u = record v { rounds = rounds; due = due } in
    record {
      shared = w;
      device = run.device;
      words = run.words;
      turns = turns_moved w.word w.word run.device run.device s.views id v u run.turns at run.turns.few refl refl refl run.turns.one_device;
      seats = seats_moved basis w w s.views id v u run.seats at (λ k. refl) (knows_due basis w v rounds due some_mine (run.seats.each id v at))
          (λ k x apart there. run.seats.each k x there) run.seats.only run.seats.low run.seats.within;
      slots = slots_on disk basis w s.views (set s.views id u) s.homes
          (same_total (λ (y : View). lends_block y.device) s.views id v u at refl) (same_total (λ (y : View). has_back y.device) s.views id v u at refl)
          (stand_on disk basis s.views id v u at (λ samples marks back stands. stands)) run.slots;
      marks = caused_later (AskedOf s.views) (AskedOf (set s.views id u)) (DueOf s.views) (DueOf (set s.views id u)) basis.terms.layouts basis.terms.block_limit w.history w.history
          (asked_on s.views id v u at (λ k. least (asks k v))) (due_on s.views id v u at more) (prefix_self w.history)
          basis.begun w.marks run.marks;
    }

due_runs : {D V : Type 0} (disk : DiskOf D) (basis : Basis) (s : State (Slot D V) View) (run : Runs disk basis s) (id : ℕ) (v : View) (due : Opt Sample) → get_elem? s.views id ≡ some v → 0 < length v.mine
    → Runs disk basis record { words = s.words; homes = s.homes; views = set s.views id (wanted v due) }
due_runs disk basis s run id v None at some_mine = taken_runs disk basis s run id v (v.rounds + 1) v.due at some_mine (λ other is. is)
due_runs disk basis s run id v (Some sample) at some_mine =
    taken_runs disk basis s run id v (v.rounds + 1) (v.due ++ sample ∷ []) at some_mine (λ other is. any_first (λ y. y ≡ other) v.due (sample ∷ []) is)

wanted_device : (v : View) (due : Opt Sample) → (wanted v due).device ≡ v.device
wanted_device v None = refl
wanted_device v (Some sample) = refl

pub wanted_mine : (v : View) (due : Opt Sample) → (wanted v due).mine ≡ v.mine
wanted_mine v None = refl
wanted_mine v (Some sample) = refl

-- an exchange of the device's word that announced this
pub takes_as : {D V : Type 0} (slots : ℕ) (m n : Here D V) (found : ℕ) (said : Home (Slot D V)) (due : Opt Sample) → wanting m.0 said ≡ wanted m.0 due
    → TakesDevice (step slots 1 0 1 said) m found n → TakesFor due m found n
takes_as slots m n found said due same told = subst (λ v. MatchBool (found == 0) (n ≡ seat_of (at_device v resting) m.1) (n ≡ m)) same told

-- won where it met 0
pub device_taken : {D V : Type 0} (due : Opt Sample) (m n : Here D V) (found : ℕ) → TakesFor due m found n → (found == 0) ≡ true → n ≡ seat_of (at_device (wanted m.0 due) resting) m.1
device_taken due m n found told won = subst (λ b. MatchBool b (n ≡ seat_of (at_device (wanted m.0 due) resting) m.1) (n ≡ m)) won told

-- where a seat announces a sample, or none
module _ {D V : Type 0} (disk : DiskOf D) (basis : Basis) (slots id : ℕ) (me : Here D V) (said : Home (Slot D V)) (due : Opt Sample) (same : wanting me.0 said ≡ wanted me.0 due) where
  -- what an exchange of the device's word owes, by the word that it finds
  abbrev Goes : State (Slot D V) View → ℕ → Type 0
  Goes s k = (u : View) × (a : Act (Slot D V)) × Valid s.homes me.1 a × Runs disk basis (stepped s 1 k id me.1 u a)
      × TakesDevice (step slots 1 0 1 said) me (slice_index s.words 1) (seat_of u (carried_after me.1 a))

  device_won : (s : State (Slot D V) View) (run : Runs disk basis s) → get_elem? s.views id ≡ some me.0 → me.0.device ≡ free → 0 < length me.0.mine
      → slice_index s.words 1 ≡ 0 → Goes s 1
  device_won s run at is some_mine found =
      let n = slice_index s.words 1 in
      let v = wanted me.0 due in
      let u = at_device v resting in
      let now : State (Slot D V) View = record { words = s.words; homes = s.homes; views = set s.views id v } in
      let run' = due_runs disk basis s run id me.0 due at some_mine in
      let none_there : run'.device ≡ 0 = sym (ap (λ ws. slice_index ws 1) run'.words) ∙ found in
      let calm = wanted_device me.0 due ∙ is in
      let kept = device_kept disk basis now run' id v (at_here s.views id me.0 v at) resting 1 (omega (arith, ap holds_device calm, none_there)) (omega arith) refl (ap lends_block calm)
      (sym (ap has_back calm)) (λ _. subst (λ parts. 0 < length parts) (sym (wanted_mine me.0 due)) some_mine) (λ samples marks back. tt) in
      let met : MatchBool (n == 0) (seat_of u me.1 ≡ seat_of u me.1) (seat_of u me.1 ≡ me) =
      subst (λ b. MatchBool b (seat_of u me.1 ≡ seat_of u me.1) (seat_of u me.1 ≡ me)) (sym (eq-eqb n 0 found)) refl in (
        u,
        keeps,
        tt,
        subst (λ vs. Runs disk basis record { words = slice_set s.words 1 1; homes = s.homes; views = vs }) (set-set s.views id v u) kept,
        subst (λ y. MatchBool (n == 0) (seat_of u me.1 ≡ seat_of (at_device y resting) me.1) (seat_of u me.1 ≡ me)) (sym same) met,
      )

  device_lost : (s : State (Slot D V) View) (run : Runs disk basis s) → get_elem? s.views id ≡ some me.0 → slice_index s.words 1 ≢ 0 → Goes s (slice_index s.words 1)
  device_lost s run at differs =
      let n = slice_index s.words 1 in
      let u = at_device (wanting me.0 said) resting in
      let met : MatchBool (n == 0) (seat_of me.0 me.1 ≡ seat_of u me.1) (seat_of me.0 me.1 ≡ me) =
      subst (λ b. MatchBool b (seat_of me.0 me.1 ≡ seat_of u me.1) (seat_of me.0 me.1 ≡ me)) (sym (ne_eqb n 0 differs)) refl in (
        me.0,
        keeps,
        tt,
        device_same disk basis s run id me.0 at n (ap (λ ws. slice_index ws 1) run.words),
        met,
      )

  pub device_exchanges : me.0.device ≡ free → 0 < length me.0.mine → Allows (Runs disk basis) slots id me 1 (λ n. either (n == 0) 1 n) (TakesDevice (step slots 1 0 1 said) me)
  device_exchanges is some_mine s run wide at few =
      exchanged (slice_index s.words 1) 0 1 (Goes s) (λ found. device_won s run at is some_mine found) (λ differs. device_lost s run at differs)

module _ {D V : Type 0} (disk : DiskOf D) (basis : Basis) (slots id : ℕ) (me : Here D V) where
  pub device_gives : me.0.device ≡ resting → Allows (Runs disk basis) slots id me 1 (λ _. 0) (λ _. GivesDevice (step slots 1 0 0 none) me 0)
  device_gives is s run wide at few = (
    at_device me.0 free,
    keeps,
    tt,
    device_kept disk basis s run id me.0 at free 0 (omega (arith, ap holds_device is, one_holder disk basis s run id me.0 at (ap holds_device is))) (omega arith) refl (ap lends_block is) (sym (ap has_back is))
        (λ one. absurd (omega (arith, one))) (λ samples marks back. tt),
    refl,
  )

  pub back_out : me.0.device ≡ handed → Allows (Runs disk basis) slots id me 1 (λ n. n) (BringsOut disk (step slots 1 0 0 none) me)
  back_out is s run wide at few =
      let n = slice_index s.words 1 in
      let w = run.shared in
      let v = me.0 in
      let u = at_device v writing in
      let counted : n ≡ run.device = ap (λ ws. slice_index ws 1) run.words in
      let know = run.seats.each id v at in
      let one : holds_device v.device ≡ 1 = ap holds_device is in
      let out : lends_block v.device ≡ 1 = ap lends_block is in
      let awaits = know.device.awaits out in
      let none_there = no_back_out disk basis s run id v at one (ap has_back is) in
      let home = run.slots.back_here none_there in
      let more = total-set (λ (y : View). has_back y.device) s.views id v u at in
      let basis_is : v.basis ≡ basis = know.basis_is (know.device.some_source one) in
      let samples = take w.from w.history in (
        u,
        takes 1 (slot_back home.back),
        home.home_is,
        device_moved disk basis s run id v at writing n (slice_set s.homes 1 none) (omega (arith, one, counted)) (omega (arith, counted, run.turns.one_device)) (sym out)
            (knows_out w v writing know.device out one (sym (ap has_answer is)) tt)
            (length-set s.homes 1 none ∙ run.slots.two) (set_else s.homes 1 0 none (λ same. omega (arith, same)))
            (λ empty. absurd (omega (arith, empty, more, ap has_back is)))
            (λ _. set_here s.homes 1 none (omega (arith, run.slots.two))),
        (
          home.back,
          refl,
          subst (λ (b : Basis). KeepsAll disk b home.back v.seen v.kept) (sym basis_is)
              (subst (λ ss. KeepsAll disk basis home.back ss v.kept) (sym awaits.seen) (subst (λ ms. KeepsAll disk basis home.back samples ms) (sym awaits.kept) home.keeps)),
          subst (λ (b : Basis). HoldsAll disk b home.back (take (durable v.kept) v.seen)) (sym basis_is)
              (subst (λ ss. HoldsAll disk basis home.back (take (durable v.kept) ss)) (sym awaits.seen) (subst (λ ms. HoldsAll disk basis home.back (take (durable ms) samples)) (sym awaits.kept)
              (subst (λ d. Stands disk basis samples w.marks home.back d) is (home.stands id v at)))),
          subst (λ (b : Basis). back_terms disk home.back ≡ back_part b.terms) (sym basis_is) home.terms,
        ),
      )

module _ {D V : Type 0} (disk : DiskOf D) (basis : Basis) (slots id : ℕ) (v : View) (back : Gated D) (behind : List (ℕ × Slot D V)) where
  comes_in : (answer : Answer) → v.device ≡ written answer → KeepsAll disk v.basis back v.seen v.kept → IsWrittenBy disk v.basis back v.seen v.kept answer
      → back_terms disk back ≡ back_part v.basis.terms
      → Allows (Runs disk basis) slots id (seat_of v ((1, slot_back back) ∷ behind)) 1 (λ n. n)
      (λ n m. m ≡ seat_of (at_device v (settled_by v.device)) behind)
  comes_in answer is keeps_all wrote terms s run wide at few =
      let n = slice_index s.words 1 in
      let w = run.shared in
      let d = settled_by v.device in
      let u = at_device v d in
      let now : d ≡ settled answer = ap settled_by is in
      let counted : n ≡ run.device = ap (λ ws. slice_index ws 1) run.words in
      let know = run.seats.each id v at in
      let one : holds_device v.device ≡ 1 = ap holds_device is in
      let out : lends_block v.device ≡ 1 = ap lends_block is in
      let awaits = know.device.awaits out in
      let basis_is : v.basis ≡ basis = know.basis_is (know.device.some_source one) in
      let samples = take w.from w.history in
      let homes = slice_set s.homes 1 (some (slot_back back)) in
      let kept : KeepsAll disk basis back samples w.marks =
      subst (λ ms. KeepsAll disk basis back samples ms) awaits.kept (subst (λ ss. KeepsAll disk basis back ss v.kept) awaits.seen (subst (λ (b : Basis). KeepsAll disk b back v.seen v.kept) basis_is keeps_all)) in
      let answered : IsWrittenBy disk basis back samples w.marks answer =
      subst (λ ms. IsWrittenBy disk basis back samples ms answer) awaits.kept
      (subst (λ ss. IsWrittenBy disk basis back ss v.kept answer) awaits.seen (subst (λ (b : Basis). IsWrittenBy disk b back v.seen v.kept answer) basis_is wrote)) in
      let lends : lends_block d ≡ lends_block v.device = ap lends_block now ∙ sym out in
      let all = same_total (λ (y : View). lends_block y.device) s.views id v u at lends in
      let fewer = total-set (λ (y : View). has_back y.device) s.views id v u at in
      let held : holds_device d ≡ 1 = ap holds_device now in (
        u,
        gives,
        tt,
        device_moved disk basis s run id v at d n homes (omega (arith, one, held, counted)) (omega (arith, counted, run.turns.one_device)) lends
            (knows_out w v d know.device out one (ap has_answer now ∙ sym (ap has_answer is))
            (subst (λ (e : Device). Answers w.from e) (sym now) (subst (λ (e : Device). Answers w.from e) is know.device.answers)))
            (length-set s.homes 1 (some (slot_back back)) ∙ run.slots.two) (set_else s.homes 1 0 (some (slot_back back)) (λ same. omega (arith, same)))
            (λ _. record {
              back = back;
              home_is = set_here s.homes 1 (some (slot_back back)) (omega (arith, run.slots.two));
              terms = subst (λ (b : Basis). back_terms disk back ≡ back_part b.terms) basis_is terms;
              keeps = kept;
              rests = λ empty. absurd (omega (arith, empty, all, out, term_le (λ (y : View). lends_block y.device) s.views id v at));
              stands = alone_stands disk basis w.word run.device s.views run.turns id v u at one samples w.marks back (subst (λ e. Stands disk basis samples w.marks back e) (sym now) answered);
            })
            (λ one_there. absurd (omega (arith, one_there, fewer, ap has_back now, ap has_back is, total_less (λ (y : View). has_back y.device) (λ (y : View). holds_device y.device) (λ (y : View). back_held y.device) s.views, run.turns.device_held, run.turns.one_device))),
        refl,
      )

-- the back comes in, while the front is out
pub back_in : {D V : Type 0} (disk : DiskOf D) (basis : Basis) (slots id : ℕ) (me : Here D V) (back : Gated D) (front : FrontAccount V) (answer : Answer)
    → me.1 ≡ (1, TheBack back) ∷ (0, TheFront front) ∷ [] → me.0.device ≡ written answer → KeepsAll disk me.0.basis back me.0.seen me.0.kept
    → IsWrittenBy disk me.0.basis back me.0.seen me.0.kept answer → back_terms disk back ≡ back_part me.0.basis.terms
    → Allows (Runs disk basis) slots id me 1 (λ n. n) (BringsIn (step slots 1 0 0 none) me)
back_in disk basis slots id me back front answer carried is keeps_all wrote terms =
    subst (λ c. Allows (Runs disk basis) slots id (seat_of me.0 c) 1 (λ n. n) (BringsIn (step slots 1 0 0 none) (seat_of me.0 c))) (sym carried)
    (λ s run wide at few.
    let came = comes_in disk basis slots id me.0 back ((0, slot_front front) ∷ []) answer is keeps_all wrote terms s run wide at few in (
      came.0,
      came.1,
      came.2,
      came.3,
      λ other next same. came.4 ∙ ap (λ c. seat_of (at_device me.0 (settled_by me.0.device)) (rest c)) same,
    ))

-- after its slot was turned to the front
pub back_in_turned : {D V : Type 0} (disk : DiskOf D) (basis : Basis) (slots id : ℕ) (m n : Here D V) (back : Gated D) (front : FrontAccount V) (answer : Answer)
    → n ≡ seat_of m.0 (turned m.1) → m.1 ≡ (0, TheFront front) ∷ (1, TheBack back) ∷ [] → m.0.device ≡ written answer → KeepsAll disk m.0.basis back m.0.seen m.0.kept
    → IsWrittenBy disk m.0.basis back m.0.seen m.0.kept answer → back_terms disk back ≡ back_part m.0.basis.terms
    → Allows (Runs disk basis) slots id n 1 (λ k. k) (BringsIn (step slots 1 0 0 none) n)
back_in_turned {D} {V} disk basis slots id m n back front answer is carried device keeps_all wrote terms =
    subst (λ (x : Here D V). Allows (Runs disk basis) slots id x 1 (λ k. k) (BringsIn (step slots 1 0 0 none) x)) (sym is)
    (back_in disk basis slots id (seat_of m.0 (turned m.1)) back front answer (ap turned carried) device keeps_all wrote terms)

pub brought_in : {D V : Type 0} (st : Step (Slot D V)) (m n o : Here D V) (word : ℕ) → n ≡ seat_of m.0 (turned m.1) → BringsIn st n word o
    → (back : Gated D) (front : FrontAccount V) → m.1 ≡ (0, TheFront front) ∷ (1, TheBack back) ∷ [] → o ≡ seat_of (at_device m.0 (settled_by m.0.device)) ((0, slot_front front) ∷ [])
brought_in {D} {V} st m n o word is brings back front carried =
    let came : BringsIn st (seat_of m.0 (turned m.1)) word o = subst (λ (x : Here D V). BringsIn st x word o) is brings in came back front (ap turned carried)
