-- A store that gives the front back keeps the rule.
use Rattle.std.proofs.Common.{◌≡◌, ℕ, ◌+◌, ◌%◌, ◌<◌, ◌≤◌, inl, inr, Bool, true, false, List, [], ◌∷◌, ◌++◌, length, length-append, take, set, length-set, refl, sym, ap, ◌∙◌, subst, ⊎_elim, arith}
use Rattle.std.specs.Prelude.{slice_index, slice_set, nat_lt}
use mathlib.Core.Option.{Option as Home, some, none}
use mathlib.Core.List.{IsPrefix}
use lib.ListN.{get_elem?}
use Rattle.std.proofs.Math.Seq.{take-length}
use Rattle.std.proofs.lemmas.Bool.{lt-ltb, le-ltb, false≢true}
use Rattle.std.proofs.lemmas.List.{take-append-le}
use Rattle.std.proofs.lemmas.List.Elements.{All-append}
use Rattle.atomic_table.specs.Table.{State, step, gives, Allows}
use Rattle.atomic_table.proofs.Lists.{set_here, set_else}
use Rattle.mdf_gate.proofs.Carrying.{prefix_self, prefix_trans, prefix_append, prefix_take}
use Rattle.mdf_gate.specs.Gated.{Gated}
use Rattle.mdf_layout.specs.declared.sample.Sample.{Sample}
use Rattle.book_owned.specs.Members.{DiskOf}
use Rattle.book_owned.specs.Marks.{durable}
use Rattle.book_owned.specs.FrontHalf.{FrontAccount}
use Rattle.book_owned.specs.Split.{front_part}
use Rattle.book_shared.specs.Basis.{Basis, Held, Turn, holding, Device, free, resting, handed, writing, written, settled, last_word}
use Rattle.book_shared.specs.Causes.{MarksCaused}
use Rattle.book_shared.specs.Rule.{World, AskedOf, DueOf, holds_turn, holds_device, lends_block, has_back, has_answer, blocks_out, AreOwn, AreOfSources, Names, Answers, KnowsDevice, Knows, TurnsCount, SeatsKnow, KeepsAll, HoldsAll, IsResting, Stands, BackHome, SlotsHold, Runs}
use Rattle.book_shared.specs.Plays.{Slot, Here, recount, given_device, given, AreFrom, Stays, Hands, Finishes, Does, Returns, Holds, Gives}
use Rattle.book_shared.specs.declared.half.Answer.{Answer}
use Rattle.book_shared.specs.declared.half.Answer.TheVariants.{Marked, Faulted}
use Rattle.book_shared.specs.declared.half.Half.TheVariants.{TheFront, TheBack, Told, Due, Out}
use Rattle.book_shared.specs.declared.view.View.{View}
use Rattle.book_shared.proofs.Sums.{total-set, term_le, terms_le, total_less}
use Rattle.book_shared.proofs.Causing.{given_marks, durable_last_of}
use Rattle.book_shared.proofs.Lists.{own_recount, times_recount, old_later, lends_less}
use Rattle.book_shared.proofs.Lasting.{keeps_on}
use Rattle.book_shared.proofs.Keeps.{turns_moved, seats_moved, device_on, device_calm, device_off, knows_on, others_own, only_seated, none_out, same_total, alone_stands, stand_on, back_on, seat_of, slot_front}

-- a seat that has sources has them when they are counted anew
pub some_counted : (owners : List ℕ) (history : List Sample) (mine : List (ℕ × List Sample)) → 0 < length mine → 0 < length (recount owners history mine)
some_counted owners history [] some_mine = some_mine
some_counted owners history (part ∷ parts) some_mine = omega arith

-- the world after the front came back
abbrev pub returned : {V : Type 0} → World → FrontAccount V → World
returned w front = record { word = w.word + 1; history = front.history; marks = front.marks; from = front.from; stopped = front.stopped; spare = front.spare }

-- What a store of the turn word changes of the device, of what the seats know of it, and of the back.
pub record Stored {D V : Type 0} (disk : DiskOf D) (basis : Basis) (w w' : World) (views : List View) (homes : List (Home (Slot D V))) (id : ℕ) (v u : View) : Type 0 where
  pub held : holds_device u.device ≡ holds_device v.device
  pub outs : has_back u.device ≡ has_back v.device
  pub marks : IsPrefix w.marks w'.marks
  pub from : w.from ≤ w'.from
  pub stays : w.stopped ≡ true → w'.stopped ≡ true
  pub low : durable w'.marks ≤ w'.from
  pub within : w'.from ≤ length w'.history
  pub mine : KnowsDevice w' u
  pub others : (x : View) → holds_device v.device + holds_device x.device ≤ 1 → KnowsDevice w x → KnowsDevice w' x
  pub spare : w'.spare ≡ nat_lt (blocks_out (set views id u)) 1
  pub back : BackHome disk basis w views homes → (homes' : List (Home (Slot D V))) → get_elem? homes' 1 ≡ get_elem? homes 1 → BackHome disk basis w' (set views id u) homes'

module _ {D V : Type 0} (disk : DiskOf D) (basis : Basis) (w : World) (device : ℕ) (views : List View) (homes : List (Home (Slot D V)))
    (count : TurnsCount w.word device views) (seats : SeatsKnow basis w views) (slots : SlotsHold disk basis w views homes)
    (id : ℕ) (v : View) (at : get_elem? views id ≡ some v) (held : Held) (names : Names w v (holding held))
    (asks : Bool) (front : FrontAccount V) (added : List Sample) (history_is : front.history ≡ held.history ++ added) where
  -- the seat afterwards
  abbrev then_view : View
  then_view = given asks v (w.word + 1) front

  history_now : front.history ≡ w.history ++ added
  history_now = history_is ∙ ap (λ h. h ++ added) names.1

  some_mine : 0 < length (recount v.basis.owners front.history v.mine)
  some_mine = some_counted v.basis.owners front.history v.mine names.6

  -- the samples that were handed out, where no more were
  samples_same : front.from ≡ w.from → take front.from front.history ≡ take w.from w.history
  samples_same from = ap (λ n. take n front.history) from ∙ ap (take w.from) history_now ∙ take-append-le w.from w.history added seats.within

  within_now : front.from ≡ w.from → front.from ≤ length front.history
  within_now from = omega (arith, from, seats.within, ap length history_now, length-append w.history added)

  -- nothing was done with the device
  stored_stays : then_view.device ≡ v.device → lends_block v.device ≡ 0 → Stays held front → Stored disk basis w (returned w front) views homes id v then_view
  stored_stays now calm does =
      let marks : front.marks ≡ w.marks = does.0 ∙ names.2 in
      let from : front.from ≡ w.from = does.1 ∙ names.3 in
      let stopped : front.stopped ≡ w.stopped = does.2 ∙ names.4 in
      let blocks = same_total (λ (y : View). lends_block y.device) views id v then_view at (ap lends_block now) in
      record {
        held = ap holds_device now;
        outs = ap has_back now;
        marks = subst (λ ms. IsPrefix w.marks ms) (sym marks) (prefix_self w.marks);
        from = omega (arith, from);
        stays = λ is. stopped ∙ is;
        low = omega (arith, ap durable marks, from, seats.low);
        within = within_now from;
        mine = device_calm (returned w front) then_view (ap lends_block now ∙ calm) (λ one. some_mine);
        others = λ x apart know. device_on w (returned w front) x stopped marks from (samples_same from) know;
        spare = does.3 ∙ names.5 ∙ slots.spare_is ∙ ap (λ n. nat_lt n 1) (sym blocks);
        back = λ home homes' slot. back_on disk basis w (returned w front) views (set views id then_view) homes homes' slot stopped marks from (samples_same from) blocks
            (stand_on disk basis views id v then_view at (λ samples ms back stands. subst (λ d. Stands disk basis samples ms back d) (sym now) stands)) home;
      }

  -- all samples were handed out
  stored_hands : v.device ≡ resting → Hands held front → Stored disk basis w (returned w front) views homes id v then_view
  stored_hands is does =
      let now : then_view.device ≡ handed = ap (λ d. given_device d front.spare) is ∙ ap (given_device resting) does.5 in
      let marks : front.marks ≡ w.marks = does.1 ∙ names.2 in
      let history : front.history ≡ w.history = does.0 ∙ names.1 in
      let going : w.stopped ≡ false = sym names.4 ∙ does.3 in
      let all : take front.from front.history ≡ front.history = ap (λ n. take n front.history) does.2 ∙ take-length front.history in
      let one : holds_device v.device ≡ 1 = ap holds_device is in
      let none_there = none_out w.word device views count id v at one (ap lends_block is) in
      let more = total-set (λ (y : View). lends_block y.device) views id v then_view at in
      record {
        held = ap holds_device now ∙ sym one;
        outs = ap has_back now ∙ sym (ap has_back is);
        marks = subst (λ ms. IsPrefix w.marks ms) (sym marks) (prefix_self w.marks);
        from = omega (arith, does.2, ap length history, seats.within);
        stays = λ stop. absurd (false≢true (sym going ∙ stop));
        low = omega (arith, ap durable marks, seats.low, seats.within, does.2, ap length history);
        within = omega (arith, does.2);
        mine = record {
          some_source = λ _. some_mine;
          awaits = λ _. record { going = does.4; seen = sym all; kept = refl };
          turn = λ _. sym (ap has_answer now);
          answers = subst (λ d. Answers front.from d) (sym now) tt;
        };
        others = λ x apart know. device_off (returned w front) x (omega (arith, apart, one));
        spare = does.5 ∙ sym (le-ltb (blocks_out (set views id then_view)) 1 (omega (arith, more, ap lends_block now, ap lends_block is, none_there)));
        back = λ home homes' slot.
            let rested : (durable w.marks ≡ w.from) × HoldsAll disk basis home.back (take w.from w.history) =
            ⊎_elim (λ s. absurd (false≢true (sym going ∙ s.0))) (λ g. (g.1, g.2)) (home.rests none_there) in
            record {
              back = home.back;
              home_is = slot ∙ home.home_is;
              terms = home.terms;
              keeps = keeps_on disk basis home.back (take w.from w.history) (take front.from front.history) front.marks
                  (subst (λ h. IsPrefix (take w.from w.history) h) (sym (all ∙ history)) (prefix_take w.from w.history))
                  (subst (λ ms. KeepsAll disk basis home.back (take w.from w.history) ms) (sym marks) home.keeps);
              rests = λ empty. absurd (omega (arith, empty, more, ap lends_block now, ap lends_block is, none_there));
              stands = alone_stands disk basis w.word device views count id v then_view at one (take front.from front.history) front.marks home.back
                  (subst (λ d. Stands disk basis (take front.from front.history) front.marks home.back d) (sym now)
                  (subst (HoldsAll disk basis home.back) (sym (ap (λ n. take n (take front.from front.history)) (ap durable marks ∙ rested.0) ∙ ap (take w.from) (all ∙ history))) rested.1));
            };
      }

  -- the write was answered
  module _ (answer : Answer) (is : v.device ≡ settled answer) where
    settled_now : then_view.device ≡ resting
    settled_now = ap (λ d. given_device d front.spare) is

    none_then : blocks_out (set views id then_view) ≡ 0
    none_then = omega (
      arith,
      total-set (λ (y : View). lends_block y.device) views id v then_view at,
      ap lends_block settled_now,
      ap lends_block is,
      total_less (λ (y : View). lends_block y.device) (λ (y : View). holds_device y.device) (λ (y : View). lends_less y.device) views,
      count.device_held,
      count.one_device,
    )

    stored_ends : (marks : IsPrefix w.marks front.marks) (from : front.from ≡ w.from) (spare : front.spare ≡ true) (low : durable front.marks ≤ front.from)
        → ((back : Gated D) → KeepsAll disk basis back (take w.from w.history) w.marks → Stands disk basis (take w.from w.history) w.marks back (settled answer)
        → KeepsAll disk basis back (take w.from w.history) front.marks × IsResting disk basis (returned w front) back)
        → Stored disk basis w (returned w front) views homes id v then_view
    stored_ends marks from spare low rests =
        let know = (seats.each id v at).device in
        let going = (know.awaits (ap lends_block is)).going in
        let one : holds_device v.device ≡ 1 = ap holds_device is in
        record {
          held = ap holds_device settled_now ∙ sym one;
          outs = ap has_back settled_now ∙ sym (ap has_back is);
          marks = marks;
          from = omega (arith, from);
          stays = λ stop. absurd (false≢true (sym going ∙ stop));
          low = low;
          within = within_now from;
          mine = device_calm (returned w front) then_view (ap lends_block settled_now) (λ _. some_mine);
          others = λ x apart other. device_off (returned w front) x (omega (arith, apart, one));
          spare = spare ∙ sym (lt-ltb (blocks_out (set views id then_view)) 1 (omega (arith, none_then)));
          back = λ home homes' slot.
              let ended = rests home.back home.keeps (subst (λ d. Stands disk basis (take w.from w.history) w.marks home.back d) is (home.stands id v at)) in
              record {
                back = home.back;
                home_is = slot ∙ home.home_is;
                terms = home.terms;
                keeps = subst (λ ss. KeepsAll disk basis home.back ss front.marks) (sym (samples_same from)) ended.0;
                rests = λ _. ended.1;
                stands = alone_stands disk basis w.word device views count id v then_view at one (take front.from front.history) front.marks home.back
                    (subst (λ d. Stands disk basis (take front.from front.history) front.marks home.back d) (sym settled_now) tt);
              };
        }

  stored_settled : (answer : Answer) → v.device ≡ settled answer → Finishes held answer front → Stored disk basis w (returned w front) views homes id v then_view
  stored_settled (Marked mark) is does =
      let from : front.from ≡ w.from = does.0 ∙ names.3 in
      let marks : front.marks ≡ w.marks ++ mark ∷ [] = does.2 ∙ ap (λ ms. ms ++ mark ∷ []) names.2 in
      let through : mark.through ≡ w.from = subst (λ d. Answers w.from d) is (seats.each id v at).device.answers in
      let last : durable front.marks ≡ mark.through = ap durable marks ∙ durable_last_of w.marks mark in
      stored_ends (Marked mark) is (subst (λ ms. IsPrefix w.marks ms) (sym marks) (prefix_append w.marks (mark ∷ []))) from does.1 (omega (arith, last, through, from))
      (λ back keeps wrote. (
        subst (λ ms. KeepsAll disk basis back (take w.from w.history) ms) (sym marks) wrote.1,
        inr (does.3, last ∙ through ∙ sym from, subst (HoldsAll disk basis back) (sym (samples_same from)) wrote.0),
      ))
  stored_settled (Faulted before after) is does =
      let from : front.from ≡ w.from = does.0 ∙ names.3 in
      let marks : front.marks ≡ w.marks = does.2 ∙ names.2 in
      stored_ends (Faulted before after) is (subst (λ ms. IsPrefix w.marks ms) (sym marks) (prefix_self w.marks)) from does.1 (omega (arith, ap durable marks, from, seats.low))
      (λ back keeps wrote. (subst (λ ms. KeepsAll disk basis back (take w.from w.history) ms) (sym marks) keeps, inl (does.3, wrote)))

  -- by the state of the device
  stays_named : (d : Device) → v.device ≡ d → Does d held front → Stored disk basis w (returned w front) views homes id v then_view
  stays_named free is does = stored_stays (ap (λ d. given_device d front.spare) is ∙ sym is) (ap lends_block is) does
  stays_named resting is does = ⊎_elim
      (λ stays. stored_stays (ap (λ d. given_device d front.spare) is ∙ ap (given_device resting) stays.1 ∙ sym is) (ap lends_block is) stays.0)
      (λ hands. stored_hands is hands) does
  stays_named handed is does = absurd does
  stays_named writing is does = absurd does
  stays_named (written answer) is does = absurd does
  stays_named (settled answer) is does = stored_settled answer is does

  -- what the seat knows then
  given_knows : (basis_is : v.basis ≡ basis) (know : Knows basis w v) (stored : Stored disk basis w (returned w front) views homes id v then_view) → Knows basis (returned w front) then_view
  given_knows basis_is know stored =
      let history : IsPrefix w.history front.history = subst (λ h. IsPrefix w.history h) (sym history_now) (prefix_append w.history added) in
      record {
        met = omega arith;
        seen = prefix_self front.history;
        kept = prefix_self front.marks;
        from = omega arith;
        knows = λ is. is;
        mine = subst (λ (b : Basis). AreOwn basis.owners front.history (recount b.owners front.history v.mine)) (sym basis_is) (own_recount basis.owners front.history v.mine);
        olds = old_later v.seen front.history v.kept front.marks v.olds (prefix_trans v.seen w.history front.history know.seen history) (prefix_trans v.kept w.marks front.marks know.kept stored.marks) know.olds;
        turn = tt;
        device = stored.mine;
        basis_is = λ _. basis_is;
        asked = λ _. some_mine;
        due = λ _. some_mine;
      }

-- the table after the store
given_runs : {D V : Type 0} (disk : DiskOf D) (basis : Basis) (s : State (Slot D V) View) (run : Runs disk basis s) (asks : Bool) (id : ℕ) (v : View) (held : Held) (front : FrontAccount V)
    → get_elem? s.views id ≡ some v → v.turn ≡ holding held → Names run.shared v (holding held) → run.shared.word < last_word → Returns asks v held front
    → Runs disk basis record { words = slice_set s.words 0 (run.shared.word + 1); homes = slice_set s.homes 0 (some (slot_front front)); views = slice_set s.views id (given asks v (run.shared.word + 1) front) }
given_runs disk basis s run asks id v held front at turn_is names low back_is =
    let w = run.shared in
    let homes' = slice_set s.homes 0 (some (slot_front front)) in
    let u = given asks v (w.word + 1) front in
    let holder = ap holds_turn turn_is in
    let know = run.seats.each id v at in
    let basis_is = know.basis_is names.6 in
    let added = back_is.added in
    let odd : w.word % 2 ≡ 1 = omega (arith, term_le (λ (x : View). holds_turn x.turn) s.views id v at, run.turns.held, holder) in
    let history : front.history ≡ w.history ++ added = back_is.history_is ∙ ap (λ h. h ++ added) names.1 in
    let longer : IsPrefix w.history front.history = subst (λ h. IsPrefix w.history h) (sym history) (prefix_append w.history added) in
    let from : AreFrom basis.owners v.mine added = subst (λ (b : Basis). AreFrom b.owners v.mine added) basis_is back_is.own in
    let stored = stays_named disk basis w run.device s.views s.homes run.turns run.seats run.slots id v at held names asks front added back_is.history_is v.device refl back_is.does in
    let backs = same_total (λ (y : View). has_back y.device) s.views id v u at stored.outs in
    let else_where : get_elem? homes' 1 ≡ get_elem? s.homes 1 = set_else s.homes 0 1 (some (slot_front front)) (λ is. omega (arith, is)) in
    record {
      shared = returned w front;
      device = run.device;
      words = ap (λ ws. slice_set ws 0 (w.word + 1)) run.words;
      turns = turns_moved w.word (w.word + 1) run.device run.device s.views id v u run.turns at (omega (arith, low)) (omega (arith, holder, odd)) (omega (arith, odd)) (omega (arith, stored.held)) run.turns.one_device;
      seats = seats_moved basis w (returned w front) s.views id v u run.seats at (λ k. times_recount v.basis.owners front.history v.mine k)
          (given_knows disk basis w run.device s.views s.homes run.turns run.seats run.slots id v at held names asks front added back_is.history_is basis_is know stored)
          (λ k x apart there. knows_on basis w (returned w front) x (run.seats.each k x there) (omega arith) longer stored.marks stored.from stored.stays
          (subst (λ h. AreOwn basis.owners h x.mine) (sym history) (others_own basis w s.views run.seats id k v x added apart at there from))
          (omega (arith, terms_le (λ (y : View). holds_turn y.turn) s.views id k v x apart at there, run.turns.held, holder))
          (stored.others x (omega (arith, terms_le (λ (y : View). holds_device y.device) s.views id k v x apart at there, run.turns.device_held, run.turns.one_device)) (run.seats.each k x there).device))
          (subst (AreOfSources basis) (sym history) (All-append (λ (y : Sample). slice_index basis.owners y.group < basis.sources) w.history added run.seats.only (only_seated basis w s.views run.seats id v at added from)))
          stored.low stored.within;
      slots = record {
        two = length-set s.homes 0 (some (slot_front front)) ∙ run.slots.two;
        spare_is = stored.spare;
        here = λ _. record {
          front = front;
          home_is = set_here s.homes 0 (some (slot_front front)) (omega (arith, run.slots.two));
          has_it = record { history = refl; marks = refl; from = refl; stopped = refl; spare = refl; terms = back_is.terms ∙ ap (λ (b : Basis). front_part b.terms) basis_is };
        };
        away = λ is. absurd (omega (arith, is, odd));
        back_here = λ none_there. stored.back (run.slots.back_here (sym backs ∙ none_there)) homes' else_where;
        back_away = λ one. else_where ∙ run.slots.back_away (sym backs ∙ one);
      };
      marks = given_marks asks basis w.history s.views id v held (w.word + 1) front added at basis_is turn_is history back_is.makes
          (subst (λ ms. MarksCaused (AskedOf s.views) (DueOf s.views) basis.terms.layouts basis.terms.block_limit w.history basis.begun ms) (sym names.2) run.marks);
    }

-- the names of a turn
holder_of : (w : World) (v : View) (t : Turn) (held : Held) → t ≡ holding held → Names w v t → Names w v (holding held)
holder_of w v t held is names = subst (Names w v) is names

module _ {D V : Type 0} where
  -- the front that a seat carries
  abbrev front_of : Slot D V → FrontAccount V → FrontAccount V
  front_of (TheFront front) other = front
  front_of (TheBack back) other = other
  front_of (Told answer) other = other
  front_of (Due sample) other = other
  front_of Out other = other

  abbrev pub front_in : List (ℕ × Slot D V) → FrontAccount V → FrontAccount V
  front_in [] other = other
  front_in (x ∷ xs) other = front_of x.1 other

  abbrev pub holds_front : FrontAccount V → List (ℕ × Slot D V)
  holds_front front = (0, slot_front front) ∷ []

  stores : (disk : DiskOf D) (basis : Basis) (slots id : ℕ) (asks : Bool) (v : View) (front : FrontAccount V) → v.met < last_word → Holds asks v front
      → Allows (Runs disk basis) slots id (seat_of v (holds_front front)) 0 (λ _. v.met + 1) (λ _. Gives asks (step slots 0 (v.met + 1) 0 none) (seat_of v (holds_front front)) (v.met + 1))
  stores disk basis slots id asks v front low has_turn s run wide at few =
      let know = run.seats.each id v at in
      let names = holder_of run.shared v v.turn has_turn.held has_turn.turn_is know.turn in (
        given asks v (v.met + 1) front,
        gives,
        tt,
        subst (λ k. Runs disk basis record { words = slice_set s.words 0 (k + 1); homes = slice_set s.homes 0 (some (slot_front front)); views = slice_set s.views id (given asks v (k + 1) front) }) (sym names.0)
            (given_runs disk basis s run asks id v has_turn.held front at has_turn.turn_is names (omega (arith, low, names.0)) has_turn.returns),
        λ other same. ap (λ (c : List (ℕ × Slot D V)). seat_of (given asks v (v.met + 1) (front_in c front)) []) same,
      )

  pub stores_front : (disk : DiskOf D) (basis : Basis) (slots id : ℕ) (asks : Bool) (me : Here D V) (word : ℕ) (front : FrontAccount V) → me.1 ≡ (0, TheFront front) ∷ [] → word ≡ me.0.met
      → word < last_word → Holds asks me.0 front
      → Allows (Runs disk basis) slots id me 0 (λ _. word + 1) (λ _. Gives asks (step slots 0 (word + 1) 0 none) me (word + 1))
  stores_front disk basis slots id asks me word front carried met low has_turn =
      subst (λ k. Allows (Runs disk basis) slots id me 0 (λ _. k + 1) (λ _. Gives asks (step slots 0 (k + 1) 0 none) me (k + 1))) (sym met)
      (subst (λ c. Allows (Runs disk basis) slots id (seat_of me.0 c) 0 (λ _. me.0.met + 1) (λ _. Gives asks (step slots 0 (me.0.met + 1) 0 none) (seat_of me.0 c) (me.0.met + 1)))
      (sym carried) (stores disk basis slots id asks me.0 front (omega (arith, met, low)) has_turn))
