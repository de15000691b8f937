-- A load and an exchange of the turn word keep the rule.
use Rattle.std.proofs.Common.{◌≡◌, ℕ, ◌+◌, ◌*◌, ◌%◌, ◌<◌, ◌≤◌, ◌≢◌, inl, inr, Bool, true, false, List, [], ◌∷◌, ◌++◌, length, take, set, length-set, refl, sym, ap, ◌∙◌, subst, ⊎_elim, arith}
use Rattle.std.specs.Prelude.{◌==◌, cond, slice_index, slice_set, nat_lt, MatchBool}
use mathlib.Core.Option.{Option as Home, some, none}
use mathlib.Core.List.{IsPrefix}
use lib.ListN.{get_elem?}
use prog.Atomic.{either}
use Rattle.std.proofs.lemmas.Bool.{cases_lt, eq-eqb, lt-ltb, le-ltb, ne_eqb}
use Rattle.std.proofs.lemmas.List.{length-take-le}
use Rattle.std.proofs.lemmas.List.Elements.{All-cons, All-nil}
use Rattle.atomic_table.specs.Table.{State, step, Act, keeps, takes, Valid, stepped, carried_after, Allows}
use Rattle.atomic_table.proofs.Lists.{at_set, set_here, set_else, exchanged}
use Rattle.mdf_gate.proofs.Carrying.{prefix_self, prefix_trans}
use Rattle.mdf_gate.specs.Gated.{Gated}
use Rattle.mdf_layout.specs.declared.sample.Sample.{Sample}
use Rattle.book_owned.specs.Members.{DiskOf}
use Rattle.book_owned.specs.Marks.{durable}
use Rattle.book_owned.specs.FrontHalf.{FrontAccount}
use Rattle.book_owned.specs.Split.{front_part}
use Rattle.book_owned.specs.declared.mark.Mark.{Mark}
use Rattle.book_shared.specs.Basis.{Basis, Turn, idle, holding, Device, free, resting, handed, writing, written, settled, last_word}
use Rattle.book_shared.specs.Rule.{World, total, asks, has, AskedOf, DueOf, holds_turn, holds_device, lends_block, has_back, has_answer, blocks_out, backs_out, AreOwn, AreOfSources, Names, IsAnswer, Answers, Awaits, KnowsDevice, Knows, TurnsCount, SeatsKnow, Has, KeepsAll, HoldsAll, IsResting, Stands, FrontHome, BackHome, SlotsHold, Runs}
use Rattle.book_shared.specs.Plays.{Slot, Here, looked, taking, told_device, Meets, AreFrom, Looks, Wins, Takes, Tells}
use Rattle.book_shared.specs.declared.half.Answer.{Answer}
use Rattle.book_shared.specs.declared.half.Half.TheVariants.{TheFront, TheBack, Told, Due, Out}
use Rattle.book_shared.specs.declared.view.View.{View}
use Rattle.book_shared.proofs.Sums.{total-set, term_le, terms_le, total_less_at}
use Rattle.book_shared.proofs.Causing.{asked_on, caused_later, due_on}
use Rattle.book_shared.proofs.Lists.{own_same, none_of, names_none, one_if, lends_less, answers_none}

-- the turns and the device after a step of one seat
pub turns_moved : (word word' device device' : ℕ) (views : List View) (j : ℕ) (v u : View) → TurnsCount word device views → get_elem? views j ≡ some v
    → word' ≤ last_word → holds_turn u.turn + word % 2 ≡ holds_turn v.turn + word' % 2
    → 2 * u.turns + (word + word % 2) ≡ 2 * v.turns + (word' + word' % 2)
    → holds_device u.device + device ≡ holds_device v.device + device' → device' ≤ 1 → TurnsCount word' device' (set views j u)
turns_moved word word' device device' views j v u count at few held taken device_held one = record {
  few = few;
  held = omega (arith, total-set (λ (x : View). holds_turn x.turn) views j v u at, count.held, held);
  taken = omega (arith, total-set (λ (x : View). x.turns) views j v u at, count.taken, taken);
  device_held = omega (arith, total-set (λ (x : View). holds_device x.device) views j v u at, count.device_held, device_held);
  one_device = one;
}

-- and what the seats know
pub seats_moved : (basis : Basis) (w w' : World) (views : List View) (j : ℕ) (v u : View) → SeatsKnow basis w views → get_elem? views j ≡ some v
    → ((n : ℕ) → has n u ≡ has n v) → Knows basis w' u → ((k : ℕ) (x : View) → k ≢ j → get_elem? views k ≡ some x → Knows basis w' x)
    → AreOfSources basis w'.history → durable w'.marks ≤ w'.from → w'.from ≤ length w'.history → SeatsKnow basis w' (set views j u)
seats_moved basis w w' views j v u know at same mine others only low within = record {
  once = λ n. omega (arith, total-set (has n) views j v u at, know.once n, same n);
  each = λ k x at'. ⊎_elim (λ t. subst (Knows basis w') t.1 mine) (λ t. others k x t.0 t.1) (at_set views j k u x at');
  only = only;
  low = low;
  within = within;
}

-- a source is at most one seat's
pub once_most : (b : Bool) (n : ℕ) → n ≡ either b 1 0 → n ≤ 1
once_most true n is = omega (arith, is)
once_most false n is = omega (arith, is)

-- what was handed out goes on to be waited for
pub awaits_on : (w w' : World) (v u : View) → w'.stopped ≡ w.stopped → w'.marks ≡ w.marks → take w'.from w'.history ≡ take w.from w.history
    → u.seen ≡ v.seen → u.kept ≡ v.kept → Awaits w v → Awaits w' u
awaits_on w w' v u stopped marks samples seen kept awaits = record {
  going = stopped ∙ awaits.going;
  seen = seen ∙ awaits.seen ∙ sym samples;
  kept = kept ∙ awaits.kept ∙ sym marks;
}

pub device_on : (w w' : World) (x : View) → w'.stopped ≡ w.stopped → w'.marks ≡ w.marks → w'.from ≡ w.from
    → take w'.from w'.history ≡ take w.from w.history → KnowsDevice w x → KnowsDevice w' x
device_on w w' x stopped marks from samples know = record {
  some_source = know.some_source;
  awaits = λ out. awaits_on w w' x x stopped marks samples refl refl (know.awaits out);
  turn = know.turn;
  answers = subst (λ n. Answers n x.device) (sym from) know.answers;
}

-- who has no block out knows nothing of it
pub device_calm : (w : World) (x : View) → lends_block x.device ≡ 0 → (holds_device x.device ≡ 1 → 0 < length x.mine) → KnowsDevice w x
device_calm w x calm some_mine = record {
  some_source = some_mine;
  awaits = λ out. absurd (omega (arith, out, calm));
  turn = λ out. absurd (omega (arith, out, calm));
  answers = answers_none w.from x.device calm;
}

pub device_off : (w : World) (x : View) → holds_device x.device ≡ 0 → KnowsDevice w x
device_off w x off = device_calm w x (omega (arith, off, lends_less x.device)) (λ one. absurd (omega (arith, one, off)))

device_looked : (w : World) (v : View) (n : ℕ) → KnowsDevice w v → KnowsDevice w (looked v n)
device_looked w v n know = record {
  some_source = know.some_source;
  awaits = λ out. awaits_on w w v (looked v n) refl refl refl refl refl (know.awaits out);
  turn = know.turn;
  answers = know.answers;
}

names_looked : (w : World) (v : View) (n : ℕ) → n ≡ w.word → (t : Turn) → Names w v t → Names w (looked v n) t
names_looked w v n is idle names = tt
names_looked w v n is (holding held) names = (is, names.1, names.2, names.3, names.4, names.5, names.6)

looked_knows : (basis : Basis) (w : World) (v : View) (n : ℕ) → n ≡ w.word → Knows basis w v → Knows basis w (looked v n)
looked_knows basis w v n is know = record {
  met = omega (arith, is);
  seen = know.seen;
  kept = know.kept;
  from = know.from;
  knows = know.knows;
  mine = know.mine;
  olds = know.olds;
  turn = names_looked w v n is v.turn know.turn;
  device = device_looked w v n know.device;
  basis_is = know.basis_is;
  asked = know.asked;
  due = know.due;
}

-- what a seat with no turn knows is so of a later world with the same history
pub knows_on : (basis : Basis) (w w' : World) (x : View) → Knows basis w x → w.word ≤ w'.word → IsPrefix w.history w'.history → IsPrefix w.marks w'.marks
    → w.from ≤ w'.from → (w.stopped ≡ true → w'.stopped ≡ true) → AreOwn basis.owners w'.history x.mine → holds_turn x.turn ≡ 0 → KnowsDevice w' x
    → Knows basis w' x
knows_on basis w w' x know later history marks from stops own calm device = record {
  met = omega (arith, know.met, later);
  seen = prefix_trans x.seen w.history w'.history know.seen history;
  kept = prefix_trans x.kept w.marks w'.marks know.kept marks;
  from = omega (arith, know.from, from);
  knows = λ is. stops (know.knows is);
  mine = own;
  olds = know.olds;
  turn = names_none w' x x.turn calm;
  device = device;
  basis_is = know.basis_is;
  asked = know.asked;
  due = know.due;
}

-- no number is less than itself
pub least : (n : ℕ) → n ≤ n
least n = omega arith

-- the lists of another seat stay
pub others_own : (basis : Basis) (w : World) (views : List View) (know : SeatsKnow basis w views) (j k : ℕ) (v x : View) (added : List Sample) → k ≢ j
    → get_elem? views j ≡ some v → get_elem? views k ≡ some x → AreFrom basis.owners v.mine added → AreOwn basis.owners (w.history ++ added) x.mine
others_own basis w views know j k v x added apart at there from =
    own_same basis.owners w.history added x.mine
    (λ n some_of. none_of basis.owners v.mine added n from
    (λ mine. omega (arith, some_of, mine, terms_le (has n) views j k v x apart at there, once_most (nat_lt n basis.sources) (total (has n) views) (know.once n))))
    (know.each k x there).mine

-- a source that is some seat's is one of the sources
pub one_below : (n count : ℕ) → 0 < cond (nat_lt n count) 1 0 → n < count
one_below n count counted = ⊎_elim (λ less. less) (λ more. absurd (omega (arith, counted, ap one_if (le-ltb n count more)))) (cases_lt n count)

-- samples of the sources of a seat are of sources that have a seat
pub only_seated : (basis : Basis) (w : World) (views : List View) → SeatsKnow basis w views → (j : ℕ) (v : View) → get_elem? views j ≡ some v → (added : List Sample)
    → AreFrom basis.owners v.mine added → AreOfSources basis added
only_seated basis w views know j v at [] from = All-nil _
only_seated basis w views know j v at (sample ∷ added) from =
    let n = slice_index basis.owners sample.group in
    All-cons (λ (s : Sample). slice_index basis.owners s.group < basis.sources) sample added (one_below n basis.sources (omega (arith, from.0, term_le (has n) views j v at, know.once n)))
    (only_seated basis w views know j v at added from.1)

-- while one seat has the device no other has it
pub others_free : (word device : ℕ) (views : List View) → TurnsCount word device views → (j k : ℕ) (v x : View) → k ≢ j → get_elem? views j ≡ some v → get_elem? views k ≡ some x
    → holds_device v.device ≡ 1 → holds_device x.device ≡ 0
others_free word device views count j k v x apart at there has_it =
    omega (arith, terms_le (λ (y : View). holds_device y.device) views j k v x apart at there, count.device_held, count.one_device, has_it)

-- and where that one has no block out, no block is
pub none_out : (word device : ℕ) (views : List View) → TurnsCount word device views → (j : ℕ) (v : View) → get_elem? views j ≡ some v
    → holds_device v.device ≡ 1 → lends_block v.device ≡ 0 → blocks_out views ≡ 0
none_out word device views count j v at has_it calm =
    omega (arith, total_less_at (λ (y : View). lends_block y.device) (λ (y : View). holds_device y.device) (λ (y : View). lends_less y.device) views j v at, count.device_held, count.one_device, has_it, calm)

-- the sums after a step of one seat that changes none
pub same_total : (f : View → ℕ) (views : List View) (j : ℕ) (v u : View) → get_elem? views j ≡ some v → f u ≡ f v → total f (set views j u) ≡ total f views
same_total f views j v u at same = omega (arith, total-set f views j v u at, same)

module _ {D : Type 0} (disk : DiskOf D) (basis : Basis) where
  -- a seat that does not have the device asks nothing of the file
  pub stands_free : (samples : List Sample) (marks : List Mark) (back : Gated D) (d : Device) → holds_device d ≡ 0 → Stands disk basis samples marks back d
  stands_free samples marks back free off = tt
  stands_free samples marks back resting off = absurd (omega (arith, off))
  stands_free samples marks back handed off = absurd (omega (arith, off))
  stands_free samples marks back writing off = absurd (omega (arith, off))
  stands_free samples marks back (written answer) off = absurd (omega (arith, off))
  stands_free samples marks back (settled answer) off = absurd (omega (arith, off))

  -- what the file does for all seats
  abbrev pub AllStand : List View → List Sample → List Mark → Gated D → Type 0
  AllStand views samples marks back = (j : ℕ) (v : View) → get_elem? views j ≡ some v → Stands disk basis samples marks back v.device

  abbrev pub StandOn : List View → List View → Type 0
  StandOn views views' = (samples : List Sample) (marks : List Mark) (back : Gated D) → AllStand views samples marks back → AllStand views' samples marks back

  pub stand_on : (views : List View) (id : ℕ) (v u : View) → get_elem? views id ≡ some v
      → ((samples : List Sample) (marks : List Mark) (back : Gated D) → Stands disk basis samples marks back v.device → Stands disk basis samples marks back u.device)
      → StandOn views (set views id u)
  stand_on views id v u at goes samples marks back all j x there =
      ⊎_elim (λ t. subst (λ (y : View). Stands disk basis samples marks back y.device) t.1 (goes samples marks back (all id v at))) (λ t. all j x t.1) (at_set views id j u x there)

  -- what the file does for all seats where only this one has the device
  pub alone_stands : (word device : ℕ) (views : List View) → TurnsCount word device views → (id : ℕ) (v u : View) → get_elem? views id ≡ some v → holds_device v.device ≡ 1
      → (samples : List Sample) (marks : List Mark) (back : Gated D) → Stands disk basis samples marks back u.device → AllStand (set views id u) samples marks back
  alone_stands word device views count id v u at one samples marks back stands j x there = ⊎_elim
      (λ t. subst (λ (y : View). Stands disk basis samples marks back y.device) t.1 stands)
      (λ t. stands_free samples marks back x.device (others_free word device views count id j v x t.0 at t.1 one)) (at_set views id j u x there)

  resting_on : (w w' : World) (back : Gated D) → w'.stopped ≡ w.stopped → w'.marks ≡ w.marks → w'.from ≡ w.from
      → take w'.from w'.history ≡ take w.from w.history → IsResting disk basis w back → IsResting disk basis w' back
  resting_on w w' back stopped marks from samples rests =
      ⊎_elim (λ s. inl (stopped ∙ s.0, s.1)) (λ g. inr (stopped ∙ g.0, ap durable marks ∙ g.1 ∙ sym from, subst (HoldsAll disk basis back) (sym samples) g.2)) rests

-- the back while the second slot and what it is asked for stay
pub back_on : {D V : Type 0} (disk : DiskOf D) (basis : Basis) (w w' : World) (views views' : List View) (homes homes' : List (Home (Slot D V)))
    → get_elem? homes' 1 ≡ get_elem? homes 1 → w'.stopped ≡ w.stopped → w'.marks ≡ w.marks → w'.from ≡ w.from → take w'.from w'.history ≡ take w.from w.history
    → blocks_out views' ≡ blocks_out views → StandOn disk basis views views' → BackHome disk basis w views homes → BackHome disk basis w' views' homes'
back_on disk basis w w' views views' homes homes' slot stopped marks from samples out stand home = record {
  back = home.back;
  home_is = slot ∙ home.home_is;
  terms = home.terms;
  keeps = subst (λ ss. KeepsAll disk basis home.back ss w'.marks) (sym samples) (subst (λ ms. KeepsAll disk basis home.back (take w.from w.history) ms) (sym marks) home.keeps);
  rests = λ empty. resting_on disk basis w w' home.back stopped marks from samples (home.rests (sym out ∙ empty));
  stands = λ j v at. subst (λ ss. Stands disk basis ss w'.marks home.back v.device) (sym samples)
      (subst (λ ms. Stands disk basis (take w.from w.history) ms home.back v.device) (sym marks) (stand (take w.from w.history) w.marks home.back home.stands j v at));
}

-- the slots after a step that leaves them and the front
pub slots_on : {D V : Type 0} (disk : DiskOf D) (basis : Basis) (w : World) (views views' : List View) (homes : List (Home (Slot D V)))
    → blocks_out views' ≡ blocks_out views → backs_out views' ≡ backs_out views → StandOn disk basis views views'
    → SlotsHold disk basis w views homes → SlotsHold disk basis w views' homes
slots_on disk basis w views views' homes blocks backs stand slots = record {
  two = slots.two;
  spare_is = slots.spare_is ∙ ap (λ n. nat_lt n 1) (sym blocks);
  here = slots.here;
  away = slots.away;
  back_here = λ empty. back_on disk basis w w views views' homes homes refl refl refl refl refl blocks stand (slots.back_here (sym backs ∙ empty));
  back_away = λ one. slots.back_away (sym backs ∙ one);
}

-- What an exchange of the turn word may make of the device: it leaves who has it and who has a block or the back out, and an
-- answer is told where a block is out.
pub record TellsWell {D : Type 0} (disk : DiskOf D) (basis : Basis) (w : World) (v : View) (device : Device) : Type 0 where
  pub lends : lends_block device ≡ lends_block v.device
  pub held : holds_device device ≡ holds_device v.device
  pub outs : has_back device ≡ has_back v.device
  pub turn : lends_block device ≡ 1 → 1 ≡ has_answer device
  pub answers : Answers w.from device
  pub stands : (samples : List Sample) (marks : List Mark) (back : Gated D) → Stands disk basis samples marks back device

module _ {D : Type 0} (disk : DiskOf D) (basis : Basis) (w : World) (v : View) (know : Knows basis w v) where
  tells_calm : (device : Device) → lends_block device ≡ 0 → ((samples : List Sample) (marks : List Mark) (back : Gated D) → Stands disk basis samples marks back device)
      → v.device ≡ device → TellsWell disk basis w v v.device
  tells_calm device calm stands is = record {
    lends = refl;
    held = refl;
    outs = refl;
    turn = λ out. absurd (omega (arith, out, ap lends_block is, calm));
    answers = know.device.answers;
    stands = λ samples marks back. subst (λ d. Stands disk basis samples marks back d) (sym is) (stands samples marks back);
  }

  -- the samples that were handed out are those that the seat has seen
  handed_length : w.from ≤ length w.history → lends_block v.device ≡ 1 → length v.seen ≡ w.from
  handed_length within out = ap length (know.device.awaits out).seen ∙ length-take-le w.from w.history within

  tells_answer : (answer : Answer) → w.from ≤ length w.history → v.device ≡ writing → IsAnswer (length v.seen) answer → TellsWell disk basis w v (written answer)
  tells_answer answer within is answers = record {
    lends = sym (ap lends_block is);
    held = sym (ap holds_device is);
    outs = sym (ap has_back is);
    turn = λ out. refl;
    answers = subst (λ n. IsAnswer n answer) (handed_length within (ap lends_block is)) answers;
    stands = λ samples marks back. tt;
  }

tells_well : {D V : Type 0} (disk : DiskOf D) (basis : Basis) (w : World) (v : View) → Knows basis w v → w.from ≤ length w.history → (told : Home (Slot D V)) → Tells v told
    → TellsWell disk basis w v (told_device v.device told)
tells_well disk basis w v know within none tells =
    ⊎_elim (tells_calm disk basis w v know free refl (λ samples marks back. tt)) (tells_calm disk basis w v know resting refl (λ samples marks back. tt)) tells
tells_well disk basis w v know within (some (Told answer)) tells = tells_answer disk basis w v know answer within tells.0 tells.1
tells_well disk basis w v know within (some (Due sample)) tells = absurd tells
tells_well disk basis w v know within (some (TheFront front)) tells = absurd tells
tells_well disk basis w v know within (some (TheBack back)) tells = absurd tells
tells_well disk basis w v know within (some Out) tells = absurd tells

-- what the winner of a turn knows
taking_knows : {D V : Type 0} (disk : DiskOf D) (basis : Basis) (w : World) (v : View) (device : Device) (front : FrontAccount V) → Has basis w front → 0 < length v.mine → Knows basis w v
    → TellsWell disk basis w v device → Knows basis (record w { word = w.word + 1 }) (taking v device (w.word + 1) front)
taking_knows disk basis w v device front has_it some_mine know well = record {
  met = omega arith;
  seen = know.seen;
  kept = know.kept;
  from = know.from;
  knows = know.knows;
  mine = know.mine;
  olds = know.olds;
  turn = (refl, has_it.history, has_it.marks, has_it.from, has_it.stopped, has_it.spare, some_mine);
  device = record {
    some_source = λ _. some_mine;
    awaits = λ out. awaits_on w (record w { word = w.word + 1 }) v (taking v device (w.word + 1) front) refl refl refl refl refl (know.device.awaits (sym well.lends ∙ out));
    turn = well.turn;
    answers = well.answers;
  };
  basis_is = know.basis_is;
  asked = know.asked;
  due = know.due;
}

-- what a seat knows is so of the front at home
meets_home : {V : Type 0} (basis : Basis) (w : World) (device : ℕ) (views : List View) (id : ℕ) (v : View) (front : FrontAccount V) → Has basis w front → 0 < length v.mine
    → get_elem? views id ≡ some v → TurnsCount w.word device views → SeatsKnow basis w views → w.spare ≡ nat_lt (blocks_out views) 1 → Meets v front
meets_home basis w device views id v front has_it some_mine at count seats spare_is =
    let know = seats.each id v at in record {
      seen = subst (λ h. IsPrefix v.seen h) (sym has_it.history) know.seen;
      kept = subst (λ m. IsPrefix v.kept m) (sym has_it.marks) know.kept;
      from = omega (arith, know.from, has_it.from);
      knows = λ is. has_it.stopped ∙ know.knows is;
      mine = subst (λ (b : Basis). AreOwn b.owners front.history v.mine) (sym (know.basis_is some_mine))
          (subst (λ h. AreOwn basis.owners h v.mine) (sym has_it.history) know.mine);
      within = omega (arith, ap durable has_it.marks, seats.low, seats.within, ap length has_it.history);
      spare = λ one calm. has_it.spare ∙ spare_is ∙ lt-ltb (blocks_out views) 1 (omega (arith, none_out w.word device views count id v at one calm));
      awaits = λ out. (
        has_it.spare ∙ spare_is ∙ le-ltb (blocks_out views) 1 (omega (arith, out, term_le (λ (y : View). lends_block y.device) views id v at)),
        has_it.from ∙ sym (ap length (know.device.awaits out).seen ∙ length-take-le w.from w.history seats.within),
        has_it.marks ∙ sym (know.device.awaits out).kept,
        has_it.stopped ∙ (know.device.awaits out).going,
      );
      terms = has_it.terms ∙ ap (λ (b : Basis). front_part b.terms) (sym (know.basis_is some_mine));
    }

module _ {D V : Type 0} where
  -- a seat with this view and these slots
  abbrev pub seat_of : View → List (ℕ × Slot D V) → Here D V
  seat_of v carried = (v, carried)

  abbrev pub slot_front : FrontAccount V → Slot D V
  slot_front front = TheFront front

  abbrev pub slot_back : Gated D → Slot D V
  slot_back back = TheBack back

  -- after a load
  looked_runs : (disk : DiskOf D) (basis : Basis) (s : State (Slot D V) View) (run : Runs disk basis s) (id : ℕ) (v : View) (n : ℕ) → get_elem? s.views id ≡ some v → n ≡ run.shared.word
      → Runs disk basis record { words = slice_set s.words 0 n; homes = s.homes; views = slice_set s.views id (looked v n) }
  looked_runs disk basis s run id v n at is = record {
    shared = run.shared;
    device = run.device;
    words = ap (λ ws. slice_set ws 0 n) run.words ∙ ap (λ k. k ∷ run.device ∷ []) is;
    turns = turns_moved run.shared.word run.shared.word run.device run.device s.views id v (looked v n) run.turns at run.turns.few refl refl refl run.turns.one_device;
    seats = seats_moved basis run.shared run.shared s.views id v (looked v n) run.seats at (λ k. refl)
        (looked_knows basis run.shared v n is (run.seats.each id v at)) (λ k x apart there. run.seats.each k x there) run.seats.only run.seats.low run.seats.within;
    slots = slots_on disk basis run.shared s.views (set s.views id (looked v n)) s.homes
        (same_total (λ (y : View). lends_block y.device) s.views id v (looked v n) at refl) (same_total (λ (y : View). has_back y.device) s.views id v (looked v n) at refl)
        (stand_on disk basis s.views id v (looked v n) at (λ samples marks back stands. stands)) run.slots;
    marks = caused_later (AskedOf s.views) (AskedOf (set s.views id (looked v n))) (DueOf s.views) (DueOf (set s.views id (looked v n))) basis.terms.layouts basis.terms.block_limit run.shared.history run.shared.history
        (asked_on s.views id v (looked v n) at (λ k. least (asks k v))) (due_on s.views id v (looked v n) at (λ sample is. is)) (prefix_self run.shared.history) basis.begun run.shared.marks run.marks;
  }

  pub looks : (disk : DiskOf D) (basis : Basis) (slots id : ℕ) (me : Here D V) → Allows (Runs disk basis) slots id me 0 (λ n. n) (Looks (step slots 0 0 0 none) me)
  looks disk basis slots id me s run wide at low =
      let n = slice_index s.words 0 in
      let is : n ≡ run.shared.word = ap (λ ws. slice_index ws 0) run.words in
      let know = run.seats.each id me.0 at in (
        looked me.0 n,
        keeps,
        tt,
        looked_runs disk basis s run id me.0 n at is,
        (refl, omega (arith, is, know.met), know.olds, omega (arith, is, run.turns.few)),
      )

  -- the table after the winning exchange
  taken_runs : (disk : DiskOf D) (basis : Basis) (s : State (Slot D V) View) (run : Runs disk basis s) (id : ℕ) (v : View) (device : Device) (home : FrontHome {D = D} {V = V} basis run.shared s.homes)
      → get_elem? s.views id ≡ some v → run.shared.word % 2 ≡ 0 → run.shared.word < last_word → 0 < length v.mine → TellsWell disk basis run.shared v device
      → Runs disk basis record { words = slice_set s.words 0 (run.shared.word + 1); homes = slice_set s.homes 0 none; views = slice_set s.views id (taking v device (run.shared.word + 1) home.front) }
  taken_runs disk basis s run id v device home at even low some_mine well =
      let w = run.shared in
      let w' : World = record w { word = w.word + 1 } in
      let u = taking v device (w.word + 1) home.front in
      let blocks = same_total (λ (y : View). lends_block y.device) s.views id v u at well.lends in
      let backs = same_total (λ (y : View). has_back y.device) s.views id v u at well.outs in
      let calm = term_le (λ (x : View). holds_turn x.turn) s.views id v at in
      let else_where : get_elem? (slice_set s.homes 0 none) 1 ≡ get_elem? s.homes 1 = set_else s.homes 0 1 none (λ is. omega (arith, is)) in
      record {
        shared = w';
        device = run.device;
        words = ap (λ ws. slice_set ws 0 (w.word + 1)) run.words;
        turns = turns_moved w.word (w.word + 1) run.device run.device s.views id v u run.turns at (omega (arith, low)) (omega (arith, calm, run.turns.held, even)) (omega (arith, even))
            (omega (arith, well.held)) run.turns.one_device;
        seats = seats_moved basis w w' s.views id v u run.seats at (λ k. refl) (taking_knows disk basis w v device home.front home.has_it some_mine (run.seats.each id v at) well)
            (λ k x apart there. knows_on basis w w' x (run.seats.each k x there) (omega arith) (prefix_self w.history) (prefix_self w.marks) (least w.from) (λ is. is)
            (run.seats.each k x there).mine (omega (arith, term_le (λ (y : View). holds_turn y.turn) s.views k x there, run.turns.held, even))
            (device_on w w' x refl refl refl refl (run.seats.each k x there).device)) run.seats.only run.seats.low run.seats.within;
        slots = record {
          two = length-set s.homes 0 none ∙ run.slots.two;
          spare_is = run.slots.spare_is ∙ ap (λ n. nat_lt n 1) (sym blocks);
          here = λ is. absurd (omega (arith, is, even));
          away = λ _. set_here s.homes 0 none (omega (arith, run.slots.two));
          back_here = λ none_there. back_on disk basis w w' s.views (set s.views id u) s.homes (slice_set s.homes 0 none) else_where refl refl refl refl blocks
              (stand_on disk basis s.views id v u at (λ samples marks back stands. well.stands samples marks back)) (run.slots.back_here (sym backs ∙ none_there));
          back_away = λ one. else_where ∙ run.slots.back_away (sym backs ∙ one);
        };
        marks = caused_later (AskedOf s.views) (AskedOf (set s.views id u)) (DueOf s.views) (DueOf (set s.views id u)) basis.terms.layouts basis.terms.block_limit w.history w.history
            (asked_on s.views id v u at (λ k. least (asks k v))) (due_on s.views id v u at (λ sample is. is)) (prefix_self w.history) basis.begun w.marks run.marks;
      }

  -- what an exchange with an even word owes: what it does to a table, by the word that it finds
  abbrev Goes : (disk : DiskOf D) (basis : Basis) → ℕ → ℕ → View → List (ℕ × Slot D V) → ℕ → Home (Slot D V) → State (Slot D V) View → ℕ → Type 0
  Goes disk basis slots id v carried word told s k = (u : View) × (a : Act (Slot D V)) × Valid s.homes carried a
      × Runs disk basis (stepped s 0 k id carried u a)
      × Takes (step slots 0 word (word + 1) told) (seat_of v carried) (slice_index s.words 0) (seat_of u (carried_after carried a))

  wins : (disk : DiskOf D) (basis : Basis) (slots id : ℕ) (v : View) (carried : List (ℕ × Slot D V)) (word : ℕ) (told : Home (Slot D V)) (s : State (Slot D V) View) (run : Runs disk basis s)
      → get_elem? s.views id ≡ some v → word % 2 ≡ 0 → word < last_word → 0 < length v.mine → Tells v told → slice_index s.words 0 ≡ word
      → Goes disk basis slots id v carried word told s (word + 1)
  wins disk basis slots id v carried word told s run at even low some_mine tells found =
      let n = slice_index s.words 0 in
      let w = run.shared in
      let device = told_device v.device told in
      let is : n ≡ w.word = ap (λ ws. slice_index ws 0) run.words in
      let same : w.word ≡ word = sym is ∙ found in
      let home = run.slots.here (omega (arith, same, even)) in
      let know = run.seats.each id v at in
      let well = tells_well disk basis w v know run.seats.within told tells in
      let st = step slots 0 word (word + 1) told in
      let u = taking v device (word + 1) home.front in
      let n' = seat_of u ((0, slot_front home.front) ∷ carried) in
      let met : MatchBool (n == word) (Wins st (seat_of v carried) n') (n' ≡ seat_of (looked v n) carried) =
      subst (λ b. MatchBool b (Wins st (seat_of v carried) n') (n' ≡ seat_of (looked v n) carried)) (sym (eq-eqb n word found))
      (home.front, refl, meets_home basis w run.device s.views id v home.front home.has_it some_mine at run.turns run.seats run.slots.spare_is) in (
        u,
        takes 0 (slot_front home.front),
        home.home_is,
        subst (λ k. Runs disk basis record { words = slice_set s.words 0 (k + 1); homes = slice_set s.homes 0 none; views = slice_set s.views id (taking v device (k + 1) home.front) }) same
            (taken_runs disk basis s run id v device home at (omega (arith, same, even)) (omega (arith, same, low)) some_mine well),
        (omega (arith, is, know.met), omega (arith, found, low), met),
      )

  loses : (disk : DiskOf D) (basis : Basis) (slots id : ℕ) (v : View) (carried : List (ℕ × Slot D V)) (word : ℕ) (told : Home (Slot D V)) (s : State (Slot D V) View) (run : Runs disk basis s)
      → get_elem? s.views id ≡ some v → slice_index s.words 0 ≢ word → Goes disk basis slots id v carried word told s (slice_index s.words 0)
  loses disk basis slots id v carried word told s run at differs =
      let n = slice_index s.words 0 in
      let is : n ≡ run.shared.word = ap (λ ws. slice_index ws 0) run.words in
      let know = run.seats.each id v at in
      let st = step slots 0 word (word + 1) told in
      let met : MatchBool (n == word) (Wins st (seat_of v carried) (seat_of (looked v n) carried)) (seat_of (looked v n) carried ≡ seat_of (looked v n) carried) =
      subst (λ b. MatchBool b (Wins st (seat_of v carried) (seat_of (looked v n) carried)) (seat_of (looked v n) carried ≡ seat_of (looked v n) carried)) (sym (ne_eqb n word differs)) refl in (
        looked v n,
        keeps,
        tt,
        looked_runs disk basis s run id v n at is,
        (omega (arith, is, know.met), omega (arith, is, run.turns.few), met),
      )

  pub exchanges : (disk : DiskOf D) (basis : Basis) (slots id : ℕ) (me : Here D V) (word : ℕ) (told : Home (Slot D V)) → word % 2 ≡ 0 → word < last_word → 0 < length me.0.mine
      → Tells me.0 told → Allows (Runs disk basis) slots id me 0 (λ n. either (n == word) (word + 1) n) (Takes (step slots 0 word (word + 1) told) me)
  exchanges disk basis slots id me word told even low some_mine tells s run wide at few =
      exchanged (slice_index s.words 0) word (word + 1) (Goes disk basis slots id me.0 me.1 word told s)
      (λ found. wins disk basis slots id me.0 me.1 word told s run at even low some_mine tells found) (λ differs. loses disk basis slots id me.0 me.1 word told s run at differs)
