-- To cut a seat in two and to join two keep the rule, which holds at the start; and what it says at the end.
use Rattle.std.proofs.Common.{◌≡◌, ℕ, zero, suc, ◌+◌, ◌%◌, ◌<◌, ◌≤◌, ◌≢◌, Bool, true, false, List, [], ◌∷◌, ◌++◌, length, take, inl, inr, ◌⊎◌, set, refl, sym, ap, ◌∙◌, subst, ⊎_elim, arith, append-nil, length-append}
use Rattle.std.specs.Prelude.{◌||◌, nat_lt, nat_le, cond}
use mathlib.Core.Option.{some, some-injective, some-ne-none}
use mathlib.Core.List.{IsPrefix}
use lib.ListN.{get_elem?}
use Rattle.std.proofs.lemmas.List.Elements.{All-nil}
use Rattle.std.proofs.lemmas.Bool.{cond_both, cond-true, cond-false, eq-eqb, ne_eqb, lt-ltb, le-ltb, leb-true, leb-false, cases_eq, cases_lt, false≢true}
use Rattle.atomic_table.specs.Table.{State, Splits, Joins, opening, Final, Seen}
use Rattle.atomic_table.proofs.Lists.{at_set, at_snoc, set_else}
use Rattle.mdf_gate.proofs.Carrying.{prefix_self, prefix_take}
use Rattle.mdf_layout.specs.declared.sample.Sample.{Sample}
use Rattle.mdf_gate.specs.Gated.{Gated}
use Rattle.book_owned.specs.Members.{DiskOf}
use Rattle.book_owned.specs.Marks.{durable}
use Rattle.book_owned.specs.BackHalf.{back_terms}
use Rattle.book_owned.specs.FrontHalf.{FrontAccount}
use Rattle.book_owned.specs.Split.{front_part, back_part}
use Rattle.book_owned.specs.declared.mark.Mark.{Mark}
use Rattle.book_shared.specs.Basis.{Basis, Turn, idle, holding, Device, free, resting, handed, writing, written, settled}
use Rattle.book_shared.specs.Rule.{World, total, times_in, asks, has, AskedOf, DueOf, holds_turn, holds_device, lends_block, has_back, blocks_out, AreOwn, AreOld, AreOfSources, Names, Knows, SeatsKnow, KeepsAll, HoldsAll, IsResting, Stands, Runs}
use Rattle.book_shared.specs.Plays.{Slot}
use Rattle.book_shared.specs.Causes.{IsAmong, MarksCaused}
use Rattle.book_shared.specs.Parts.{first_part, other_parts, kept_part, split_part, longer, joined, spent}
use Rattle.book_shared.specs.Fixed.{sources_from, first_view}
use Rattle.book_shared.specs.Ends.{Ended}
use Rattle.book_shared.specs.declared.half.Half.TheVariants.{TheFront, TheBack}
use Rattle.book_shared.specs.declared.view.View.{View}
use Rattle.book_shared.proofs.Sums.{total-append, total-set, total_less, terms_le}
use Rattle.book_shared.proofs.Anys.{any_first, any_last, any_set, any_joined, any_only, some_among}
use Rattle.book_shared.proofs.Causing.{caused_later, none_asked, times_of-append}
use Rattle.book_shared.proofs.Lists.{counts_first, old_later, names_none, one_if, lends_less, back_held}
use Rattle.book_shared.proofs.Lasting.{keeps_on}
use Rattle.book_shared.proofs.Keeps.{once_most, one_below, device_off, stands_free, slots_on, StandOn}

-- the first source and the others
times_parts : (n : ℕ) (mine : List (ℕ × List Sample)) → times_in n (first_part mine) + times_in n (other_parts mine) ≡ times_in n mine
times_parts n [] = refl
times_parts n (part ∷ parts) = omega arith

own_first : (owners : List ℕ) (history : List Sample) (mine : List (ℕ × List Sample)) → AreOwn owners history mine → AreOwn owners history (first_part mine)
own_first owners history [] own = tt
own_first owners history (part ∷ parts) own = (own.0, tt)

own_others : (owners : List ℕ) (history : List Sample) (mine : List (ℕ × List Sample)) → AreOwn owners history mine → AreOwn owners history (other_parts mine)
own_others owners history [] own = tt
own_others owners history (part ∷ parts) own = own.1

some_first : (mine : List (ℕ × List Sample)) → 0 < length (first_part mine) → 0 < length mine
some_first [] some_part = some_part
some_first (part ∷ parts) some_part = omega arith

some_others : (mine : List (ℕ × List Sample)) → 0 < length (other_parts mine) → 0 < length mine
some_others [] some_part = some_part
some_others (part ∷ parts) some_part = omega arith

first_some : (mine : List (ℕ × List Sample)) → 0 < length mine → 0 < length (first_part mine)
first_some [] some_part = some_part
first_some (part ∷ parts) some_part = omega arith

-- both parts know what the whole seat knew
kept_knows : (basis : Basis) (w : World) (v : View) → v.turn ≡ idle → v.device ≡ free → Knows basis w v → Knows basis w (kept_part v)
kept_knows basis w v none_held off know = record {
  met = know.met;
  seen = know.seen;
  kept = know.kept;
  from = know.from;
  knows = know.knows;
  mine = own_first basis.owners w.history v.mine know.mine;
  olds = know.olds;
  turn = names_none w (kept_part v) v.turn (ap holds_turn none_held);
  device = device_off w (kept_part v) (ap holds_device off);
  basis_is = λ some_part. know.basis_is (some_first v.mine some_part);
  asked = λ some_mark. first_some v.mine (know.asked some_mark);
  due = λ some_due. first_some v.mine (know.due some_due);
}

split_knows : (basis : Basis) (w : World) (v : View) → v.turn ≡ idle → v.device ≡ free → Knows basis w v → Knows basis w (split_part v)
split_knows basis w v none_held off know = record {
  met = know.met;
  seen = know.seen;
  kept = know.kept;
  from = know.from;
  knows = know.knows;
  mine = own_others basis.owners w.history v.mine know.mine;
  olds = tt;
  turn = names_none w (split_part v) v.turn (ap holds_turn none_held);
  device = device_off w (split_part v) (ap holds_device off);
  basis_is = λ some_part. know.basis_is (some_others v.mine some_part);
  asked = λ some_mark. absurd (omega (arith, some_mark));
  due = λ some_due. absurd (omega (arith, some_due));
}

-- the sum over the seats after a cut
split_total : (f : View → ℕ) (views : List View) (id : ℕ) (v a b : View) → get_elem? views id ≡ some v → f a + f b ≡ f v
    → total f (set views id a ++ b ∷ []) ≡ total f views
split_total f views id v a b at sum = omega (arith, total-append f (set views id a) (b ∷ []), total-set f views id v a at, sum)

-- and after a join
joined_total : (f : View → ℕ) (views : List View) (id other : ℕ) (v w a b : View) → get_elem? views id ≡ some v → get_elem? (set views id a) other ≡ some w
    → f a + f b ≡ f v + f w → total f (set (set views id a) other b) ≡ total f views
joined_total f views id other v w a b at there sum = omega (arith, total-set f (set views id a) other w b there, total-set f views id v a at, sum)

-- a seat without the device sums to nothing of it
free_sum : (f : Device → ℕ) → f free ≡ 0 → (v : View) → v.device ≡ free → f v.device ≡ 0
free_sum f none v off = ap f off ∙ none

-- what the file does for all seats after a cut, and after a join
split_stand : {D : Type 0} (disk : DiskOf D) (basis : Basis) (views : List View) (id : ℕ) (v : View) → v.device ≡ free → StandOn disk basis views (set views id (kept_part v) ++ split_part v ∷ [])
split_stand disk basis views id v off samples marks back all j x there = ⊎_elim
    (λ old. ⊎_elim
    (λ t. subst (λ (y : View). Stands disk basis samples marks back y.device) t.1 (stands_free disk basis samples marks back v.device (ap holds_device off)))
    (λ t. all j x t.1) (at_set views id j (kept_part v) x old))
    (λ is. subst (λ (y : View). Stands disk basis samples marks back y.device) is (stands_free disk basis samples marks back v.device (ap holds_device off)))
    (at_snoc (set views id (kept_part v)) (split_part v) x j there)

joined_stand : {D : Type 0} (disk : DiskOf D) (basis : Basis) (views : List View) (id other : ℕ) (v y : View) → v.device ≡ free → StandOn disk basis views (set (set views id (joined v y)) other spent)
joined_stand disk basis views id other v y off samples marks back all j x there = ⊎_elim
    (λ t. subst (λ (z : View). Stands disk basis samples marks back z.device) t.1 tt)
    (λ t. ⊎_elim
    (λ p. subst (λ (z : View). Stands disk basis samples marks back z.device) p.1 (stands_free disk basis samples marks back v.device (ap holds_device off)))
    (λ p. all j x p.1) (at_set views id j (joined v y) x t.1))
    (at_set (set views id (joined v y)) other j spent x there)

module _ {D V : Type 0} where
  pub splits : (disk : DiskOf D) (basis : Basis) (id : ℕ) (v : View) → v.turn ≡ idle → v.device ≡ free → Splits (Runs {D = D} {V = V} disk basis) id v (kept_part v) (split_part v)
  splits disk basis id v none_held off s run at =
      let w = run.shared in
      let know = run.seats.each id v at in
      let a = kept_part v in
      let b = split_part v in
      let same : (f : Device → ℕ) → f free ≡ 0 → total (λ (x : View). f x.device) (set s.views id a ++ b ∷ []) ≡ total (λ (x : View). f x.device) s.views =
      λ f none. split_total (λ (x : View). f x.device) s.views id v a b at (omega (arith, free_sum f none v off)) in
      record {
        shared = w;
        device = run.device;
        words = run.words;
        turns = record {
          few = run.turns.few;
          held = split_total (λ (x : View). holds_turn x.turn) s.views id v a b at (omega (arith, ap holds_turn none_held)) ∙ run.turns.held;
          taken = omega (arith, split_total (λ (x : View). x.turns) s.views id v a b at (omega arith), run.turns.taken);
          device_held = same holds_device refl ∙ run.turns.device_held;
          one_device = run.turns.one_device;
        };
        seats = record {
          once = λ n. split_total (has n) s.views id v a b at (times_parts n v.mine) ∙ run.seats.once n;
          each = λ k x there. ⊎_elim
              (λ old. ⊎_elim (λ t. subst (Knows basis w) t.1 (kept_knows basis w v none_held off know)) (λ t. run.seats.each k x t.1) (at_set s.views id k a x old))
              (λ is. subst (Knows basis w) is (split_knows basis w v none_held off know)) (at_snoc (set s.views id a) b x k there);
          only = run.seats.only;
          low = run.seats.low;
          within = run.seats.within;
        };
        slots = slots_on disk basis w s.views (set s.views id a ++ b ∷ []) s.homes (same lends_block refl) (same has_back refl) (split_stand disk basis s.views id v off) run.slots;
        marks = caused_later (AskedOf s.views) (AskedOf (set s.views id a ++ b ∷ [])) (DueOf s.views) (DueOf (set s.views id a ++ b ∷ [])) basis.terms.layouts basis.terms.block_limit w.history w.history
            (λ n is. omega (arith, split_total (asks n) s.views id v a b at (omega arith), is))
            (λ sample is. any_first (λ (x : View). IsAmong x.due sample) (set s.views id a) (b ∷ []) (any_set (λ (x : View). IsAmong x.due sample) s.views id v a at (λ it. it) is)) (prefix_self w.history) basis.begun w.marks run.marks;
      }

-- of two beginnings of one list the shorter begins the longer
shorter : {A : Type 0} (xs ys rest more : List A) → xs ++ rest ≡ ys ++ more → length xs ≤ length ys → IsPrefix xs ys
shorter [] ys rest more same less = (ys, refl)
shorter (x ∷ xs) [] rest more same less = absurd (omega (arith, less))
shorter (x ∷ xs) (y ∷ ys) rest more same less =
    let heads : x ≡ y = cc in
    let tails : xs ++ rest ≡ ys ++ more = cc in
    let later = shorter xs ys rest more tails (omega (arith, less)) in
    (later.0, ap (λ z. z ∷ (xs ++ later.0)) heads ∙ ap (λ zs. y ∷ zs) later.1)

longer_of : {A : Type 0} (xs ys zs : List A) → IsPrefix xs zs → IsPrefix ys zs → IsPrefix (longer xs ys) zs
longer_of xs ys zs first second = cond_both (nat_le (length xs) (length ys)) ys xs (λ l. IsPrefix l zs) (λ _. second) (λ _. first)

longer_first : {A : Type 0} (xs ys zs : List A) → IsPrefix xs zs → IsPrefix ys zs → IsPrefix xs (longer xs ys)
longer_first xs ys zs first second = cond_both (nat_le (length xs) (length ys)) ys xs (λ l. IsPrefix xs l)
    (λ is. shorter xs ys first.0 second.0 (first.1 ∙ sym second.1) (leb-true (length xs) (length ys) is)) (λ _. prefix_self xs)

longer_second : {A : Type 0} (xs ys zs : List A) → IsPrefix xs zs → IsPrefix ys zs → IsPrefix ys (longer xs ys)
longer_second xs ys zs first second = cond_both (nat_le (length xs) (length ys)) ys xs (λ l. IsPrefix ys l)
    (λ _. prefix_self ys) (λ is. shorter ys xs second.0 first.0 (second.1 ∙ sym first.1) (omega (arith, leb-false (length xs) (length ys) is)))

pub times-append : (n : ℕ) (xs ys : List (ℕ × List Sample)) → times_in n (xs ++ ys) ≡ times_in n xs + times_in n ys
times-append n [] ys = omega arith
times-append n (x ∷ xs) ys = omega (arith, times-append n xs ys)

own-append : (owners : List ℕ) (history : List Sample) (xs ys : List (ℕ × List Sample)) → AreOwn owners history xs → AreOwn owners history ys → AreOwn owners history (xs ++ ys)
own-append owners history [] ys first second = second
own-append owners history (x ∷ xs) ys first second = (first.0, own-append owners history xs ys first.1 second)

old-append : (seen : List Sample) (kept : List Mark) (xs ys : List (List Sample × List Mark)) → AreOld seen kept xs → AreOld seen kept ys → AreOld seen kept (xs ++ ys)
old-append seen kept [] ys first second = second
old-append seen kept (x ∷ xs) ys first second = (first.0, old-append seen kept xs ys first.1 second)

either_knows : (a b : Bool) (P : Type 0) → (a ≡ true → P) → (b ≡ true → P) → (a || b) ≡ true → P
either_knows true b P first second is = first refl
either_knows false b P first second is = second is

-- the joined seat knows what both knew
joined_knows : (basis : Basis) (w : World) (v x : View) → v.turn ≡ idle → v.device ≡ free → 0 < length v.mine → Knows basis w v → Knows basis w x → Knows basis w (joined v x)
joined_knows basis w v x none_held off some_mine know other = record {
  met = omega (arith, know.met, other.met);
  seen = longer_of v.seen x.seen w.history know.seen other.seen;
  kept = longer_of v.kept x.kept w.marks know.kept other.kept;
  from = omega (arith, know.from, other.from);
  knows = either_knows v.knows x.knows (w.stopped ≡ true) know.knows other.knows;
  mine = own-append basis.owners w.history v.mine x.mine know.mine other.mine;
  olds = (
    (longer_first v.seen x.seen w.history know.seen other.seen, longer_first v.kept x.kept w.marks know.kept other.kept),
    (
      (longer_second v.seen x.seen w.history know.seen other.seen, longer_second v.kept x.kept w.marks know.kept other.kept),
      old-append (longer v.seen x.seen) (longer v.kept x.kept) v.olds x.olds
          (old_later v.seen (longer v.seen x.seen) v.kept (longer v.kept x.kept) v.olds (longer_first v.seen x.seen w.history know.seen other.seen) (longer_first v.kept x.kept w.marks know.kept other.kept) know.olds)
          (old_later x.seen (longer v.seen x.seen) x.kept (longer v.kept x.kept) x.olds (longer_second v.seen x.seen w.history know.seen other.seen) (longer_second v.kept x.kept w.marks know.kept other.kept) other.olds),
    ),
  );
  turn = names_none w (joined v x) v.turn (ap holds_turn none_held);
  device = device_off w (joined v x) (ap holds_device off);
  basis_is = λ _. know.basis_is some_mine;
  asked = λ _. omega (arith, length-append v.mine x.mine, some_mine);
  due = λ _. omega (arith, length-append v.mine x.mine, some_mine);
}

-- what is left knows nothing
spent_knows : (basis : Basis) (w : World) → Knows basis w spent
spent_knows basis w = record {
  met = omega arith;
  seen = (w.history, refl);
  kept = (w.marks, refl);
  from = omega arith;
  knows = λ (is : false ≡ true). absurd (false≢true is);
  mine = tt;
  olds = tt;
  turn = tt;
  device = device_off w spent refl;
  basis_is = λ some_part. absurd (omega (arith, some_part));
  asked = λ some_mark. absurd (omega (arith, some_mark));
  due = λ some_due. absurd (omega (arith, some_due));
}

module _ {D V : Type 0} where
  pub joins : (disk : DiskOf D) (basis : Basis) (id : ℕ) (v : View) (other : ℕ) (x : View) → v.turn ≡ idle → x.turn ≡ idle → v.device ≡ free → x.device ≡ free → 0 < length v.mine
      → Joins (Runs {D = D} {V = V} disk basis) id v other x (joined v x) spent
  joins disk basis id v other x none_held none_there off off_there some_mine s run at apart there =
      let w = run.shared in
      let u = joined v x in
      let x_at : get_elem? s.views other ≡ some x = sym (set_else s.views id other u apart) ∙ there in
      let same : (f : Device → ℕ) → f free ≡ 0 → total (λ (y : View). f y.device) (set (set s.views id u) other spent) ≡ total (λ (y : View). f y.device) s.views =
      λ f none. joined_total (λ (y : View). f y.device) s.views id other v x u spent at there (omega (arith, none, free_sum f none x off_there)) in
      record {
        shared = w;
        device = run.device;
        words = run.words;
        turns = record {
          few = run.turns.few;
          held = joined_total (λ (y : View). holds_turn y.turn) s.views id other v x u spent at there (omega (arith, ap holds_turn none_there)) ∙ run.turns.held;
          taken = omega (arith, joined_total (λ (y : View). y.turns) s.views id other v x u spent at there (omega arith), run.turns.taken);
          device_held = same holds_device refl ∙ run.turns.device_held;
          one_device = run.turns.one_device;
        };
        seats = record {
          once = λ n. joined_total (has n) s.views id other v x u spent at there (omega (arith, times-append n v.mine x.mine)) ∙ run.seats.once n;
          each = λ k y y_at. ⊎_elim
              (λ t. subst (Knows basis w) t.1 (spent_knows basis w))
              (λ t. ⊎_elim (λ p. subst (Knows basis w) p.1 (joined_knows basis w v x none_held off some_mine (run.seats.each id v at) (run.seats.each other x x_at))) (λ p. run.seats.each k y p.1)
              (at_set s.views id k u y t.1))
              (at_set (set s.views id u) other k spent y y_at);
          only = run.seats.only;
          low = run.seats.low;
          within = run.seats.within;
        };
        slots = slots_on disk basis w s.views (set (set s.views id u) other spent) s.homes (same lends_block refl) (same has_back refl) (joined_stand disk basis s.views id other v x off) run.slots;
        marks = caused_later (AskedOf s.views) (AskedOf (set (set s.views id u) other spent)) (DueOf s.views) (DueOf (set (set s.views id u) other spent)) basis.terms.layouts basis.terms.block_limit w.history w.history
            (λ n is. omega (arith, joined_total (asks n) s.views id other v x u spent at there (omega (arith, times_of-append n v.asked x.asked)), is))
            (λ sample is. any_joined (λ (y : View). IsAmong y.due sample) s.views id other v x u spent apart at x_at
            (any_first (λ y. y ≡ sample) v.due x.due) (any_last (λ y. y ≡ sample) v.due x.due) is)
            (prefix_self w.history) basis.begun w.marks run.marks;
      }

-- how often a source stands among so many from one on
times_below : (first count n : ℕ) → n < first → times_in n (sources_from first count) ≡ 0
times_below first zero n less = refl
times_below first (suc count) n less = omega (arith, ap one_if (ne_eqb first n (λ is. omega (arith, is, less))), times_below (suc first) count n (omega (arith, less)))

times_within : (first count n : ℕ) → first ≤ n → n < first + count → times_in n (sources_from first count) ≡ 1
times_within first zero n more less = absurd (omega (arith, more, less))
times_within first (suc count) n more less = ⊎_elim
    (λ is. omega (arith, ap one_if (eq-eqb first n is), times_below (suc first) count n (omega (arith, is))))
    (λ differs. omega (arith, ap one_if (ne_eqb first n differs), times_within (suc first) count n (not_same first n more differs) (omega (arith, less)))) (cases_eq first n) where
      not_same : (a b : ℕ) → a ≤ b → a ≢ b → suc a ≤ b
      not_same a b at_most differs = ⊎_elim (λ h. omega (arith, h)) (λ h. absurd (differs (omega (arith, h, at_most)))) (cases_lt a b)

times_above : (first count n : ℕ) → first + count ≤ n → times_in n (sources_from first count) ≡ 0
times_above first zero n more = refl
times_above first (suc count) n more = omega (arith, ap one_if (ne_eqb first n (λ is. omega (arith, is, more))), times_above (suc first) count n (omega (arith, more)))

times_all : (count n : ℕ) → times_in n (sources_from 0 count) ≡ cond (nat_lt n count) 1 0
times_all count n = ⊎_elim
    (λ less. times_within 0 count n (omega arith) (omega (arith, less)) ∙ sym (cond-true (nat_lt n count) 1 0 (lt-ltb n count less)))
    (λ more. times_above 0 count n (omega (arith, more)) ∙ sym (cond-false (nat_lt n count) 1 0 (le-ltb n count more))) (cases_lt n count)

own_none : (owners : List ℕ) (first count : ℕ) → AreOwn owners [] (sources_from first count)
own_none owners first zero = tt
own_none owners first (suc count) = (refl, own_none owners (suc first) count)

-- what the first seat knows at the start
first_knows : (basis : Basis) (w : World) → w.history ≡ [] → Knows basis w (first_view basis)
first_knows basis w none_yet = record {
  met = omega arith;
  seen = (w.history, refl);
  kept = (w.marks, refl);
  from = omega arith;
  knows = λ (is : false ≡ true). absurd (false≢true is);
  mine = subst (λ h. AreOwn basis.owners h (sources_from 0 basis.sources)) (sym none_yet) (own_none basis.owners 0 basis.sources);
  olds = tt;
  turn = tt;
  device = device_off w (first_view basis) refl;
  basis_is = λ _. refl;
  asked = λ some_mark. absurd (omega (arith, some_mark));
  due = λ some_due. absurd (omega (arith, some_due));
}

only_one : (P : View → Type 0) (v : View) → P v → (k : ℕ) (x : View) → get_elem? (v ∷ []) k ≡ some x → P x
only_one P v is zero x there = subst P (some-injective v x there) is
only_one P v is (suc k) x there = absurd (some-ne-none x (sym there))

abbrev no_samples : List Sample
no_samples = []

-- a test is true or false
either_way : (b : Bool) → (b ≡ true) ⊎ (b ≡ false)
either_way true = inl refl
either_way false = inr refl

-- nothing is out to be written of halves whose front is stopped just where the file has failed
rests_of : {D : Type 0} (disk : DiskOf D) (basis : Basis) (w : World) (back : Gated D) → w.stopped ≡ back.failed → w.from ≡ durable w.marks
    → (w.stopped ≡ false → HoldsAll disk basis back (take w.from w.history)) → IsResting disk basis w back
rests_of disk basis w back stop from holds =
    ⊎_elim (λ is. inl (is, sym stop ∙ is)) (λ is. inr (is, sym from, holds is)) (either_way w.stopped)

-- the world at the start
abbrev world_of : {V : Type 0} → FrontAccount V → World
world_of front = record { word = 0; history = front.history; marks = front.marks; from = front.from; stopped = front.stopped; spare = front.spare }

module _ {D V : Type 0} where
  pub opens : (disk : DiskOf D) (basis : Basis) (front : FrontAccount V) (back : Gated D) → front.history ≡ [] → front.from ≡ 0 → durable front.marks ≡ 0 → front.spare ≡ true
      → front.terms ≡ front_part basis.terms → back_terms disk back ≡ back_part basis.terms → front.marks ≡ basis.begun → front.stopped ≡ back.failed
      → KeepsAll disk basis back front.history front.marks → (front.stopped ≡ false → HoldsAll disk basis back [])
      → Runs disk basis (opening (0 ∷ 0 ∷ []) (TheFront front ∷ TheBack back ∷ []) (first_view basis))
  opens disk basis front back none_yet from durable_none spare terms file_terms marks stop keeps holds =
      let w = world_of front in
      let empty : take front.from front.history ≡ [] = ap (take front.from) none_yet ∙ ap (λ n. take n (no_samples)) from in
      record {
        shared = w;
        device = 0;
        words = refl;
        turns = record { few = omega arith; held = refl; taken = refl; device_held = refl; one_device = omega arith };
        seats = record {
          once = λ n. omega (arith, times_all basis.sources n);
          each = only_one (Knows basis w) (first_view basis) (first_knows basis w none_yet);
          only = subst (AreOfSources basis) (sym none_yet) (All-nil _);
          low = omega (arith, durable_none);
          within = omega (arith, from);
        };
        slots = record {
          two = refl;
          spare_is = spare;
          here = λ _. record { front = front; home_is = refl; has_it = record { history = refl; marks = refl; from = refl; stopped = refl; spare = refl; terms = terms } };
          away = λ (is : 0 ≡ 1). absurd (omega (arith, is));
          back_here = λ _. record {
            back = back;
            home_is = refl;
            terms = file_terms;
            keeps = subst (λ ss. KeepsAll disk basis back ss front.marks) (none_yet ∙ sym empty) keeps;
            rests = λ _. rests_of disk basis w back stop (from ∙ sym durable_none) (λ is. subst (HoldsAll disk basis back) (sym empty) (holds is));
            stands = only_one (λ (x : View). Stands disk basis (take front.from front.history) front.marks back x.device) (first_view basis) tt;
          };
          back_away = λ (is : 0 ≡ 1). absurd (omega (arith, is));
        };
        marks = record { more = []; marks_are = marks ∙ sym (append-nil basis.begun); caused = tt };
      }

-- where no term counts the sum is nothing
total_none : (f : View → ℕ) (views : List View) → ((k : ℕ) (x : View) → get_elem? views k ≡ some x → f x ≡ 0) → total f views ≡ 0
total_none f [] none_counts = refl
total_none f (x ∷ xs) none_counts = omega (arith, none_counts 0 x refl, total_none f xs (λ k y at. none_counts (suc k) y at))

-- where only one counts it is that one
total_one : (f : View → ℕ) (views : List View) (id : ℕ) (v : View) → get_elem? views id ≡ some v → ((k : ℕ) (x : View) → k ≢ id → get_elem? views k ≡ some x → f x ≡ 0)
    → total f views ≡ f v
total_one f [] id v at none_counts = absurd (some-ne-none v (sym at))
total_one f (x ∷ xs) zero v at none_counts =
    omega (arith, ap f (some-injective x v at), total_none f xs (λ k y there. none_counts (suc k) y (λ is. omega (arith, is)) there))
total_one f (x ∷ xs) (suc id) v at none_counts =
    omega (arith, none_counts 0 x (λ is. omega (arith, is)) refl, total_one f xs id v at (λ k y apart there. none_counts (suc k) y (λ is. apart (omega (arith, is))) there))

-- a seat with a source
source_of : (mine : List (ℕ × List Sample)) → 0 < length mine → (n : ℕ) × (0 < times_in n mine)
source_of [] some_part = absurd (omega (arith, some_part))
source_of (part ∷ parts) some_part = (part.0, counts_first part.0 part.1 parts)

named_mine : (w : World) (x : View) (t : Turn) → Names w x t → (0 < length x.mine → ⊥) → holds_turn t ≡ 0
named_mine w x idle names none_there = refl
named_mine w x (holding held) names none_there = absurd (none_there names.6)

-- where one seat has all sources, the others have none
others_none : (basis : Basis) (w : World) (views : List View) (know : SeatsKnow basis w views) (id k : ℕ) (v x : View) → k ≢ id → get_elem? views id ≡ some v
    → get_elem? views k ≡ some x → ((n : ℕ) → n < basis.sources → 0 < times_in n v.mine) → 0 < length x.mine → ⊥
others_none basis w views know id k v x apart at there all some_there =
    let n = source_of x.mine some_there in
    let both = terms_le (has n.0) views id k v x apart at there in
    let mine = all n.0 (one_below n.0 basis.sources (omega (arith, both, know.once n.0, n.1))) in
    omega (arith, both, mine, n.1, once_most (nat_lt n.0 basis.sources) (total (has n.0) views) (know.once n.0))

-- who has the device has a source
some_device : (d : Device) → (holds_device d ≡ 1 → ⊥) → holds_device d ≡ 0
some_device free not_one = refl
some_device resting not_one = absurd (not_one refl)
some_device handed not_one = absurd (not_one refl)
some_device writing not_one = absurd (not_one refl)
some_device (written answer) not_one = absurd (not_one refl)
some_device (settled answer) not_one = absurd (not_one refl)

module _ {D V : Type 0} (disk : DiskOf D) (basis : Basis) (s : State (Slot D V) View) (run : Runs disk basis s) (id : ℕ) (v : View) (at : get_elem? s.views id ≡ some v)
    (all : (n : ℕ) → n < basis.sources → 0 < times_in n v.mine) where
  -- what no other seat has, that one has not
  none_then : (f : View → ℕ) → f v ≡ 0 → ((x : View) → Knows basis run.shared x → (0 < length x.mine → ⊥) → f x ≡ 0) → total f s.views ≡ 0
  none_then f none others = total_none f s.views
      (λ k x there. ⊎_elim
      (λ is. ap f (some-injective x v (sym there ∙ ap (get_elem? s.views) is ∙ at)) ∙ none)
      (λ differs. others x (run.seats.each k x there) (others_none basis run.shared s.views run.seats id k v x differs at there all)) (cases_eq k id))

  -- the front is at home then
  even_then : v.turn ≡ idle → run.shared.word % 2 ≡ 0
  even_then none_held =
      sym run.turns.held ∙ none_then (λ x. holds_turn x.turn) (ap holds_turn none_held) (λ x know none_there. named_mine run.shared x x.turn know.turn none_there)

  -- and nobody has the device
  free_then : v.device ≡ free → total (λ (x : View). holds_device x.device) s.views ≡ 0
  free_then off =
      none_then (λ x. holds_device x.device) (ap holds_device off) (λ x know none_there. some_device x.device (λ one. none_there (know.device.some_source one)))

module _ {D V : Type 0} where
  pub ends : (disk : DiskOf D) (basis : Basis) (id : ℕ) (v : View) (words : List ℕ) (slots : List (Slot D V)) → v.turn ≡ idle → v.device ≡ free
      → ((n : ℕ) → n < basis.sources → 0 < times_in n v.mine) → Final (Seen (Runs disk basis) id v) words slots → Ended disk basis v slots
  ends disk basis id v words slots none_held off all (s, (run, at), words_are, long, left) =
      let w = run.shared in
      let know = run.seats.each id v at in
      let home = run.slots.here (even_then disk basis s run id v at all none_held) in
      let has_it = home.has_it in
      let front = home.front in
      let no_device = free_then disk basis s run id v at all off in
      let no_block : blocks_out s.views ≡ 0 = omega (arith, no_device, total_less (λ (x : View). lends_block x.device) (λ (x : View). holds_device x.device) (λ (x : View). lends_less x.device) s.views) in
      let file = run.slots.back_here (omega (arith, no_device, total_less (λ (x : View). has_back x.device) (λ (x : View). holds_device x.device) (λ (x : View). back_held x.device) s.views)) in
      let rests = file.rests no_block in
      record {
        front = front;
        back = file.back;
        front_is = left 0 (TheFront front) home.home_is;
        back_is = left 1 (TheBack file.back) file.home_is;
        spare = has_it.spare ∙ run.slots.spare_is ∙ lt-ltb (blocks_out s.views) 1 (omega (arith, no_block));
        stop = ⊎_elim (λ is. has_it.stopped ∙ is.0 ∙ sym is.1) (λ is. has_it.stopped ∙ is.0 ∙ sym is.2.going) rests;
        keeps = subst (λ h. KeepsAll disk basis file.back h front.marks) (sym has_it.history) (subst (λ m. KeepsAll disk basis file.back w.history m) (sym has_it.marks)
            (keeps_on disk basis file.back (take w.from w.history) w.history w.marks (prefix_take w.from w.history) file.keeps));
        holds = λ going. ⊎_elim
            (λ is. absurd (false≢true (sym going ∙ has_it.stopped ∙ is.0)))
            (λ is. subst (λ h. HoldsAll disk basis file.back (take (durable front.marks) h)) (sym has_it.history)
            (subst (λ m. HoldsAll disk basis file.back (take (durable m) w.history)) (sym has_it.marks)
            (subst (λ n. HoldsAll disk basis file.back (take n w.history)) (sym is.1) is.2))) rests;
        front_terms = has_it.terms;
        file_terms = file.terms;
        seen = subst (λ h. IsPrefix v.seen h) (sym has_it.history) know.seen;
        kept = subst (λ m. IsPrefix v.kept m) (sym has_it.marks) know.kept;
        knows = λ is. has_it.stopped ∙ know.knows is;
        mine = subst (λ h. AreOwn basis.owners h v.mine) (sym has_it.history) know.mine;
        olds = know.olds;
        only = subst (AreOfSources basis) (sym has_it.history) run.seats.only;
        marks = subst (λ h. MarksCaused (λ n. 0 < asks n v) (IsAmong v.due) basis.terms.layouts basis.terms.block_limit h basis.begun front.marks) (sym has_it.history)
            (subst (λ m. MarksCaused (λ n. 0 < asks n v) (IsAmong v.due) basis.terms.layouts basis.terms.block_limit w.history basis.begun m) (sym has_it.marks)
            (caused_later (AskedOf s.views) (λ n. 0 < asks n v) (DueOf s.views) (IsAmong v.due) basis.terms.layouts basis.terms.block_limit w.history w.history
            (λ n is. omega (
              arith,
              is,
              total_one (asks n) s.views id v at (λ k x apart there. none_asked n x.asked
                  (λ some_mark. others_none basis w s.views run.seats id k v x apart at there all ((run.seats.each k x there).asked some_mark))),
            ))
            (λ sample is. any_only (λ (x : View). IsAmong x.due sample) s.views id v at (λ k x apart there due.
            others_none basis w s.views run.seats id k v x apart at there all ((run.seats.each k x there).due (some_among x.due sample due))) is)
            (prefix_self w.history) basis.begun w.marks run.marks));
      }
