-- Seats that are joined into one, and the book that is one again.
use Rattle.std.proofs.Common.{◌≡◌, ℕ, zero, suc, ◌<◌, Bool, false, List, [], ◌∷◌, ◌++◌, length, length-set, get_or-set_other, get_or-set_same, take, sym, ap, ◌∙◌, subst, inl, inr, ⊎_elim, arith, append_assoc, length-append}
use Rattle.std.specs.Prelude.{slice_index_or, slice_set}
use Rattle.std.proofs.lemmas.Bool.{or_left, or_right}
use Rattle.atomic_table.specs.Seated.{TableId}
use Rattle.atomic_table.specs.Table.{Final, Seen}
use Rattle.mdf_layout.specs.History.{source_samples}
use Rattle.mdf_layout.specs.declared.sample.Sample.{Sample}
use Rattle.book_owned.specs.Account.{Account}
use Rattle.book_owned.specs.Members.{DiskOf}
use Rattle.book_owned.specs.Marks.{durable}
use Rattle.book_owned.specs.BackHalf.{BackKeeps, FileHolds, back_terms}
use Rattle.book_owned.specs.FrontHalf.{FrontTerms}
use Rattle.book_owned.specs.Split.{front_part, terms_of_parts, AreHalves, book_of_halves}
use Rattle.book_owned.specs.declared.mark.Mark.{Mark}
use Rattle.book_shared.specs.Basis.{Basis, idle, free}
use Rattle.book_shared.specs.Rule.{asks, total, times_in, AreOwn, AreOld, Runs}
use Rattle.book_shared.specs.Plays.{Slot}
use Rattle.book_shared.specs.Parts.{joined}
use Rattle.book_shared.specs.Ends.{Ended}
use Rattle.book_shared.specs.Place.{Place, own_part, IsSingle}
use Rattle.book_shared.specs.Seats.{DueBy, AreOf, HasNumber, Closes}
use Rattle.book_shared.specs.Covers.{Covers, AreCovered}
use Rattle.book_shared.specs.declared.view.View.{View}
use Rattle.book_shared.specs.Causes.{IsAmong}
use Rattle.book_shared.proofs.Anys.{any_parts}
use Rattle.book_shared.proofs.Causing.{times_of-append}
use Rattle.book_shared.proofs.Lists.{counts_first, old_later, one_source}
use Rattle.book_shared.proofs.Ends.{times-append, ends}

-- where a source has a seat, there is one
pub some_seat : (number : ℕ) (seats : List Place) → HasNumber number seats → 0 < length seats
some_seat number [] has = absurd has
some_seat number (seat ∷ seats) has = omega arith

-- the lists of both, taken apart
own_left : (owners : List ℕ) (history : List Sample) (xs ys : List (ℕ × List Sample)) → AreOwn owners history (xs ++ ys) → AreOwn owners history xs
own_left owners history [] ys both = tt
own_left owners history (x ∷ xs) ys both = (both.0, own_left owners history xs ys both.1)

own_right : (owners : List ℕ) (history : List Sample) (xs ys : List (ℕ × List Sample)) → AreOwn owners history (xs ++ ys) → AreOwn owners history ys
own_right owners history [] ys both = both
own_right owners history (x ∷ xs) ys both = own_right owners history xs ys both.1

old_left : (seen : List Sample) (kept : List Mark) (xs ys : List (List Sample × List Mark)) → AreOld seen kept (xs ++ ys) → AreOld seen kept xs
old_left seen kept [] ys both = tt
old_left seen kept (x ∷ xs) ys both = (both.0, old_left seen kept xs ys both.1)

-- the list of a seat of one source
own_single : (owners : List ℕ) (history : List Sample) (number : ℕ) (parts : List (ℕ × List Sample)) (samples : List Sample) → parts ≡ (number, samples) ∷ []
    → AreOwn owners history parts → samples ≡ source_samples owners history number
own_single owners history number parts samples is own = (subst (AreOwn owners history) is own).0

times_single : (number : ℕ) (parts : List (ℕ × List Sample)) (samples : List Sample) → parts ≡ (number, samples) ∷ [] → 0 < times_in number parts
times_single number parts samples is = subst (λ ps. 0 < times_in number ps) (sym is) (counts_first number samples [])

-- a seat knows what it knows
pub covers_self : (seat : Place) → IsSingle seat.know seat.number → Covers seat.know seat
covers_self seat single = record {
  reaches = λ history marks seen kept olds. (seen, kept);
  owns = λ owners history own. own_single owners history seat.number seat.know.mine (own_part seat.know.mine) single own;
  knew = λ is. is;
  counts = times_single seat.number seat.know.mine (own_part seat.know.mine) single;
}

-- a joined seat knows what the one knew that joins it
pub covers_new : (whole : View) (seat : Place) → IsSingle seat.know seat.number → Covers (joined whole seat.know) seat
covers_new whole seat single = record {
  reaches = λ history marks seen kept olds. olds.1.0;
  owns = λ owners history own. own_single owners history seat.number seat.know.mine (own_part seat.know.mine) single (own_right owners history whole.mine seat.know.mine own);
  knew = λ is. or_right whole.knows seat.know.knows is;
  counts = omega (arith, times-append seat.number whole.mine seat.know.mine, times_single seat.number seat.know.mine (own_part seat.know.mine) single);
}

-- and of those it had covered
covers_old : (whole x : View) (seat : Place) → Covers whole seat → Covers (joined whole x) seat
covers_old whole x seat covers = record {
  reaches = λ history marks seen kept olds. covers.reaches history marks olds.0.0 olds.0.1 (old_left history marks whole.olds x.olds olds.1.1);
  owns = λ owners history own. covers.owns owners history (own_left owners history whole.mine x.mine own);
  knew = λ is. or_left whole.knows x.knows (covers.knew is);
  counts = omega (arith, times-append seat.number whole.mine x.mine, covers.counts);
}

pub all_covered : (whole x : View) (seats : List Place) → AreCovered whole seats → AreCovered (joined whole x) seats
all_covered whole x [] covered = tt
all_covered whole x (seat ∷ seats) covered = (covers_old whole x seat covered.0, all_covered whole x seats covered.1)

-- the sources of the covered seats are the whole seat's
pub numbered : (whole : View) (number : ℕ) (seats : List Place) → AreCovered whole seats → HasNumber number seats → 0 < times_in number whole.mine
numbered whole number [] covered there = absurd there
numbered whole number (seat ∷ seats) covered there = ⊎_elim (λ is. subst (λ n. 0 < times_in n whole.mine) is covered.0.counts) (λ later. numbered whole number seats covered.1 later) there

-- seats of a table, cut in two
pub of_left : (table : TableId) (xs ys : List Place) → AreOf table (xs ++ ys) → AreOf table xs
of_left table [] ys both = tt
of_left table (x ∷ xs) ys both = (both.0, of_left table xs ys both.1)

pub of_last : (table : TableId) (xs : List Place) (y : Place) → AreOf table (xs ++ y ∷ []) → y.table ≡ table
of_last table [] y both = both.0
of_last table (x ∷ xs) y both = of_last table xs y both.1

-- so far the last seats are joined into one, and these are left
pub record Gathered (table : TableId) (seats left : List Place) (whole : View) : Type 0 where
  pub calm : whole.turn ≡ idle
  pub no_device : whole.device ≡ free
  pub some_source : 0 < length whole.mine
  pub of_table : AreOf table left
  pub behind : List Place
  pub parts : seats ≡ left ++ behind
  pub covered : AreCovered whole behind
  pub asked : (n : ℕ) → asks n whole ≡ total (λ (seat : Place). asks n seat.know) behind
  pub due : (sample : Sample) → IsAmong whole.due sample → DueBy behind sample

pub gathered_first : (table : TableId) (seats left : List Place) (seat : Place) → AreOf table seats → seats ≡ left ++ seat ∷ [] → seat.know.turn ≡ idle → seat.know.device ≡ free
    → IsSingle seat.know seat.number → Gathered table seats left seat.know
gathered_first table seats left seat of_table parts calm off single = record {
  calm = calm;
  no_device = off;
  some_source = one_source seat.number seat.know.mine (own_part seat.know.mine) single;
  of_table = of_left table left (seat ∷ []) (subst (AreOf table) parts of_table);
  behind = seat ∷ [];
  parts = parts;
  covered = (covers_self seat single, tt);
  asked = λ n. omega arith;
  due = λ sample is. inl is;
}

pub gathered_on : (table : TableId) (seats left left' : List Place) (whole : View) (seat : Place) → Gathered table seats left whole → left ≡ left' ++ seat ∷ [] → IsSingle seat.know seat.number
    → Gathered table seats left' (joined whole seat.know)
gathered_on table seats left left' whole seat gathered parts single = record {
  calm = gathered.calm;
  no_device = gathered.no_device;
  some_source = omega (arith, length-append whole.mine seat.know.mine, gathered.some_source);
  of_table = of_left table left' (seat ∷ []) (subst (AreOf table) parts gathered.of_table);
  behind = seat ∷ gathered.behind;
  parts = gathered.parts ∙ ap (λ ls. ls ++ gathered.behind) parts ∙ append_assoc left' (seat ∷ []) gathered.behind;
  covered = (covers_new whole seat single, all_covered whole seat.know gathered.behind gathered.covered);
  asked = λ n. omega (arith, times_of-append n whole.asked seat.know.asked, gathered.asked n);
  due = λ sample is. ⊎_elim (λ before. inr (gathered.due sample before)) (λ here. inl here) (any_parts (λ x. x ≡ sample) whole.due seat.know.due is);
}

-- two places that were taken are not filled
pub both_taken : (filled : List Bool) → 1 < length filled → (k : ℕ) → k < 2 → slice_index_or (slice_set (slice_set filled 0 false) 1 false) k false ≡ false
both_taken filled long zero less = get_or-set_other (slice_set filled 0 false) 1 0 false false (λ is. omega (arith, is)) ∙ get_or-set_same filled 0 false false (omega (arith, long))
both_taken filled long (suc zero) less = get_or-set_same (slice_set filled 0 false) 1 false false (omega (arith, length-set filled 0 false, long))
both_taken filled long (suc (suc k)) less = absurd (omega (arith, less))

-- The halves that lie in the slots at the end.
module _ {D V : Type 0} (disk : DiskOf D) (basis : Basis) (whole : View) (slots : List (Slot D V)) (ended : Ended disk basis whole slots) where
  pub are_halves : AreHalves disk ended.front ended.back
  are_halves = record {
    spare = ended.spare;
    stop = ended.stop;
    keeps = subst (λ (t : FrontTerms). BackKeeps disk t.layouts ended.back ended.front.history ended.front.marks) (sym ended.front_terms) ended.keeps;
    holds = λ going. subst (λ (t : FrontTerms). FileHolds disk t.layouts t.block_limit ended.back (take (durable ended.front.marks) ended.front.history))
        (sym ended.front_terms) (ended.holds going);
  }

  -- their book
  abbrev pub ended_book : Account D V
  ended_book = book_of_halves disk ended.front ended.back

  pub ended_terms : ended_book.terms ≡ basis.terms
  ended_terms = ap (λ t. terms_of_parts t (back_terms disk ended.back)) ended.front_terms ∙ ap (terms_of_parts (front_part basis.terms)) ended.file_terms

  pub closes : (seats : List Place) → AreCovered whole seats → Closes basis ended_book seats
  closes [] covered = tt
  closes (seat ∷ seats) covered =
      let old = old_later whole.seen ended.front.history whole.kept ended.front.marks whole.olds ended.seen ended.kept ended.olds in
      let reached = covered.0.reaches ended.front.history ended.front.marks ended.seen ended.kept old in (
        record {
          seen = reached.0;
          kept = reached.1;
          knows = λ is. sym ended.stop ∙ ended.knows (covered.0.knew is);
          mine = covered.0.owns basis.owners ended.front.history ended.mine;
        },
        closes seats covered.1,
      )

-- where the seats have all sources
pub finished : {D V : Type 0} (disk : DiskOf D) (basis : Basis) (id : ℕ) (whole : View) (words : List ℕ) (slots : List (Slot D V)) (seats : List Place) → whole.turn ≡ idle → whole.device ≡ free
    → AreCovered whole seats → ((number : ℕ) → number < basis.sources → HasNumber number seats) → Final (Seen (Runs disk basis) id whole) words slots → Ended disk basis whole slots
finished disk basis id whole words slots seats calm off covered all final =
    ends disk basis id whole words slots calm off (λ number less. numbered whole number seats covered (all number less)) final
