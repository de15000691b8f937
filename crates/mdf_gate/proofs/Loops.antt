-- The loop from gate to gate: the units so far, with what the rest gives.
use Rattle.std.proofs.Common.{◌≡◌, ◌+◌, ◌<◌, ◌≤◌, ℕ, zero, suc, true, false, List, [], ◌∷◌, ◌++◌, length, Option, Ok, Err, refl, sym, ◌∙◌, ap, subst, arith, append_assoc, append-nil, length-append}
use Rattle.std.proofs.lemmas.List.Sums.{sum_by_push}
use Rattle.mdf_format.specs.Number.{aligned}
use Rattle.mdf_format.specs.declared.form.Form.{Form}
use Rattle.mdf_num.specs.declared.halt.Halt.{Halt}
use Rattle.mdf_num.specs.declared.halt.Halt.TheVariants as halts
use Rattle.mdf_block.specs.declared.place.BlockAt.{BlockAt}
use Rattle.mdf_block.specs.Refusal.{Refusal, Read, ◌>>=◌, Halts, Refuses}
use Rattle.mdf_block.proofs.Refusals.{halts_then}
use Rattle.mdf_stream.specs.declared.part.Part.{Part}
use Rattle.mdf_stream.specs.Link.{part_of}
use Rattle.mdf_stream.specs.Parts.{stream_size}
use Rattle.mdf_gate.specs.Fault.{gate_refusal}
use Rattle.mdf_gate.specs.Scan.{AreCounted, place_after}
use Rattle.mdf_gate.specs.declared.answer.GateFault.{GateFault}
use Rattle.mdf_gate.specs.declared.answer.Opened.{Opened}
use Rattle.mdf_gate.specs.Units.{is_open, opened_from, place_behind, unit}

-- parts in front of those that are read
abbrev pub with_parts : List Part → Read (List Part) → Read (List Part)
with_parts parts read = read >>= λ rest. Ok (parts ++ rest)

with_none : (read : Read (List Part)) → with_parts [] read ≡ read
with_none (Ok x) = refl
with_none (Err refusal) = refl

front_moves : (parts : List Part) (x : Part) (read : Read (List Part)) → with_parts parts (read >>= λ rest. Ok (x ∷ rest)) ≡ with_parts (parts ++ x ∷ []) read
front_moves parts x (Ok rest) = ap (λ (xs : List Part). Ok xs) (sym (append_assoc parts (x ∷ []) rest))
front_moves parts x (Err refusal) = refl

-- the units from a place on, behind these, are the whole; as many may come as the file has bytes from there
pub record Opens (form : Form) (file : List ℕ) (parts : List Part) (place : ℕ) (whole : Read (List Part)) : Type 0 where
  pub most : ℕ
  pub enough : length file ≤ place + most
  pub is : with_parts parts (opened_from form file most place) ≡ whole

-- an open place lies inside the file
open_inside : (file : List ℕ) (place : ℕ) → is_open file place ≡ true → place < length file
open_inside [] zero is_opened = cc
open_inside [] (suc place) is_opened = cc
open_inside (byte ∷ file) zero is_opened = omega arith
open_inside (byte ∷ file) (suc place) is_opened = let below : place < length file = open_inside file place is_opened in omega (arith, below)

module _ (form : Form) (file : List ℕ) where
  -- the loop begins
  pub begins : (first : ℕ) → Opens form file [] first (opened_from form file (length file) first)
  begins first = record { most = length file; enough = omega arith; is = with_none (opened_from form file (length file) first) }

  closed : (most place : ℕ) → is_open file place ≡ false → opened_from form file most place ≡ Ok []
  unfolding opened_from
  closed zero place is_closed = refl
  closed (suc most) place is_closed = rw is_closed refl

  -- a closed place ends it
  pub is_done : (parts : List Part) (place : ℕ) (whole : Read (List Part)) → is_open file place ≡ false → Opens form file parts place whole → whole ≡ Ok parts
  is_done parts place whole is_closed opens =
      sym opens.is ∙ ap (with_parts parts) (closed opens.most place is_closed) ∙ ap (λ (xs : List Part). Ok xs) (append-nil parts)

  opened : (most place : ℕ) → is_open file place ≡ true
      → opened_from form file (suc most) place ≡ (unit form file place >>= λ b. opened_from form file most (place_behind b) >>= λ rest. Ok (part_of b ∷ rest))
  unfolding opened_from
  opened most place is_opened = rw is_opened refl

  -- an open place has a unit of those that may come
  one_more : (most place : ℕ) → is_open file place ≡ true → length file ≤ place + most → (less : ℕ) × (most ≡ suc less)
  one_more zero place is_opened enough = let below : place < length file = open_inside file place is_opened in absurd (omega (arith, below, enough))
  one_more (suc less) place is_opened enough = (less, refl)

  -- one more was found
  pub goes_on : (parts : List Part) (place : ℕ) (whole : Read (List Part)) (b : BlockAt) → is_open file place ≡ true
      → unit form file place ≡ Ok b → place < place_behind b → Opens form file parts place whole → Opens form file (parts ++ part_of b ∷ []) (place_behind b) whole
  goes_on parts place whole b is_opened found later opens =
      let more = one_more opens.most place is_opened opens.enough in
      record {
        most = more.0;
        enough =
            let is : opens.most ≡ suc more.0 = more.1 in
            let enough : length file ≤ place + opens.most = opens.enough in omega (arith, is, enough, later);
        is =
            sym (front_moves parts (part_of b) (opened_from form file more.0 (place_behind b)))
            ∙ ap (λ (read : Read BlockAt). with_parts parts (read >>= λ b. opened_from form file more.0 (place_behind b) >>= λ rest. Ok (part_of b ∷ rest))) (sym found)
            ∙ ap (with_parts parts) (sym (opened more.0 place is_opened))
            ∙ ap (λ (most : ℕ). with_parts parts (opened_from form file most place)) (sym more.1)
            ∙ opens.is;
      }

  -- there is none at an open place
  pub ends : {E : Type 0} (refusal : E → Option Refusal) (halt : Halt E) (parts : List Part) (place : ℕ) (whole : Read (List Part))
      → is_open file place ≡ true → Halts refusal halt (unit form file place) → Opens form file parts place whole → Halts refusal halt whole
  ends refusal halt parts place whole is_opened halted opens =
      let more = one_more opens.most place is_opened opens.enough in
      let first : Halts refusal halt (opened_from form file (suc more.0) place) =
      subst (Halts refusal halt) (sym (opened more.0 place is_opened))
      (halts_then refusal halt (unit form file place) (λ b. opened_from form file more.0 (place_behind b) >>= λ rest. Ok (part_of b ∷ rest)) halted) in
      let second : Halts refusal halt (opened_from form file opens.most place) =
      subst (λ (most : ℕ). Halts refusal halt (opened_from form file most place)) (sym more.1) first in
      subst (Halts refusal halt) opens.is (halts_then refusal halt (opened_from form file opens.most place) (λ rest. Ok (parts ++ rest)) second)

after_more : (place : ℕ) (parts : List Part) (b : BlockAt) → place_after place (parts ++ part_of b ∷ []) ≡ place_behind b
unfolding place_after
after_more place [] b = refl
after_more place (part ∷ parts) b = after_more (aligned (part.at + part.len)) parts b

-- what a scan that has come to a place knows: the units behind it, counted
pub record HasCome (form : Form) (file : List ℕ) (first place blocks bytes : ℕ) : Type 0 where
  pub parts : List Part
  pub opens : Opens form file parts place (opened_from form file (length file) first)
  pub number : blocks ≡ length parts
  pub total : bytes ≡ stream_size parts
  pub last : place ≡ place_after first parts

module _ (form : Form) (file : List ℕ) (first : ℕ) where
  pub has_come : HasCome form file first first 0 0
  unfolding place_after
  has_come = record { parts = []; opens = begins form file first; number = refl; total = refl; last = refl }

  module _ (place blocks bytes : ℕ) (come : HasCome form file first place blocks bytes) where
    pub comes_further : (b : BlockAt) → is_open file place ≡ true → unit form file place ≡ Ok b → place < place_behind b
        → HasCome form file first (place_behind b) (blocks + 1) (bytes + b.body_len)
    comes_further b is_opened found later = record {
      parts = come.parts ++ part_of b ∷ [];
      opens = goes_on form file come.parts place (opened_from form file (length file) first) b is_opened found later come.opens;
      number = omega (arith, come.number, length-append come.parts (part_of b ∷ []));
      total = ap (λ (n : ℕ). n + b.body_len) come.total ∙ sym (sum_by_push (λ (part : Part). part.len) come.parts (part_of b));
      last = sym (after_more first come.parts b);
    }

    pub comes_to_end : (count : Opened) → count.first ≡ first → count.next ≡ place → count.blocks ≡ blocks → count.bytes ≡ bytes
        → is_open file place ≡ false → AreCounted form file first count
    comes_to_end count from next number total is_closed = record {
      parts = come.parts;
      found = is_done form file come.parts place (opened_from form file (length file) first) is_closed come.opens;
      from = from;
      number = number ∙ come.number;
      total = total ∙ come.total;
      next = next ∙ come.last;
    }

    pub stuck : (fault : GateFault) → is_open file place ≡ true → Refuses (gate_refusal fault) (unit form file place)
        → Refuses (gate_refusal fault) (opened_from form file (length file) first)
    stuck fault is_opened refused =
        ends form file gate_refusal (halts.Fault fault) come.parts place (opened_from form file (length file) first) is_opened refused come.opens
