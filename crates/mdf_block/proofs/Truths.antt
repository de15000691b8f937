-- Refusals that hold: of a step, of steps one after another, of chains and of loops over numbers.
use Rattle.std.proofs.Common.{◌≡◌, ◌+◌, ◌≤◌, ◌<◌, ℕ, zero, suc, Bool, true, false, cond, List, [], ◌∷◌, length, Option, Some, None, Ok, Err, refl, sym, subst, inl, inr, arith}
use Rattle.std.specs.Prelude.{IfSome}
use Rattle.mdf_format.specs.Block.{IsBlock}
use Rattle.mdf_format.specs.declared.kind.Kind.{Kind}
use Rattle.mdf_block.specs.declared.what.What.{What}
use Rattle.mdf_block.specs.declared.what.What.TheVariants as whats
use Rattle.mdf_block.specs.declared.note.Note.{Note}
use Rattle.mdf_block.specs.declared.note.Note.TheVariants as notes
use Rattle.mdf_block.specs.Refusal.{Refusal, Bad, Compressed, TooMany, Read, ◌>>=◌, Fails}
use Rattle.mdf_block.specs.Block.{is_block, is_compressed, the_block, block}
use Rattle.mdf_block.specs.Text.{note, note_size, IsNote, LacksNote}
use Rattle.mdf_block.specs.Chain.{Step, chain, full, AreAlong}
use Rattle.mdf_block.specs.Each.{each}
use Rattle.mdf_block.specs.Limit.{AreBefore}
use Rattle.mdf_block.specs.Truth.{LacksBlock, IsCounted, IsPast, IsTrueOf}
use Rattle.mdf_block.proofs.Refusals.{bind_err}
use Rattle.mdf_block.proofs.Chains.{GoesAlong, chain_stops_behind}
use Rattle.mdf_block.proofs.Wholes.{is_compressed_true, not_block, block_found}
use Rattle.mdf_block.proofs.Notes.{note_lacks}

-- each refusal of what is read has this property
pub record Refusing {A : Type 0} (P : Refusal → Type 0) (read : Read A) : Type 0 where
  pub tells : (refusal : Refusal) → read ≡ Err refusal → P refusal

-- what is found refuses nothing
pub refusing_none : {A : Type 0} (P : Refusal → Type 0) (x : A) → Refusing P (Ok x)
refusing_none {A} P x = record { tells = λ refusal is. let wrong : ◌≡◌ {A = Read A} (Ok x) (Err refusal) = is in cc }

-- a refusal that has the property
pub refusing_one : {A : Type 0} (P : Refusal → Type 0) (refusal : Refusal) → P refusal → Refusing {A = A} P (Err refusal)
refusing_one {A} P refusal holds = record {
  tells = λ other is.
      let whole : ◌≡◌ {A = Read A} (Err refusal) (Err other) = is in
      let same : refusal ≡ other = cc in subst P same holds;
}

-- one step after another
pub refusing_then : {A B : Type 0} (P : Refusal → Type 0) (read : Read A) (next : A → Read B) → Refusing P read
    → ((x : A) → read ≡ Ok x → Refusing P (next x)) → Refusing P (read >>= next)
refusing_then P read next first second = record {
  tells = λ refusal is. elim (bind_err read next refusal is) [
    | inl stops ↦ first.tells refusal stops
    | inr goes ↦ (second goes.0 goes.1).tells refusal goes.2
  ];
}

-- one of two ways
pub refusing_if : {A : Type 0} (P : Refusal → Type 0) (b : Bool) (x y : Read A) → (b ≡ true → Refusing P x)
    → (b ≡ false → Refusing P y) → Refusing P (cond b x y)
refusing_if P b x y =
    elim b as (λ way. (way ≡ true → Refusing P x) → (way ≡ false → Refusing P y) → Refusing P (cond way x y)) [
      | true ↦ λ first second. first refl
      | false ↦ λ first second. second refl
    ]

-- what has another property
pub refusing_as : {A : Type 0} (P Q : Refusal → Type 0) (read : Read A) → ((refusal : Refusal) → P refusal → Q refusal)
    → Refusing P read → Refusing Q read
refusing_as P Q read turn is = record { tells = λ refusal refused. turn refusal (is.tells refusal refused) }

-- items along links, each with what is known of those before it, and the one that is too many
pub refusing_behind : {A S : Type 0} (P : Refusal → Type 0) (f : List ℕ) (kind : Kind) (step : Step A S) (full_at : ℕ → Read (List A × ℕ × S))
    → GoesAlong f kind step → (Between : S → List ℕ → S → Type 0) → ((left : S) → Between left [] left)
    → ((at : ℕ) (left : S) (x : A) (next : ℕ) (rest : S) (places : List ℕ) (last : S) → step at left ≡ Ok (x, next, rest)
    → Between rest places last → Between left (at ∷ places) last)
    → (room first : ℕ) (left : S)
    → ((places : List ℕ) (at : ℕ) (rest : S) → AreAlong f kind first places at → Between left places rest → Refusing P (step at rest))
    → ((places : List ℕ) (at : ℕ) (rest : S) → AreAlong f kind first places at → Between left places rest → length places ≡ room
    → Refusing P (full_at at))
    → Refusing P (chain step full_at room first left)
refusing_behind P f kind step full_at goes_on Between none more room first left steps past = record {
  tells = λ refusal is.
      let stops = chain_stops_behind f kind step full_at goes_on Between none more refusal room first left is in
      elim stops.why [
        | inl refused ↦ (steps stops.places stops.last stops.rest stops.along stops.between).tells refusal refused.1
        | inr refused ↦ (past stops.places stops.last stops.rest stops.along stops.between refused.0).tells refusal refused.1
      ];
}

-- the same where nothing is known but how many they are
pub refusing_past : {A S : Type 0} (P : Refusal → Type 0) (f : List ℕ) (kind : Kind) (step : Step A S) (full_at : ℕ → Read (List A × ℕ × S))
    → GoesAlong f kind step → ((at : ℕ) (left : S) → Refusing P (step at left)) → (room first : ℕ)
    → ((at : ℕ) → AreBefore f kind [] first room at → Refusing P (full_at at)) → (left : S) → Refusing P (chain step full_at room first left)
unfolding AreBefore
refusing_past {A} {S} P f kind step full_at goes_on steps room first past left =
    refusing_behind P f kind step full_at goes_on (λ (before : S) places (after : S). Unit {0}) (λ before. tt)
    (λ at before x next rest places last found behind. tt) room first left
    (λ places at rest along known. steps at rest) (λ places at rest along known many. past at (places, along, many))

-- items by their numbers, of which each lies in a range, with what is known of a number and of what is left there
pub refusing_range : {A S : Type 0} (P : Refusal → Type 0) (item : ℕ → S → Read (A × S)) (Known : ℕ → S → Type 0)
    → ((j : ℕ) (before : S) (x : A) (rest : S) → item j before ≡ Ok (x, rest) → Known j before → Known (j + 1) rest) → (k count : ℕ) (left : S)
    → Known k left → ((j : ℕ) (rest : S) → k ≤ j → j < k + count → Known j rest → Refusing P (item j rest)) → Refusing P (each item k count left)
unfolding each
refusing_range P item Known keeps k zero left known items = refusing_none P ([], left)
refusing_range P item Known keeps k (suc count) left known items =
    refusing_then P (item k left) (λ found. each item (k + 1) count found.1 >>= λ rest. Ok (found.0 ∷ rest.0, rest.1))
    (items k left (omega arith) (omega arith) known)
    (λ found is. refusing_then P (each item (k + 1) count found.1) (λ rest. Ok (found.0 ∷ rest.0, rest.1))
    (refusing_range P item Known keeps (k + 1) count found.1 (keeps k left found.0 found.1 is known)
    (λ j rest above below there. items j rest (omega (arith, above)) (omega (arith, below)) there))
    (λ rest _. refusing_none P (found.0 ∷ rest.0, rest.1)))

-- a block that does not stand
pub block_true : (f : List ℕ) (at : ℕ) (kind : Kind) → ((IsBlock f at kind → ⊥) → LacksBlock f at kind)
    → Refusing (IsTrueOf f) (block f at kind)
unfolding block
block_true f at kind lacks =
    refusing_if (IsTrueOf f) (is_compressed f at kind) (Err (Compressed at))
    (cond (is_block f at kind) (Ok (the_block f at kind)) (Err (Bad at kind)))
    (λ packed. refusing_one (IsTrueOf f) (Compressed at) (kind, is_compressed_true f at kind packed))
    (λ _. refusing_if (IsTrueOf f) (is_block f at kind) (Ok (the_block f at kind)) (Err (Bad at kind))
    (λ _. refusing_none (IsTrueOf f) (the_block f at kind))
    (λ none. refusing_one (IsTrueOf f) (Bad at kind) (lacks (not_block f at kind none))))

-- a block past the count
pub full_true : {A : Type 0} (what : What) (f : List ℕ) (kind : Kind) (at : ℕ) → ((IsBlock f at kind → ⊥) → LacksBlock f at kind)
    → (IsBlock f at kind → IsCounted f what at) → IsPast f what at → Refusing (IsTrueOf f) (full {A = A} what kind f at)
unfolding full
full_true what f kind at lacks counted past =
    refusing_then (IsTrueOf f) (block f at kind) (λ _. Err (TooMany what at)) (block_true f at kind lacks)
    (λ b found. refusing_one (IsTrueOf f) (TooMany what at) (counted (block_found f at kind b found).0, past))

-- a text that is too long is one
is_text : (f : List ℕ) (at left : ℕ) (found : Note) → IsNote f at found → left < note_size found → IsCounted f whats.Text at
is_text f at left notes.Nothing is long = absurd (omega (arith, long))
is_text f at left (notes.Plain bytes) is long = inl is.1
is_text f at left (notes.Xml bytes) is long = inr is.1

-- a text that is missing, or too long
lacks_true : (f : List ℕ) (at left : ℕ) (refusal : Refusal) → LacksNote f at left refusal → IsTrueOf f refusal
lacks_true f at left refusal (inl none) = subst (IsTrueOf f) (sym none.0) (none.2, none.3)
lacks_true f at left refusal (inr long) = subst (IsTrueOf f) (sym long.0) (is_text f at left long.1.0 long.1.1 long.1.2, tt)

pub note_true : (f : List ℕ) (at left : ℕ) → Refusing (IsTrueOf f) (note f at left)
note_true f at left = record { tells = λ refusal refused. lacks_true f at left refusal (note_lacks f at left refusal refused) }

-- a fault of a reader of bytes has the property of the refusals
pub fails_with : {A : Type 0} (P : Refusal → Type 0) (fault : Option Refusal) (read : Read A) → Refusing P read → Fails fault read
    → IfSome fault P
fails_with P None read is failed = tt
fails_with P (Some refusal) read is failed = is.tells refusal failed
