-- Offsets that are moved one after another.
use Rattle.std.proofs.Common.{◌≡◌, ◌+◌, ◌<◌, ◌≤◌, ◌^◌, ℕ, false, List, length, Some, sym, ◌∙◌, ap, subst, arith}
use Rattle.std.proofs.lemmas.Bool.{both_ways}
use Rattle.std.specs.Prelude.{slice_get}
use borrow.Author.Count.{below_more}
use Rattle.mdf_bits.proofs.Spots.{same_number}
use Rattle.mdf_format.specs.Field.{HasBit, bit_of, covered_end}
use Rattle.mdf_layout.specs.Rule.{is_variable, spot_in}
use Rattle.mdf_layout.specs.declared.field.FieldRow.{FieldRow}
use Rattle.tool_concat.specs.Moved.{AreOffsetsMoved, IsVariableAt, offset_in, shift_of}
use Rattle.tool_concat.specs.Placed.{AreHeld, AreOffsetsPlaced}
use Rattle.tool_concat.proofs.Apart.{is_variable_of, one_row}

module _ (rows : List FieldRow) (streams : List (List ℕ)) where
  -- a channel that is not of variable length is passed over
  pub moved_past : (i : ℕ) (row : FieldRow) (old mid : List ℕ) → slice_get rows i ≡ Some row → is_variable row ≡ false
      → AreOffsetsMoved rows streams i old mid → AreOffsetsMoved rows streams (i + 1) old mid
  moved_past i row old mid there is moved = record {
    long = moved.long;
    offsets = λ k other within at.
        below_more (λ (j : ℕ). (r : FieldRow) → IsVariableAt rows j r → offset_in r mid ≡ offset_in r old + shift_of rows streams j) i
        (λ j below r var. moved.offsets j r below var)
        (λ r var. absurd (both_ways (is_variable row) is (ap is_variable (one_row rows i row r there var.there) ∙ is_variable_of r var.kind)))
        k within other at;
    others = λ p none. moved.others p (λ k other below at. none k other (omega (arith, below)) at);
  }

  module _ (n : ℕ) (placed : AreOffsetsPlaced rows n) (i : ℕ) (row : FieldRow) (here : IsVariableAt rows i row) (old mid : List ℕ) (size : length old ≡ n)
      (moved : AreOffsetsMoved rows streams i old mid) where
    inside : (k : ℕ) (other : FieldRow) → IsVariableAt rows k other → (bytes : List ℕ) → length bytes ≡ n → covered_end (spot_in other) ≤ length bytes
    inside k other at bytes long = omega (arith, (placed.placed k other at).inside, long)

    mid_size : length mid ≡ n
    mid_size = moved.long ∙ size

    -- its own offset is still that of before
    pub own_offset : offset_in row mid ≡ offset_in row old
    own_offset = same_number (spot_in row) old mid (inside i row here old size) (inside i row here mid mid_size)
        (λ p has. moved.others p (λ k other below at. placed.apart i k row other p here at (λ same. absurd (omega (arith, below, same))) has))

    pub own_held : AreHeld rows streams old → offset_in row mid + shift_of rows streams i < 2 ^ row.bits
    own_held held = subst (λ (m : ℕ). m + shift_of rows streams i < 2 ^ row.bits) (sym own_offset) (held i row here)

    -- and it is moved
    pub moved_more : (new : List ℕ) → length new ≡ length mid → offset_in row new ≡ offset_in row mid + shift_of rows streams i
        → ((p : ℕ) → ¬ HasBit (spot_in row) p → bit_of new p ≡ bit_of mid p) → AreOffsetsMoved rows streams (i + 1) old new
    moved_more new long offset others = record {
      long = long ∙ moved.long;
      offsets = λ k other within at.
          below_more (λ (j : ℕ). (r : FieldRow) → IsVariableAt rows j r → offset_in r new ≡ offset_in r old + shift_of rows streams j) i
          earlier
          (λ r var. subst (λ (q : FieldRow). offset_in q new ≡ offset_in q old + shift_of rows streams i) (one_row rows i row r here.there var.there)
          (offset ∙ ap (λ (m : ℕ). m + shift_of rows streams i) own_offset))
          k within other at;
      others = λ p none.
          others p (none i row (omega arith) here) ∙ moved.others p (λ k other below at. none k other (omega (arith, below)) at);
    }
      where
        earlier : (j : ℕ) → j < i → (r : FieldRow) → IsVariableAt rows j r → offset_in r new ≡ offset_in r old + shift_of rows streams j
        earlier j below r var =
            same_number (spot_in r) mid new (inside j r var mid mid_size) (inside j r var new (long ∙ mid_size))
            (λ p has. others p (placed.apart j i r row p var here (λ same. absurd (omega (arith, below, same))) has))
            ∙ moved.offsets j r below var
