-- Records of channels of which none is of variable length are moved as they are.
use Rattle.std.proofs.Common.{◌≡◌, ◌+◌, ◌*◌, ℕ, zero, suc, List, length, take, refl, sym, ◌∙◌, ap, subst, arith}
use Rattle.std.proofs.Math.Seq.{take-add}
use Rattle.std.proofs.lemmas.List.{take_all, take-append-drop}
use Rattle.mdf_content.specs.Samples.{record_at}
use Rattle.mdf_layout.specs.Layout.{Layout, record_size}
use Rattle.tool_concat.specs.Moved.{AreMoved, HasNoOffsets, IsMoved}

one_moved : (layout : Layout) (streams : List (List ℕ)) (bytes : List ℕ) → HasNoOffsets layout.rows → IsMoved layout streams bytes bytes
one_moved layout streams bytes none = record {
  front = take layout.data_bytes bytes;
  is = sym (take-append-drop layout.data_bytes bytes);
  moved = record { long = refl; offsets = λ k row below is. absurd (none k row is); others = λ p none. refl };
}

next_end : (n size : ℕ) → n * size + size ≡ suc n * size
next_end n size = grind arith

pub first_moved : (layout : Layout) (streams : List (List ℕ)) (content : List ℕ) (n : ℕ) → HasNoOffsets layout.rows
    → AreMoved layout streams content n (take (n * record_size layout) content)
unfolding AreMoved
first_moved layout streams content zero none = ap (λ (m : ℕ). take m content) (let no : 0 * record_size layout ≡ 0 = omega arith in no)
first_moved layout streams content (suc n) none =
    let size = record_size layout in (
      take (n * size) content,
      record_at layout content n,
      ap (λ (m : ℕ). take m content) (sym (next_end n size)) ∙ take-add (n * size) size content,
      first_moved layout streams content n none,
      one_moved layout streams (record_at layout content n) none,
    )

-- all of them
pub all_moved : (layout : Layout) (streams : List (List ℕ)) (content : List ℕ) (n : ℕ) → HasNoOffsets layout.rows
    → length content ≡ n * record_size layout → AreMoved layout streams content n content
all_moved layout streams content n none long =
    subst (λ (bytes : List ℕ). AreMoved layout streams content n bytes) (take_all (n * record_size layout) content (omega (arith, long)))
    (first_moved layout streams content n none)
