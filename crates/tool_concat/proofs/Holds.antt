-- Where no channel is too wide, each record of a group can be moved.
use Rattle.std.proofs.Common.{◌≡◌, ◌+◌, ◌^◌, inl, inr, ℕ, false, List, Some, sym, ◌∙◌, ap, subst}
use Rattle.std.proofs.lemmas.Bool.{both_ways, cases_lt}
use Rattle.std.specs.Prelude.{slice_get}
use Rattle.mdf_layout.specs.Rule.{is_variable}
use Rattle.mdf_layout.specs.declared.field.FieldRow.{FieldRow}
use Rattle.mdf_layout.specs.Layout.{Layout}
use Rattle.mdf_model.specs.declared.part.Measure.{Measure}
use Rattle.tool_concat.specs.Moved.{AreMoved, offset_in, shift_of}
use Rattle.tool_concat.specs.Placed.{AreAllHeld}
use Rattle.tool_concat.specs.Wide.{HasPast, IsNoneWide, IsWide, data_at}
use Rattle.tool_concat.proofs.Apart.{is_variable_of, one_row}

all_held : (layout : Layout) (content : List ℕ) (count : ℕ) (streams : List (List ℕ)) → ((k : ℕ) → ¬ IsWide layout content count streams k)
    → AreAllHeld layout streams content count
all_held layout content count streams none i below k row is =
    elim (cases_lt (offset_in row (data_at layout content i) + shift_of layout.rows streams k) (2 ^ row.bits)) [
      | inl held ↦ held
      | inr past ↦ absurd (none k (record { row = row; variable = is; past = record { i = i; within = below; past = past } }))
    ]

module _ (layout : Layout) (content : List ℕ) (count : ℕ) (streams : List (List ℕ)) (i : ℕ) (row : FieldRow) where
  -- a channel that is not of variable length is not too wide
  pub none_here : slice_get layout.rows i ≡ Some row → is_variable row ≡ false → ¬ IsWide layout content count streams i
  none_here there is wide =
      both_ways (is_variable row) is (ap is_variable (one_row layout.rows i row wide.row there wide.variable.there) ∙ is_variable_of wide.row wide.variable.kind)

  -- nor is one where no record is
  pub held_here : (shift : ℕ) → slice_get layout.rows i ≡ Some row → shift ≡ shift_of layout.rows streams i → ¬ HasPast layout content count row shift
      → ¬ IsWide layout content count streams i
  held_here shift there is none wide =
      none (subst (λ (n : ℕ). HasPast layout content count row n) (sym is)
      (subst (λ (r : FieldRow). HasPast layout content count r (shift_of layout.rows streams i)) (sym (one_row layout.rows i row wide.row there wide.variable.there)) wide.past))

-- what is said of parts is said of equal ones
pub by_parts : (P : Layout → List ℕ → ℕ → List (List ℕ) → Type 0) (layout other : Layout) (content others : List ℕ) (count many : ℕ) (streams behind : List (List ℕ))
    → layout ≡ other → content ≡ others → count ≡ many → streams ≡ behind → P layout content count streams → P other others many behind
by_parts P layout other content others count many streams behind a b c d is =
    subst (λ (s : List (List ℕ)). P other others many s) d
    (subst (λ (n : ℕ). P other others n streams) c
    (subst (λ (bytes : List ℕ). P other bytes count streams) b
    (subst (λ (l : Layout). P l content count streams) a is)))

module _ (one other : Measure) (layout : Layout) (content : List ℕ) (count : ℕ) (streams : List (List ℕ)) (same_layout : layout ≡ other.shape)
    (same_content : content ≡ other.part.content) (same_count : count ≡ other.count) (same_streams : streams ≡ one.part.streams) where
  pub parts_held : IsNoneWide one other → AreAllHeld layout streams content count
  parts_held none =
      by_parts (λ (l : Layout) (bytes : List ℕ) (n : ℕ) (s : List (List ℕ)). AreAllHeld l s bytes n)
      other.shape layout other.part.content content other.count count one.part.streams streams
      (sym same_layout) (sym same_content) (sym same_count) (sym same_streams)
      (all_held other.shape other.part.content other.count one.part.streams none)

  pub parts_moved : (moved : List ℕ) → AreMoved layout streams content count moved → AreMoved other.shape one.part.streams other.part.content other.count moved
  parts_moved moved are =
      by_parts (λ (l : Layout) (bytes : List ℕ) (n : ℕ) (s : List (List ℕ)). AreMoved l s bytes n moved)
      layout other.shape content other.part.content count other.count streams one.part.streams
      same_layout same_content same_count same_streams are
