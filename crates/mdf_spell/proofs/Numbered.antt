-- Groups to be recorded and groups of values, placed one behind the other, and links to blocks in a row.
use Rattle.std.proofs.Common.{◌≡◌, ◌+◌, ◌-◌, ◌<◌, ◌≤◌, ℕ, zero, suc, Bool, true, false, List, [], ◌∷◌, ◌++◌, length, drop, refl, sym, ◌∙◌, ap, inl, inr, arith, append-nil, append_assoc, length-drop}
use Rattle.std.proofs.lemmas.Bool.{ltb-true, ltb-false, or_cases, or_parts}
use Rattle.std.proofs.lemmas.List.{drop_all}
use Rattle.std.specs.Prelude.{◌||◌, nat_lt}
use Rattle.mdf_format.specs.declared.kind.Kind.TheVariants.{Cg}
use Rattle.mdf_block.specs.declared.link.Link.{Link}
use Rattle.mdf_block.specs.declared.link.Link.TheVariants as links
use Rattle.mdf_block.specs.Draft.{Placed, linked}
use Rattle.mdf_group.specs.declared.row.GroupRow.{GroupRow}
use Rattle.mdf_tree.specs.Text.{note_blocks, note_link}
use Rattle.mdf_tree.specs.Group.{source_part, source_link, next_link, next_if, channels_blocks, past_group, past_channels, group_body, group_blocks, groups_blocks}
use Rattle.mdf_spell.specs.Recording.{numbered, values_row, values_rows, block_links}

-- groups to be recorded, and groups of values behind them
next_both : (more : Bool) (m id from count : ℕ) (rows : List GroupRow) → (more ≡ true → 0 < length rows + count) → (more ≡ false → length rows + count ≡ 0)
    → next_if more m ≡ next_link m (numbered id rows ++ values_rows from count)
unfolding numbered values_rows
next_both true m id from zero [] on off = absurd (omega (arith, on refl))
next_both true m id from (suc count) [] on off = refl
next_both true m id from count (row ∷ rows) on off = refl
next_both false m id from zero [] on off = refl
next_both false m id from (suc count) [] on off = absurd (omega (arith, off refl))
next_both false m id from count (row ∷ rows) on off = absurd (omega (arith, off refl))

pub next_group : (more : Bool) (m i id from count : ℕ) (rows : List GroupRow) → more ≡ (nat_lt i (length rows) || nat_lt 0 count)
    → next_if more m ≡ next_link m (numbered id (drop i rows) ++ values_rows from count)
next_group more m i id from count rows is =
    next_both more m id from count (drop i rows)
    (λ e. elim (or_cases (nat_lt i (length rows)) (nat_lt 0 count) (sym is ∙ e)) [
      | inl below ↦ omega (arith, ltb-true i (length rows) below, length-drop i rows)
      | inr some ↦ omega (arith, ltb-true 0 count some)
    ])
    (λ e.
    let parts = or_parts (nat_lt i (length rows)) (nat_lt 0 count) (sym is ∙ e) in
    omega (arith, ltb-false i (length rows) parts.0, ltb-false 0 count parts.1, length-drop i rows))

pub numbered_more : (id : ℕ) (rows : List GroupRow) (i : ℕ) (row : GroupRow) → drop i rows ≡ row ∷ drop (i + 1) rows
    → numbered id (drop i rows) ≡ record row { id = id; cycles = 0 } ∷ numbered (id + 1) (drop (i + 1) rows)
unfolding numbered
numbered_more id rows i row cut = ap (λ (left : List GroupRow). numbered id left) cut

pub numbered_done : (id : ℕ) (rows : List GroupRow) (i : ℕ) → length rows ≤ i → numbered id (drop i rows) ≡ []
unfolding numbered
numbered_done id rows i past = ap (λ (left : List GroupRow). numbered id left) (drop_all i rows past)

-- groups of values take no links to values
pub values_free : (n id count : ℕ) (one other : List Link) → groups_blocks n one (values_rows id count) ≡ groups_blocks n other (values_rows id count)
unfolding groups_blocks group_blocks values_rows
values_free n id zero one other = refl
values_free n id (suc count) one other =
    let row = values_row id in
    let next = next_link (past_group n row) (values_rows (id + 1) count) in
    ap (λ (rest : List Placed). group_blocks n next [] row ++ rest) (values_free (past_group n row) (id + 1) count one other)

pub value_group_is : (n id : ℕ) (next : Link)
    → ◌≡◌ {A = List Placed} (linked Cg (next ∷ links.Nothing ∷ links.Nothing ∷ links.Nothing ∷ links.Nothing ∷ links.Nothing ∷ []) (group_body (values_row id)) ∷ [])
    (group_blocks n next [] (values_row id))
unfolding group_blocks channels_blocks note_blocks note_link source_part source_link
value_group_is n id next = refl

pub values_more : (id count i : ℕ) → i < count
    → values_rows (id + i) (count - i) ≡ values_row (id + i) ∷ values_rows (id + (i + 1)) (count - (i + 1))
unfolding values_rows
values_more id count i below =
    let left : count - i ≡ suc (count - (i + 1)) = omega (arith, below) in
    let next : id + i + 1 ≡ id + (i + 1) = omega arith in
    ap (λ (n : ℕ). values_rows (id + i) n) left ∙ ap (λ (m : ℕ). values_row (id + i) ∷ values_rows m (count - (i + 1))) next

pub next_values : (m past i id count : ℕ) → m ≡ past → next_if (nat_lt i count) m ≡ next_link past (values_rows id (count - i))
unfolding numbered
next_values m past i id count same =
    next_both (nat_lt i count) m 0 id (count - i) [] (λ e. omega (arith, ltb-true i count e)) (λ e. omega (arith, ltb-false i count e))
    ∙ ap (λ (n : ℕ). next_link n (values_rows id (count - i))) same

pub past_value : (n id : ℕ) → n + 1 ≡ past_group n (values_row id)
unfolding past_channels note_blocks source_part
past_value n id = omega arith

pub values_done : (w : List Placed) (id count i : ℕ) → count ≤ i → w ≡ w ++ groups_blocks (length w) [] (values_rows (id + i) (count - i))
unfolding groups_blocks values_rows
values_done w id count i past =
    let none : count - i ≡ 0 = omega (arith, past) in
    sym (ap (λ (n : ℕ). w ++ groups_blocks (length w) [] (values_rows (id + i) n)) none ∙ append-nil w)

-- links to blocks one behind the other
pub block_links_step : (at next left : ℕ) (front after : List Link) → 0 < left → after ≡ front ++ links.Block at ∷ [] → next ≡ at + 1
    → after ++ block_links next (left - 1) ≡ front ++ block_links at left
unfolding block_links
block_links_step at next zero front after some pushed is = absurd (omega (arith, some))
block_links_step at next (suc left) front after some pushed is =
    let less : suc left - 1 ≡ left = omega arith in
    ap (λ (n : ℕ). after ++ block_links next n) less
    ∙ ap (λ (m : ℕ). after ++ block_links m left) is
    ∙ ap (λ (xs : List Link). xs ++ block_links (at + 1) left) pushed
    ∙ append_assoc front (links.Block at ∷ []) (block_links (at + 1) left)

pub block_links_done : (at left : ℕ) (all : List Link) → left ≤ 0 → all ≡ all ++ block_links at left
unfolding block_links
block_links_done at zero all none = sym (append-nil all)
block_links_done at (suc left) all none = absurd (omega (arith, none))
