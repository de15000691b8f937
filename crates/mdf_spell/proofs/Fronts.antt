-- What a recording's head has before its first channel group, and the whole of it.
use Rattle.std.proofs.Common.{◌≡◌, ◌≤◌, ℕ, List, [], ◌∷◌, ◌++◌, length, sym, ◌∙◌, ap, arith, append-nil}
use Rattle.std.specs.Prelude.{codes}
use Rattle.mdf_block.specs.declared.link.Link.TheVariants as links
use Rattle.mdf_block.specs.Draft.{Placed}
use Rattle.mdf_head.specs.declared.entry.History.{History}
use Rattle.mdf_group.specs.declared.row.GroupRow.{GroupRow}
use Rattle.mdf_tree.specs.Text.{note_blocks, note_link}
use Rattle.mdf_tree.specs.Group.{groups_blocks, data_group_blocks}
use Rattle.mdf_tree.specs.Head.{entry_block, past_history, history_blocks, header_block, head_blocks, new_entry}
use Rattle.mdf_spell.specs.Recording.{start_head, numbered, recording_groups, recording_data, value_links, recording_blocks}

abbrev first_entry : ℕ → History
first_entry start = new_entry (codes "record") start

-- a history of one entry
pub entry_is : (n : ℕ) (entry : History)
    → ◌≡◌ {A = List Placed} (entry_block n links.Nothing entry ∷ note_blocks entry.comment) (history_blocks n (entry ∷ []))
unfolding history_blocks
entry_is n entry = sym (append-nil (entry_block n links.Nothing entry ∷ note_blocks entry.comment))

-- header, entry and data group
pub front_placed : (w0 w1 w2 w3 : List Placed) (start : ℕ) → w0 ≡ []
    → w1 ≡ w0 ++ header_block 3 (links.Block 1) (links.Block 3) (start_head start) ∷ []
    → w2 ≡ w1 ++ history_blocks (length w1) (first_entry start ∷ []) → w3 ≡ w2 ++ recording_data ∷ []
    → w3 ≡ head_blocks (start_head start) (first_entry start ∷ []) (links.Block 3) ++ recording_data ∷ []
unfolding head_blocks past_history history_blocks note_blocks
front_placed w0 w1 w2 w3 start none own entry last =
    let header = header_block 3 (links.Block 1) (links.Block 3) (start_head start) in
    let first : w1 ≡ header ∷ [] = own ∙ ap (λ (xs : List Placed). xs ++ header ∷ []) none in
    last
    ∙ ap (λ (xs : List Placed). xs ++ recording_data ∷ []) entry
    ∙ ap (λ (xs : List Placed). (xs ++ history_blocks (length xs) (first_entry start ∷ [])) ++ recording_data ∷ []) first

-- the whole head, where there are groups to be recorded
pub whole_is : (w1 w2 : List Placed) (start : ℕ) (rows : List GroupRow) → 1 ≤ length rows
    → w1 ≡ head_blocks (start_head start) (first_entry start ∷ []) (links.Block 3) ++ recording_data ∷ []
    → w2 ≡ w1 ++ groups_blocks (length w1) (value_links rows) (recording_groups rows)
    → w2 ≡ recording_blocks start rows
unfolding recording_blocks head_blocks past_history history_blocks data_group_blocks numbered note_blocks note_link
whole_is w1 w2 start [] some front groups = absurd (omega (arith, some))
whole_is w1 w2 start (row ∷ rows) some front groups =
    let all = row ∷ rows in
    groups ∙ ap (λ (xs : List Placed). xs ++ groups_blocks (length xs) (value_links all) (recording_groups all)) front
