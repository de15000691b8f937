-- Entries of the history that are placed one after another, and the head that has them.
use Rattle.std.proofs.Common.{◌≡◌, ◌≤◌, ℕ, List, [], ◌∷◌, ◌++◌, length, drop, refl, sym, ◌∙◌, ap, arith, append_assoc, append-nil}
use Rattle.std.proofs.lemmas.List.{drop_all}
use Rattle.mdf_block.specs.declared.link.Link.{Link}
use Rattle.mdf_block.specs.declared.link.Link.TheVariants as links
use Rattle.mdf_block.specs.Draft.{Placed}
use Rattle.mdf_head.specs.declared.entry.Head.{Head}
use Rattle.mdf_head.specs.declared.entry.History.{History}
use Rattle.mdf_tree.specs.Text.{note_blocks}
use Rattle.mdf_tree.specs.Group.{next_link}
use Rattle.mdf_tree.specs.Head.{entry_block, past_entry, past_history, history_blocks, header_block, head_blocks}
use Rattle.mdf_tree.proofs.Placing.{placed_step}

-- another entry follows where there is a last one
pub more_entries : (n : ℕ) (entries : List History) (last : History) → links.Block n ≡ next_link n (entries ++ last ∷ [])
more_entries n [] last = refl
more_entries n (entry ∷ entries) last = refl

-- one more entry is placed, and others follow
pub history_step : (w after : List Placed) (entry : History) (rest : List History) (last : History)
    → after ≡ w ++ (entry_block (length w) (links.Block (past_entry (length w) entry)) entry ∷ note_blocks entry.comment)
    → after ++ history_blocks (length after) (rest ++ last ∷ []) ≡ w ++ history_blocks (length w) (entry ∷ (rest ++ last ∷ []))
unfolding history_blocks
history_step w after entry rest last placed =
    let past = past_entry (length w) entry in
    let own = entry_block (length w) (next_link past (rest ++ last ∷ [])) entry ∷ note_blocks entry.comment in
    placed_step w own (λ n. history_blocks n (rest ++ last ∷ [])) after past
    (placed ∙ ap (λ (link : Link). w ++ (entry_block (length w) link entry ∷ note_blocks entry.comment)) (more_entries past rest last))
    (omega arith)

-- the last entry is placed
pub history_last : (w after : List Placed) (entries : List History) (k : ℕ) (last : History) → length entries ≤ k
    → after ≡ w ++ (entry_block (length w) links.Nothing last ∷ note_blocks last.comment)
    → after ≡ w ++ history_blocks (length w) (drop k entries ++ last ∷ [])
unfolding history_blocks
history_last w after entries k last past placed =
    let own = entry_block (length w) links.Nothing last ∷ note_blocks last.comment in
    placed ∙ ap (λ (blocks : List Placed). w ++ blocks) (sym (append-nil own))
    ∙ ap (λ (left : List History). w ++ history_blocks (length w) (left ++ last ∷ [])) (sym (drop_all k entries past))

-- the block behind the history with a last entry
pub past_both : (n : ℕ) (entries : List History) (last : History) → past_entry (past_history n entries) last ≡ past_history n (entries ++ last ∷ [])
unfolding past_history
past_both n [] last = refl
past_both n (entry ∷ entries) last = past_both (past_entry n entry) entries last

-- the header, the history and the comment of the header
pub head_placed : (w0 w1 w2 w3 : List Placed) (head : Head) (entries : List History) (last : History) (groups : Link) → w0 ≡ []
    → w1 ≡ w0 ++ header_block (past_history 1 (entries ++ last ∷ [])) (links.Block 1) groups head ∷ []
    → w2 ≡ w1 ++ history_blocks (length w1) (entries ++ last ∷ []) → w3 ≡ w2 ++ note_blocks head.comment
    → w3 ≡ head_blocks head (entries ++ last ∷ []) groups
unfolding head_blocks
head_placed w0 w1 w2 w3 head entries last groups none own history comment =
    let all = entries ++ last ∷ [] in
    let header : Link → List Placed = λ link. header_block (past_history 1 all) link groups head ∷ [] in
    let first : w1 ≡ header (next_link 1 all) = own ∙ ap (λ (xs : List Placed). xs ++ header (links.Block 1)) none
    ∙ ap (λ (link : Link). header link) (more_entries 1 entries last) in
    comment
    ∙ ap (λ (xs : List Placed). xs ++ note_blocks head.comment) history
    ∙ ap (λ (xs : List Placed). (xs ++ history_blocks (length xs) all) ++ note_blocks head.comment) first
    ∙ append_assoc (header (next_link 1 all)) (history_blocks 1 all) (note_blocks head.comment)
