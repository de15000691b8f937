use Rattle.std.proofs.Common.{inr, List, [], ◌∷◌, ◌++◌, length, ◌∙◌, ap, append_assoc}
use Rattle.std.proofs.lemmas.Result.{on_err_weaker, on_ok_weaker}
use Rattle.mdf_block.specs.Draft.{Placed}
use Rattle.mdf_tree.specs.Text.{note_blocks}
use Rattle.mdf_tree.specs.Group.{next_if}
use Rattle.mdf_tree.specs.Head.{entry_block, past_entry}
use Rattle.mdf_tree.proofs.head.place_entry.Goals as goal

pub returns-clause-ok : goal.returns-clause-ok
returns-clause-ok c =
    let w = c.args.draft.now in
    let entry = c.args.entry.now in
    let own = entry_block (length w) (next_if c.args.more (past_entry (length w) entry)) entry in
    on_ok_weaker c.place_note.result
    (λ last. last ∙ ap (λ (xs : List Placed). xs ++ note_blocks entry.comment) c.in_ok-place_own.ensures.ok ∙ append_assoc w (own ∷ []) (note_blocks entry.comment))
    c.place_note.ensures.ok

pub returns-clause-err : goal.returns-clause-err
returns-clause-err c =
    on_err_weaker c.place_note.result (λ same. inr (same ∙ c.in_ok-place_own.ensures.ok)) c.place_note.ensures.err
