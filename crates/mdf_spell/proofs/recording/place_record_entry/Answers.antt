use Rattle.std.proofs.Common.{List, [], ◌∷◌, ◌++◌, length, ◌∙◌, ap}
use Rattle.std.proofs.lemmas.Result.{on_ok_weaker}
use Rattle.mdf_block.specs.Draft.{Placed}
use Rattle.mdf_head.specs.declared.entry.History.{History}
use Rattle.mdf_tree.specs.Head.{history_blocks}
use Rattle.mdf_spell.proofs.Fronts.{entry_is}
use Rattle.mdf_spell.proofs.recording.place_record_entry.Goals as goal

pub returns : goal.returns
returns c =
    let w = c.args.draft.now in
    let entry = c.in_ok-entry.entry in
    on_ok_weaker c.place_entry.result
    (λ placed. placed
    ∙ ap (λ (blocks : List Placed). w ++ blocks) (entry_is (length w) entry)
    ∙ ap (λ (one : History). w ++ history_blocks (length w) (one ∷ [])) c.in_ok-entry.ensures)
    c.place_entry.ensures.ok
