use Rattle.std.proofs.Common.{◌+◌, List, [], ◌∷◌, ◌++◌, length, drop, sym, ◌∙◌, ap}
use Rattle.std.proofs.lemmas.Result.{on_ok_weaker}
use Rattle.mdf_block.proofs.Rests.{rest_is}
use Rattle.mdf_head.specs.declared.entry.History.{History}
use Rattle.mdf_tree.specs.Head.{history_blocks}
use Rattle.mdf_spell.proofs.Histories.{history_step, history_last}
use Rattle.mdf_spell.proofs.history.place_history.Goals as goal

pub loop-entry-preserved : goal.loop-entry-preserved
loop-entry-preserved c =
    let entries = c.args.entries.now in
    let last = c.args.last.now in
    let k = c.loop-entry.entry-index in
    let entry = c.entry-item.result in
    let w = c.loop-entry.draft in
    let cut = rest_is entries k entry c.loop-entry-test.true c.entry-item.is in
    history_step w c.place_entry.new.draft entry (drop (k + 1) entries) last c.in_ok-place_entry.ensures.ok
    ∙ ap (λ (left : List History). w ++ history_blocks (length w) (left ++ last ∷ [])) (sym cut)
    ∙ c.loop-entry.invariant

pub returns : goal.returns
returns c =
    on_ok_weaker c.place_entry-2.result
    (λ placed. history_last c.loop-entry.draft c.place_entry-2.new.draft c.args.entries.now c.loop-entry.entry-index c.args.last.now c.loop-entry-test.false placed
    ∙ c.loop-entry.invariant)
    c.place_entry-2.ensures.ok
