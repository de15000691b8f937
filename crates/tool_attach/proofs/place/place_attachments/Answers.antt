use Rattle.std.proofs.Common.{◌+◌, ◌++◌, List, length, drop, sym, ◌∙◌, ap}
use Rattle.mdf_block.proofs.Rests.{rest_is}
use Rattle.mdf_attach.specs.declared.attachment.Attachment.{Attachment}
use Rattle.mdf_tree.proofs.Placing.{next_less}
use Rattle.tool_attach.specs.Attached.{past_attachment, attachments_blocks}
use Rattle.tool_attach.proofs.Placing.{attachments_step, attachments_done}
use Rattle.tool_attach.proofs.place.place_attachments.Goals as goal

pub loop-i-preserved : goal.loop-i-preserved
loop-i-preserved c =
    let rows = c.args.rows.now in
    let i = c.loop-i.i in
    let row = c.index-rows-i.result in
    let w = c.loop-i.draft in
    let cut = rest_is rows i row c.loop-i-test.true c.index-rows-i.is in
    attachments_step w c.place_attachment.new.draft row (drop (i + 1) rows) _ (next_less (past_attachment (length w) row) (i + 1) rows)
    c.in_ok-place_attachment.ensures
    ∙ ap (λ (left : List Attachment). w ++ attachments_blocks (length w) left) (sym cut)
    ∙ c.loop-i.invariant

pub returns : goal.returns
returns c = attachments_done c.loop-i.draft c.args.rows.now c.loop-i.i c.loop-i-test.false ∙ c.loop-i.invariant
