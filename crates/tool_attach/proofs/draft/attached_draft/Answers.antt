use Rattle.std.proofs.Common.{◌≡◌, ◌++◌, List, length, codes, sym, ◌∙◌, ap, subst}
use Rattle.mdf_block.specs.declared.link.Link.TheVariants as links
use Rattle.mdf_block.specs.Draft.{Placed, HasLink, with_link}
use Rattle.mdf_attach.specs.declared.attachment.Attachment.{Attachment}
use Rattle.tool_attach.specs.Attached.{attachments_blocks}
use Rattle.tool_attach.proofs.Placing.{header_linked, header_free, file_placed}
use Rattle.tool_attach.proofs.draft.attached_draft.Goals as goal

pub name_first-requires-clause-linked : goal.name_first-requires-clause-linked
name_first-requires-clause-linked c =
    subst (λ (blocks : List Placed). HasLink blocks 0 3) (sym c.in_ok-draft.ensures.placed) (header_linked c.args.measurement (codes "attach") c.args.now_ns)

pub name_first-requires-clause-free : goal.name_first-requires-clause-free
name_first-requires-clause-free c =
    subst (λ (blocks : List Placed). with_link blocks 0 3 links.Nothing ≡ blocks) (sym c.in_ok-draft.ensures.placed)
    (header_free c.args.measurement (codes "attach") c.args.now_ns)

pub returns-clause-placed : goal.returns-clause-placed
returns-clause-placed c =
    let w = c.name_first.new.draft in
    file_placed c.in_ok-draft.draft w c.place_attachments.new.draft c.args.measurement c.args.rows c.args.now_ns c.is_empty.result
    c.in_ok-draft.ensures.placed c.is_empty.ensures c.in_ok-name_first.ensures
    (c.in_ok-place_attachments.ensures
    ∙ ap (λ (rows : List Attachment). w ++ attachments_blocks (length w) rows) c.as_slice.ensures)
