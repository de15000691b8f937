use Rattle.mdf_spell.proofs.Lists.{all_bytes}
use Rattle.tool_attach.proofs.Taking.{are_taken}
use Rattle.tool_attach.proofs.read.taken.Goals as goal

pub returns-clause-taken : goal.returns-clause-taken
returns-clause-taken c =
    are_taken c.args.bytes.now c.read_attachments.result (all_bytes c.args.bytes.now c.type_inv.bytes) c.read_attachments.ensures.found
    c.read_attachments.ensures.few
