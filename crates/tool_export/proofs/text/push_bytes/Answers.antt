use Rattle.tool_export.proofs.Plain.{also_ok, plain_bytes}
use Rattle.tool_export.proofs.text.push_bytes.Goals as goal

pub returns-clause-plain : goal.returns-clause-plain
returns-clause-plain c = also_ok _ (plain_bytes c.args.bytes.now c.type_inv.bytes)
