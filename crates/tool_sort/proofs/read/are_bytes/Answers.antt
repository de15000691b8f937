use Rattle.mdf_spell.proofs.Lists.{all_bytes}
use Rattle.tool_sort.proofs.read.are_bytes.Goals as goal

pub returns : goal.returns
returns c = all_bytes c.args.bytes.now c.type_inv.bytes
