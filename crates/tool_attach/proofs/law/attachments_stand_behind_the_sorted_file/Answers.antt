use Rattle.tool_attach.proofs.Bytes.{attached_bytes}
use Rattle.tool_attach.proofs.law.attachments_stand_behind_the_sorted_file.Goals as goal

pub returns : goal.returns
returns c = attached_bytes
