use Rattle.tool_sort.proofs.Sames.{file_same}
use Rattle.tool_sort.proofs.law.one_sorted_file.Goals as goal

pub returns : goal.returns
returns c = file_same
