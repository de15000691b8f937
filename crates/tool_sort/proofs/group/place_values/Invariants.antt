use Rattle.std.proofs.Common.{◌≡◌, ◌++◌, map, drop}
use Rattle.mdf_format.specs.declared.kind.Kind.TheVariants.{Sd}
use Rattle.mdf_spell.specs.Session.{data_block}
use Rattle.tool_sort.proofs.group.place_values.Given as goal

-- the blocks so far and those of what is left are all
abbrev pub invariant-loop-stream : goal.invariant-loop-stream
invariant-loop-stream l = l.draft ++ map (data_block Sd) (drop l.stream-index l.streams) ≡ l.initial.draft ++ map (data_block Sd) l.streams
