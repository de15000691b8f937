use Rattle.std.proofs.Common.{◌≡◌, ◌∷◌, take, map, codes}
use Rattle.tool_export.specs.Table.{channel_text}
use Rattle.tool_export.proofs.line.Line.set_names.Given as goal

abbrev pub invariant-loop-channel : goal.invariant-loop-channel
invariant-loop-channel l = l.self ≡ codes "index" ∷ map channel_text (take l.channel-index l.channels)
