use Rattle.std.proofs.Common.{◌≡◌, take, map}
use Rattle.mdf_log.specs.Setup.{width_of}
use Rattle.mdf_log.proofs.floats.widths_of.Given as goal

abbrev pub invariant-loop-channel : goal.invariant-loop-channel
invariant-loop-channel l = l.widths ≡ map width_of (take l.channel-index l.row.channels)
