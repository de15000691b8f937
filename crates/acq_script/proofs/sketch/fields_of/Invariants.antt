use Rattle.std.proofs.Common.{◌≡◌, map, take}
use Rattle.mdf_group.specs.Recordable.{numbers_of}
use Rattle.mdf_layout.specs.Row.{field_row}
use Rattle.acq_script.proofs.sketch.fields_of.Given as goal

abbrev pub invariant-loop-channel : goal.invariant-loop-channel
invariant-loop-channel l = l.rows ≡ map (λ channel. field_row (numbers_of channel)) (take l.channel-index l.channels)
