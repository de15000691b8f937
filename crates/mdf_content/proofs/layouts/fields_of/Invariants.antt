use Rattle.std.proofs.Common.{◌≡◌, take, map}
use Rattle.mdf_content.specs.Layouts.{field_of}
use Rattle.mdf_content.proofs.layouts.fields_of.Given as goal

abbrev pub invariant-loop-channel : goal.invariant-loop-channel
invariant-loop-channel l = l.fields ≡ map field_of (take l.channel-index l.channels)
