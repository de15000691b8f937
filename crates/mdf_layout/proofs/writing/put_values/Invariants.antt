use Rattle.std.proofs.Common.{◌≡◌, ◌≤◌, ◌<◌, ℕ, get_or}
use Rattle.mdf_format.specs.Field.{bit_of}
use Rattle.mdf_layout.specs.Values.{streams_before}
use Rattle.mdf_layout.specs.Written.{HoldValues, IsFree}
use Rattle.mdf_layout.proofs.writing.put_values.Given as goal

-- the values so far stand, and the bits of no channel are as before
abbrev pub invariant-loop-channel : goal.invariant-loop-channel
invariant-loop-channel l = record {
  values_are : HoldValues l.rows l.values l.offsets l.channel l.content;
  others : (p : ℕ) → IsFree l.rows p → bit_of l.content p ≡ bit_of l.initial.content p;
  before : l.stream ≡ streams_before l.rows l.channel;
  few : l.stream ≤ l.channel;
  small : (i : ℕ) → get_or l.content i 0 < 256;
}
