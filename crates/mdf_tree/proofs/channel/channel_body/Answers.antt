use Rattle.std.proofs.Common.{rules}
use Rattle.mdf_tree.proofs.channel.channel_body.Goals as goal

pub returns-clause-sized : goal.returns-clause-sized
returns-clause-sized c = record {
  byte = search rules;
  bits = search rules;
  flags = c.written_flags.ensures.small;
  inval = search rules;
  six = c.in_ok-push_ranges.ensures.six;
  ranges = c.in_ok-push_ranges.ensures.small;
}
