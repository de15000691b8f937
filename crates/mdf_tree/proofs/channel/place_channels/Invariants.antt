use Rattle.std.proofs.Common.{◌≡◌, ◌++◌, length, take, drop}
use Rattle.std.specs.List.{AllByRecursion}
use Rattle.mdf_tree.specs.Group.{channels_blocks, IsChannelSized}
use Rattle.mdf_tree.proofs.channel.place_channels.Given as goal

-- the blocks so far and those of what is left are all
abbrev pub invariant-loop-i : goal.invariant-loop-i
invariant-loop-i l = record {
  placed : l.draft ++ channels_blocks (length l.draft) l.rest (drop l.i l.rows)
      ≡ l.initial.draft ++ channels_blocks (length l.initial.draft) l.values l.rows;
  sized : AllByRecursion IsChannelSized (take l.i l.rows);
}
