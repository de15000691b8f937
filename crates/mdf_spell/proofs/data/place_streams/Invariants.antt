use Rattle.std.proofs.Common.{◌≡◌, ◌-◌, ◌++◌, length, map, drop}
use Rattle.mdf_format.specs.declared.kind.Kind.TheVariants.{Sd}
use Rattle.mdf_spell.specs.Values.{own_streams}
use Rattle.mdf_spell.specs.Session.{data_block}
use Rattle.mdf_spell.proofs.data.place_streams.Given as goal

-- the blocks so far and those of what is left are all
abbrev pub invariant-loop-i : goal.invariant-loop-i
invariant-loop-i l =
    l.draft ++ map (data_block Sd) (own_streams (drop l.i l.names) (drop l.i l.streams))
    ≡ l.initial.draft ++ map (data_block Sd) (own_streams l.names l.streams)

abbrev pub decreases-loop-i : goal.decreases-loop-i
decreases-loop-i l = length l.names - l.i
