use Rattle.std.proofs.Common.{◌≡◌, ◌++◌, drop}
use Rattle.mdf_spell.specs.Values.{with_streams}
use Rattle.mdf_spell.proofs.names.with_streams.Given as goal

-- the links so far and those of what is left are all
abbrev pub invariant-loop-name : goal.invariant-loop-name
invariant-loop-name l = l.links.items ++ with_streams l.at (drop l.name-index l.names) ≡ with_streams l.n l.names
