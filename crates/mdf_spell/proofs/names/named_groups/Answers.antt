use Rattle.std.proofs.Common.{List, map, ◌∙◌, ap, arith}
use Rattle.std.specs.List.{flat_map}
use Rattle.std.proofs.lemmas.Grind.{common_steps}
use Rattle.std.proofs.lemmas.List.{take_all}
use Rattle.mdf_group.specs.declared.row.ChannelRow.{ChannelRow}
use Rattle.mdf_group.specs.declared.row.GroupRow.{GroupRow}
use Rattle.mdf_spell.specs.Values.{own_channels, values_group}
use Rattle.mdf_spell.proofs.names.named_groups.Goals as goal

pub loop-row-preserved : goal.loop-row-preserved
loop-row-preserved c = grind (arith, common_steps)

pub returns : goal.returns
returns c =
    c.loop-row.invariant
    ∙ ap (λ (rows : List GroupRow). map (λ (channel : ChannelRow). values_group c.args.rows.now c.args.numbers.now channel.values) (flat_map own_channels rows))
    (take_all c.loop-row.row-index c.args.rows.now (omega (arith, c.loop-row-test.false)))
