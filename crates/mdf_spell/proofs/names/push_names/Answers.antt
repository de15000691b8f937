use Rattle.std.proofs.Common.{◌++◌, List, map, ◌∙◌, ap, arith, append-nil}
use Rattle.std.specs.Prelude.{filter}
use Rattle.std.proofs.lemmas.Grind.{common_steps}
use Rattle.std.proofs.lemmas.List.{take_all}
use Rattle.std.proofs.lemmas.List.Elements.{filter_more}
use Rattle.mdf_group.specs.declared.row.ChannelRow.{ChannelRow}
use Rattle.mdf_group.specs.Recordable.{is_of_values}
use Rattle.mdf_spell.specs.Values.{values_group}
use Rattle.mdf_spell.proofs.names.push_names.Goals as goal

pub loop-channel-preserved : goal.loop-channel-preserved
loop-channel-preserved c =
    grind (
      arith,
      common_steps,
      filter_more is_of_values c.args.channels.now c.loop-channel.channel-index c.channel-item.result (omega (arith, c.loop-channel-test.true)),
      append-nil,
    )

pub returns : goal.returns
returns c =
    c.loop-channel.invariant
    ∙ ap (λ (channels : List ChannelRow). c.args.names.now.items ++ map (λ (channel : ChannelRow). values_group c.args.rows.now c.args.numbers.now channel.values)
    (filter is_of_values channels))
    (take_all c.loop-channel.channel-index c.args.channels.now (omega (arith, c.loop-channel-test.false)))
