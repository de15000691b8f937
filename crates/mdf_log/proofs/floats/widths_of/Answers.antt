use Rattle.std.proofs.Common.{map, length, ◌∙◌, ap, arith}
use Rattle.std.proofs.lemmas.List.{take_all}
use Rattle.mdf_log.specs.Setup.{width_of}
use Rattle.mdf_log.proofs.floats.widths_of.Goals as goal

pub returns : goal.returns
returns c =
    c.loop-channel.invariant ∙ ap (map width_of) (take_all c.loop-channel.channel-index c.args.row.now.channels (omega (arith, c.loop-channel-test.false, ap length c.as_slice-channel-items.ensures)))
