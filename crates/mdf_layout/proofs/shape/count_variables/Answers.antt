use Rattle.std.proofs.Common.{◌∙◌, ap, sym, arith, length}
use Rattle.std.proofs.lemmas.List.{take_all}
use Rattle.mdf_layout.specs.Rule.{is_variable}
use Rattle.mdf_layout.specs.Behind.{variables}
use Rattle.mdf_layout.proofs.Entered.{streams_more, few_more}
use Rattle.mdf_layout.proofs.shape.count_variables.Goals as goal

pub loop-channel-preserved : goal.loop-channel-preserved
loop-channel-preserved c =
    let i = c.loop-channel.channel in
    let row = c.row_at.result in
    record {
      before = c.streams_with-count.ensures ∙ omega (arith, c.loop-channel.invariant.before) ∙ sym (streams_more c.args.rows.now i row c.row_at.ensures);
      few = omega (arith, c.streams_with-count.ensures, few_more (is_variable row) c.loop-channel.count i c.loop-channel.invariant.few);
    }

pub returns-clause-count : goal.returns-clause-count
returns-clause-count c =
    c.loop-channel.invariant.before ∙ ap (λ rows. length (variables rows)) (take_all c.loop-channel.channel c.args.rows.now (omega (arith, c.loop-channel-test.false)))
