use Rattle.std.proofs.Common.{◌≡◌, ◌∙◌, sym, subst, Some, below_more}
use Rattle.std.specs.List.{slice_get}
use Rattle.std.proofs.lemmas.Option.{same_Some}
use Rattle.mdf_layout.specs.Run.{HaveBits}
use Rattle.mdf_layout.proofs.Overlaps.{still_in}
use Rattle.mdf_layout.proofs.runs.runs_of.Goals as goal

pub loop-channel-preserved : goal.loop-channel-preserved
loop-channel-preserved c = λ k row within.
    let rows = c.args.rows.now in
    let new = c.add_runs.new.runs.items in
    let told = c.in_ok-add_runs.ensures in
    below_more (λ k. slice_get rows k ≡ Some row → HaveBits new k row) c.loop-channel.channel
    (λ k below there p has. still_in c.loop-channel.runs.items new k row p told.kept (c.loop-channel.invariant k row below there p has))
    (λ there. subst (HaveBits new c.loop-channel.channel) (same_Some c.row_at.result row (sym c.row_at.ensures ∙ there)) told.bits)
    k within
