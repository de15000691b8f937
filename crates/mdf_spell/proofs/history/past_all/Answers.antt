use Rattle.std.proofs.Common.{ℕ, ◌∙◌, ap}
use Rattle.std.proofs.lemmas.Result.{IfOk-weaker}
use Rattle.mdf_tree.specs.Head.{past_entry}
use Rattle.mdf_spell.proofs.Histories.{past_both}
use Rattle.mdf_spell.proofs.history.past_all.Goals as goal

pub returns : goal.returns
returns c =
    let last = c.args.last.now in
    IfOk-weaker c.past_entry.result _ _
    (λ past is. is ∙ ap (λ (n : ℕ). past_entry n last) c.in_ok-past_entries.ensures ∙ past_both 1 c.args.history.now last)
    c.past_entry.ensures
