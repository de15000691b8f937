use Rattle.std.proofs.Common.{◌≡◌, ◌++◌, List, ℕ, decimal, ◌∙◌, ap, rules}
use Rattle.std.proofs.lemmas.Result.{on_ok_weaker}
use Rattle.tool_export.proofs.Plain.{line_made}
use Rattle.tool_export.proofs.text.push_sample.Goals as goal

pub returns : goal.returns
returns c =
    let text : c.as_bytes.result.now ≡ decimal c.args.index = search rules in
    on_ok_weaker c.push_text-2.result
    (λ last. line_made c.args.index c.args.entries.now c.args.out.now.items c.push_text.new.out.items c.push_entries.new.out.items c.push_text-2.new.out.items
    c.ranges.index.fits (c.in_ok-push_text.ensures ∙ ap (λ (number : List ℕ). c.args.out.now.items ++ number) text) c.in_ok-push_entries.ensures last)
    c.push_text-2.ensures
