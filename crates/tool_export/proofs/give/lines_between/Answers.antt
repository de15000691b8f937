use Rattle.std.proofs.Common.{◌≡◌, List, ℕ, Option, Some, ◌++◌, ◌∙◌, ap, sym, arith, append_assoc}
use Rattle.mdf_layout.specs.declared.sample.Entry.{Entry}
use Rattle.tool_export.specs.Table.{line_at, sample_lines}
use Rattle.tool_export.proofs.Texts.{lines_more}
use Rattle.tool_export.proofs.give.lines_between.Goals as goal

pub loop-index-preserved : goal.loop-index-preserved
loop-index-preserved g c =
    let i = c.loop-index.index in
    let text = c.loop-index.lines.items in
    record {
      lines = λ f told are.
          let sample = g.L.SampleList.sample c.args.list.now f in
          let front = sample_lines sample c.args.from in
          let is : sample i ≡ Some c.as_slice.result.now = cc (c.in_ok-entries.ensures.sample f (c.loop-index.invariant.same ∙ told) are, c.as_slice.ensures) in
          lines_more sample i
          ∙ ap (λ (before : List ℕ). before ++ line_at i (sample i)) (c.loop-index.invariant.lines f told are)
          ∙ append_assoc front text (line_at i (sample i))
          ∙ ap (λ (more : List ℕ). front ++ more) (sym (c.in_ok-push_sample.ensures ∙ ap (λ (found : Option (List Entry)). text ++ line_at i found) (sym is)));
      order = omega (arith, c.loop-index-test.true);
      same = c.in_ok-entries.ensures.same ∙ c.loop-index.invariant.same;
      size = c.in_ok-entries.ensures.size ∙ c.loop-index.invariant.size;
      later = omega (arith, c.loop-index.invariant.later, c.in_ok-entries.ensures.cause.later);
    }
