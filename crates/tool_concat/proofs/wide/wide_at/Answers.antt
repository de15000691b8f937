use Rattle.std.proofs.Common.{◌*◌, ℕ, List, length, get_or, sym, ◌∙◌, ap}
use Rattle.mdf_layout.specs.Layout.{Layout, record_size}
use Rattle.mdf_model.specs.declared.part.GroupPart.{GroupPart}
use Rattle.std.specs.Prelude.{IfNone}
use Rattle.mdf_block.proofs.Items.{item_of}
use Rattle.tool_concat.specs.Wide.{IsWide}
use Rattle.tool_concat.proofs.Holds.{by_parts}
use Rattle.tool_concat.proofs.wide.wide_at.Goals as goal

pub wide_channel-requires : goal.wide_channel-requires
wide_channel-requires c =
    let d = item_of c.args.second.now.groups c.args.group c.requires.second in
    let m = get_or c.args.second.now.groups c.args.group d in
    record {
      long = ap (λ (bytes : List ℕ). length bytes) (c.as_slice.ensures ∙ ap (λ (part : GroupPart). part.content) (c.part-part.ensures d))
          ∙ (c.requires.samples d).long
          ∙ ap (λ (n : ℕ). n * record_size m.shape) (sym (c.samples.ensures d))
          ∙ ap (λ (layout : Layout). c.samples.result * record_size layout) (sym (c.shape.ensures d));
    }

pub returns-clause-held : goal.returns-clause-held
returns-clause-held c d =
    let one = get_or c.args.first.now.groups c.args.group d in
    let other = get_or c.args.second.now.groups c.args.group d in
    by_parts (λ (l : Layout) (bytes : List ℕ) (n : ℕ) (s : List (List ℕ)). IfNone c.wide_channel.result ((k : ℕ) → ¬ IsWide l bytes n s k))
    c.shape.result.now other.shape c.as_slice.result.now other.part.content c.samples.result other.count c.as_slice-2.result.now one.part.streams
    (c.shape.ensures d) (c.as_slice.ensures ∙ ap (λ (part : GroupPart). part.content) (c.part-part.ensures d)) (c.samples.ensures d)
    (c.as_slice-2.ensures ∙ ap (λ (part : GroupPart). part.streams) (c.part.ensures d)) c.wide_channel.ensures.held
