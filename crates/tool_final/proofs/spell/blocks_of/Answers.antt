use Rattle.std.proofs.lemmas.Result.{IfOk-weaker}
use Rattle.std.proofs.Common.{◌∙◌, sym}
use Rattle.mdf_spell.proofs.Wholes.{file_placed}
use Rattle.tool_final.proofs.spell.blocks_of.Goals as goal

pub returns : goal.returns
returns c =
    let front = c.in_ok-front.ensures in
    let recovered = front.recovered in
    let moved = c.into_data-content in
    IfOk-weaker c.with_data.result _ _
    (λ blocks placed. record {
      recovered = recovered;
      is_of = front.is_of;
      counted = front.counted;
      fit = front.fit;
      blocks_are = file_placed c.in_ok-front.front recovered c.args.now_ns moved.result.0 c.as_slice.result.now blocks front.front_is
          (moved.ensures.content ∙ sym front.is_of.content)
          (c.as_slice.ensures ∙ moved.ensures.streams ∙ sym front.is_of.streams) placed;
    })
    c.with_data.ensures
