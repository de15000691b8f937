use Rattle.tool_concat.proofs.Plain.{all_moved}
use Rattle.tool_concat.proofs.moved.with_others.Goals as goal

pub returns : goal.returns
returns c =
    let others = c.args.others.now in (
      others,
      c.in_ok-push_slice.ensures.ok,
      all_moved c.args.shape.now c.args.streams.now others c.args.count c.requires.none c.requires.long,
    )
