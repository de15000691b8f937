use Rattle.std.proofs.Common.{◌≤◌, arith}
use Rattle.tool_cut.proofs.Places.{moved_front, moved_rest}
use Rattle.tool_cut.proofs.kept.copy_record.Goals as goal

pub returns-clause-front : goal.returns-clause-front
returns-clause-front c =
    let before : c.args.kept ≤ c.args.i = omega (arith, c.requires.before) in
    moved_front c.args.content.now c.copy_within.new.self c.args.size c.args.i c.args.kept c.requires.inside before c.copy_within.ensures.after

pub returns-clause-rest : goal.returns-clause-rest
returns-clause-rest c =
    let before : c.args.kept ≤ c.args.i = omega (arith, c.requires.before) in
    moved_rest c.args.content.now c.copy_within.new.self c.args.size c.args.i c.args.kept c.requires.inside before c.copy_within.ensures.after
