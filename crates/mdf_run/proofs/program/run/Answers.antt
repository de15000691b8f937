use Rattle.mdf_run.proofs.Ended.{said_by, takes_nothing}
use Rattle.mdf_run.proofs.Runs.{run_blames, run_keeps, run_leaves, run_prints, run_recovers, run_succeeds, touches_input, touches_output, touches_second}
use Rattle.mdf_run.proofs.program.run.Goals as goal

pub returns-clause-prints : goal.returns-clause-prints
returns-clause-prints g c =
    run_prints c.args.words.now _ _ c.answer.ensures.ended (said_by c.args.words.now c.command_of-command.result c.command_of-command.ensures)

pub returns-clause-keeps : goal.returns-clause-keeps
returns-clause-keeps g c =
    run_keeps c.args.words.now _ _ c.answer.ensures.ended (said_by c.args.words.now c.command_of-command.result c.command_of-command.ensures)

pub returns-clause-recovers : goal.returns-clause-recovers
returns-clause-recovers g c =
    run_recovers c.args.words.now _ _ c.answer.ensures.ended (said_by c.args.words.now c.command_of-command.result c.command_of-command.ensures)

pub returns-clause-succeeds : goal.returns-clause-succeeds
returns-clause-succeeds g c =
    run_succeeds c.args.words.now _ _ c.answer.ensures.ended (said_by c.args.words.now c.command_of-command.result c.command_of-command.ensures)

pub returns-clause-leaves : goal.returns-clause-leaves
returns-clause-leaves g c =
    run_leaves c.args.words.now _ _ c.answer.ensures.ended (said_by c.args.words.now c.command_of-command.result c.command_of-command.ensures)

pub returns-clause-blames : goal.returns-clause-blames
returns-clause-blames g c =
    run_blames c.args.words.now _ _ c.answer.ensures.ended (said_by c.args.words.now c.command_of-command.result c.command_of-command.ensures)

pub returns-clause-input : goal.returns-clause-input
returns-clause-input g c =
    touches_input g.A.Disk c.args.words.now _ _ _ c.answer.ensures.input (said_by c.args.words.now c.command_of-command.result c.command_of-command.ensures)

pub returns-clause-second : goal.returns-clause-second
returns-clause-second g c =
    touches_second g.B.Disk c.args.words.now _ _ _ c.answer.ensures.second (said_by c.args.words.now c.command_of-command.result c.command_of-command.ensures)

pub returns-clause-output : goal.returns-clause-output
returns-clause-output g c =
    touches_output g.C.Disk c.args.words.now _ _ _ c.answer.ensures.output (said_by c.args.words.now c.command_of-command.result c.command_of-command.ensures)

pub returns-clause-source : goal.returns-clause-source
returns-clause-source g c = λ none.
    c.answer.ensures.source (takes_nothing c.args.words.now _ (said_by c.args.words.now c.command_of-command.result c.command_of-command.ensures) none)
