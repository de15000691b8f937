use Rattle.std.proofs.Common.{subst}
use Rattle.mdf_record.specs.Finish.{ProblemComes}
use Rattle.mdf_record.proofs.Ending.{finished, marks_last, not_finished}
use Rattle.mdf_record.proofs.record.finish.Goals as goal

pub returns-in-None : goal.returns-in-None
returns-in-None g c =
    let old = c.args.book.now in
    let new = c.flush.new.self in
    let answer = c.in-Done.ensures.answer in
    record {
      finishes = finished g.C.Disk old new c.args.live c.args.driven c.in-Done.shown c.in-Done.through c.flush.ensures.steps answer.0 answer.1 answer.2 answer.3 answer.5
          c.in-Done.note answer.7 c.requires.stopped (subst (ProblemComes c.args.driven c.args.live c.in-Done.shown c.in-Done.through) c.in-None.is c.problem_of.ensures);
      last = marks_last g.C.Disk old new answer.5;
    }

pub returns-in_default : goal.returns-in_default
returns-in_default g c =
    let old = c.args.book.now in
    let new = c.flush.new.self in
    let answer = c.in-Done.ensures.answer in
    record {
      finishes = not_finished g.C.Disk old new c.args.live c.args.driven c.in-Done.shown c.in-Done.through c.flush.ensures.steps answer.0 answer.1 answer.2 answer.3 answer.5
          c.requires.stopped c.problem_of.result c.in_default.not-None c.problem_of.ensures;
      last = marks_last g.C.Disk old new answer.5;
    }
