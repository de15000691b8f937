use Rattle.std.proofs.Common.{◌≤◌, [], length, take, ap, subst, arith}
use Rattle.std.proofs.lemmas.List.{length-take-le}
use Rattle.std.proofs.lemmas.Result.{err_from_is_err_and}
use Rattle.std.specs.Io.KnownBytes.{Consumes, Keeps}
use Rattle.acq_lines.specs.Source.{unread}
use Rattle.acq_lines.specs.Steps.{reads_more}
use Rattle.acq_lines.proofs.Parts.{back_long, grown, lent_more, lent_none, same}
use Rattle.acq_lines.proofs.source.LineSource.fill.Goals as goal

pub returns-in_err-count-clause-stays : goal.returns-in_err-count-clause-stays
returns-in_err-count-clause-stays g c =
    let p = err_from_is_err_and c.from_residual.result c.from_residual.ensures.1 in
    let lines = c.make_room.new.self in
    let lent = c.deref_mut.ensures in
    let within : lines.end ≤ length c.deref_mut.result.now = omega (arith, lines.within, ap length lent.value) in
    let alone = lent_none lines.buffer c.deref_mut.result.now c.take.new.buf lines.start lines.end lent.value lent.len lines.front within c.take.auto.buf in
    rw p.1 (record {
      kept = subst (λ source. Keeps (g.S.Source.left source) (g.S.Source.left c.take.new.self)) c.make_room.ensures.source c.in_err-count.ensures.taken;
      reads = reads_more (unread c.args.self.now) (unread lines) _ [] [] [] [] c.make_room.ensures.reads (same (unread lines) _ alone);
    })

pub returns-clause-filled : goal.returns-clause-filled
returns-clause-filled g c =
    let lines = c.make_room.new.self in
    let lent = c.deref_mut.ensures in
    let back = c.take.new.buf in
    let count = c.in_ok-count.count in
    let bytes = take count back in
    let within : lines.end ≤ length c.deref_mut.result.now = omega (arith, lines.within, ap length lent.value) in
    let most : count ≤ length back = omega (arith, c.in_ok-count.ensures.bound, c.take.auto.buf) in
    let long = back_long lines.buffer c.deref_mut.result.now back lines.start lines.end lent.value lent.len lines.front within c.take.auto.buf in
    let more = lent_more lines.buffer c.deref_mut.result.now back lines.start lines.end lent.value lent.len lines.front within c.take.auto.buf count most in
    record {
      bytes = bytes;
      count_is = length-take-le count back most;
      consumed = subst (λ source. Consumes (g.S.Source.left source) (g.S.Source.left c.take.new.self) bytes) c.make_room.ensures.source c.in_ok-count.ensures.taken.0;
      reads = reads_more (unread c.args.self.now) (unread lines) _ [] bytes [] [] c.make_room.ensures.reads (grown (unread lines) bytes _ more);
      at_end = λ none. c.in_ok-count.ensures.taken.1 none (omega (arith, long, c.make_room.ensures.room, ap length lent.value));
    }
