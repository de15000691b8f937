use Rattle.std.proofs.Common.{length, ap, arith}
use Rattle.mdf_record.proofs.Lengths.{head_short}
use Rattle.mdf_record.proofs.Recovering.{head_read}
use Rattle.mdf_record.proofs.Heads.{bytes_are_recording}
use Rattle.mdf_record.proofs.head.head_for.Goals as goal

pub returns-clause-recording : goal.returns-clause-recording
returns-clause-recording c =
    bytes_are_recording c.in_ok-head.head c.args.form c.args.start_ns c.args.rows.now c.in_ok-head.ensures.written c.in_ok-head.ensures.tree

pub returns-clause-readable : goal.returns-clause-readable
returns-clause-readable c =
    let made = c.in_ok-head.ensures in
    head_read c.in_ok-head.head c.args.form c.args.start_ns c.args.rows.now made.written made.tree made.head_found made.groups_found

pub returns-clause-short : goal.returns-clause-short
returns-clause-short c =
    let made = c.in_ok-head.ensures in
    let read = head_read c.in_ok-head.head c.args.form c.args.start_ns c.args.rows.now made.written made.tree made.head_found made.groups_found in
    omega (arith, ap length made.written, head_short c.args.form c.args.start_ns c.args.rows.now c.requires read)
