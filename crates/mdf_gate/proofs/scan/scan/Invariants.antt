use Rattle.std.proofs.Common.{◌≡◌, ◌-◌, ◌≤◌, length}
use Rattle.mdf_gate.proofs.Loops.{HasCome}
use Rattle.mdf_gate.proofs.scan.scan.Given as goal

abbrev pub invariant-loop-form : goal.invariant-loop-form
invariant-loop-form l = record {
  come : HasCome l.form l.bytes l.first l.count.next l.count.blocks l.count.bytes;
  from : l.count.first ≡ l.first;
  blocks : l.count.blocks ≤ l.count.next;
  bytes : l.count.bytes ≤ l.count.next;
}

abbrev pub decreases-loop-form : goal.decreases-loop-form
decreases-loop-form l = length l.bytes - l.count.next
