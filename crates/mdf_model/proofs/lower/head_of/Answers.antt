use Rattle.std.specs.Prelude.{Err}
use Rattle.mdf_head.specs.declared.fault.HeadFault.{HeadFault}
use Rattle.mdf_head.specs.Head.{head, head_refusal}
use Rattle.mdf_block.proofs.Raised.{reads_raised}
use Rattle.mdf_model.proofs.lower.head_of.Goals as goal

pub returns-in-Err : goal.returns-in-Err
returns-in-Err g c =
    let reads = c.in-Err.ensures.reads in
    record {
      reads = reads_raised {E = HeadFault} {below = head_refusal} {one = Err c.in-Err.halt} (λ file. head file c.args.text) c.raised.ensures (record {
        found = reads.found;
        plain = reads.plain;
        same = reads.same;
        size = reads.size;
        cause = record { later = reads.cause.later; reason = reads.cause.reason };
      });
    }
