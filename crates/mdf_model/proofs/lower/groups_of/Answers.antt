use Rattle.std.specs.Prelude.{Err}
use Rattle.mdf_group.specs.declared.fault.GroupFault.{GroupFault}
use Rattle.mdf_group.specs.Link.{group_refusal}
use Rattle.mdf_block.proofs.Raised.{reads_raised}
use Rattle.mdf_group.specs.Group.{groups}
use Rattle.mdf_model.proofs.lower.groups_of.Goals as goal

pub returns-in-Err : goal.returns-in-Err
returns-in-Err g c =
    let reads = c.in-Err.ensures.reads in
    record {
      reads = reads_raised {E = GroupFault} {below = group_refusal} {one = Err c.in-Err.halt} (λ file. groups file c.args.first c.args.budget) c.raised.ensures (record {
        found = reads.found;
        plain = reads.plain;
        same = reads.same;
        size = reads.size;
        cause = record { later = reads.cause.later; reason = reads.cause.reason };
      });
    }
