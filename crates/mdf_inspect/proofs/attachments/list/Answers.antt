use Rattle.mdf_disk.specs.State.{state_of}
use Rattle.mdf_inspect.proofs.Listings.{fault_comes, listed_comes}
use Rattle.mdf_inspect.proofs.attachments.list.Goals as goal

pub returns-in-Ok-clause-comes : goal.returns-in-Ok-clause-comes
returns-in-Ok-clause-comes g c =
    listed_comes (state_of g.A.Disk c.args.first) (state_of g.A.Disk c.read_input-end.result.1) c.in-Ok.entries
    (rw c.in-Ok.is at c.read_input-end.ensures.comes)

pub returns-in-Err-clause-comes : goal.returns-in-Err-clause-comes
returns-in-Err-clause-comes g c =
    rw c.listing_fault.ensures (
    fault_comes (state_of g.A.Disk c.args.first) (state_of g.A.Disk c.read_input-end.result.1) c.in-Err.fault (rw c.in-Err.is at c.read_input-end.ensures.comes)
    )
