use Rattle.std.proofs.Common.{refl}
use Rattle.mdf_disk.specs.State.{state_of}
use Rattle.mdf_inspect.proofs.Paging.{paged_from, unopened}
use Rattle.mdf_inspect.proofs.reading.read_input.Goals as goal

pub returns-in-Ok-clause-comes : goal.returns-in-Ok-clause-comes
returns-in-Ok-clause-comes g c =
    paged_from g.R.Reader.most (state_of g.A.Disk c.args.first) (state_of g.A.Disk c.open.new.first) (state_of g.A.Disk c.read_kept.result.1)
    c.open.ensures.input.content c.in-Ok.ensures.calm (c.in-Ok.ensures.attached refl) (rw c.most.ensures at c.in-Ok.ensures.short) g.R.Reader.found c.read_kept.result.0 c.read_kept.ensures.comes

pub returns-in-Err-clause-comes : goal.returns-in-Err-clause-comes
returns-in-Err-clause-comes g c =
    unopened g.R.Reader.most g.R.Reader.found (state_of g.A.Disk c.args.first) (state_of g.A.Disk c.open.new.first) c.in-Err.fault (rw c.most.ensures at c.in-Err.ensures.fault)
