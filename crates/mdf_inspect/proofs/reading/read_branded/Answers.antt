use Rattle.std.proofs.Common.{◌≡◌, Ok, ◌∙◌}
use Rattle.mdf_disk.specs.State.{state_of}
use Rattle.mdf_inspect.proofs.Paging.{halted, if_read}
use Rattle.mdf_inspect.proofs.reading.read_branded.Goals as goal

pub returns-in-Ok-read-clause-comes : goal.returns-in-Ok-read-clause-comes
returns-in-Ok-read-clause-comes g c =
    if_read g.R.Reader.most (state_of g.A.Disk c.args.first) (λ file. g.R.Reader.found file ≡ Ok c.in-Ok-read.found) c.requires.short
    (λ file told. c.in-Ok-read.ensures.reads.found file (c.in-Ok.ensures.bytes ∙ told))

pub returns-in-Err-clause-comes : goal.returns-in-Err-clause-comes
returns-in-Err-clause-comes g c =
    let comes = rw (c.faults-before.ensures, c.faults-now.ensures) at c.fault_of_halt.ensures in
    halted g.R.Reader.most (state_of g.A.Disk c.args.first) (state_of g.A.Disk c.into_disk-first.result) c.into_disk-first.ensures.attached c.requires.short
    g.R.Reader.found c.in-Err.halt c.fault_of_halt.result comes c.in-Err.ensures.reads.plain
    (λ file told. c.in-Err.ensures.reads.found file (c.in-Ok.ensures.bytes ∙ told))
