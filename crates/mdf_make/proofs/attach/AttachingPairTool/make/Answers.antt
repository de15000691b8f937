use Rattle.std.proofs.Common.{ℕ, List, Ok, Err, ◌∙◌, ap, subst}
use Rattle.mdf_disk.specs.Crash.{Adds}
use Rattle.mdf_disk.specs.State.{state_of}
use Rattle.tool_attach.specs.Carry.{CarryEnds, IsCarryImage, IsCarrying}
use Rattle.tool_concat.specs.Concat.{Joining}
use Rattle.mdf_make.specs.Attach.{AreNotCarried, carrying_of, fault_of_carry}
use Rattle.mdf_make.proofs.Blaming.{carry_is_of}
use Rattle.mdf_make.proofs.Leaving.{carry_fault}
use Rattle.mdf_make.proofs.WithoutRest.{told_adds, told_ends}
use Rattle.mdf_make.proofs.attach.AttachingPairTool.make.Goals as goal

pub returns-in-Ok-clause-ends : goal.returns-in-Ok-clause-ends
returns-in-Ok-clause-ends g c =
    let disk = g.C.Disk in
    let asked : Joining = record { first = c.args.one; second = c.args.two; now = c.args.now_ns } in
    told_ends (IsCarrying (carrying_of asked)) (AreNotCarried asked) (state_of disk c.args.out.now) (state_of disk c.attach.new.out)
    c.in-Ok.report c.from.result c.from.ensures
    (subst (λ (from : List ℕ). CarryEnds (record { from = from; file = c.args.two; now = c.args.now_ns }) (state_of disk c.args.out.now)
    (state_of disk c.attach.new.out) (Ok c.in-Ok.report)) c.as_slice.ensures c.in-Ok.ensures.ends)

pub returns-in-Ok-clause-any_moment : goal.returns-in-Ok-clause-any_moment
returns-in-Ok-clause-any_moment g c =
    let asked : Joining = record { first = c.args.one; second = c.args.two; now = c.args.now_ns } in
    told_adds (IsCarrying (carrying_of asked)) (g.C.Disk.story c.args.out.now) (g.C.Disk.story c.attach.new.out)
    (subst (λ (from : List ℕ). Adds (g.C.Disk.story c.args.out.now) (g.C.Disk.story c.attach.new.out)
    (IsCarryImage (record { from = from; file = c.args.two; now = c.args.now_ns }))) c.as_slice.ensures c.attach.ensures.any_moment)

pub returns-clause-ends : goal.returns-clause-ends
returns-clause-ends g c =
    let disk = g.C.Disk in
    let asked : Joining = record { first = c.args.one; second = c.args.two; now = c.args.now_ns } in
    let ends = subst (λ (from : List ℕ). CarryEnds (record { from = from; file = c.args.two; now = c.args.now_ns }) (state_of disk c.args.out.now)
    (state_of disk c.attach.new.out) (Err c.in-Err.fault)) c.as_slice.ensures c.in-Err.ensures.ends in
    let is = c.fault_of.ensures ∙ ap (λ (from : List ℕ). fault_of_carry from c.in-Err.fault) c.as_slice-in-Err.ensures in
    rw is (carry_fault asked (state_of disk c.args.out.now) (state_of disk c.attach.new.out) c.in-Err.fault ends)

pub returns-clause-whose : goal.returns-clause-whose
returns-clause-whose g c =
    let disk = g.C.Disk in
    let asked : Joining = record { first = c.args.one; second = c.args.two; now = c.args.now_ns } in
    let ends = subst (λ (from : List ℕ). CarryEnds (record { from = from; file = c.args.two; now = c.args.now_ns }) (state_of disk c.args.out.now)
    (state_of disk c.attach.new.out) (Err c.in-Err.fault)) c.as_slice.ensures c.in-Err.ensures.ends in
    rw (c.fault_of.ensures, c.blamed_for.ensures, c.as_slice-in-Err.ensures)
    (carry_is_of asked (state_of disk c.args.out.now) (state_of disk c.attach.new.out) c.in-Err.fault ends)

pub returns-clause-any_moment : goal.returns-clause-any_moment
returns-clause-any_moment g c =
    let asked : Joining = record { first = c.args.one; second = c.args.two; now = c.args.now_ns } in
    told_adds (IsCarrying (carrying_of asked)) (g.C.Disk.story c.args.out.now) (g.C.Disk.story c.attach.new.out)
    (subst (λ (from : List ℕ). Adds (g.C.Disk.story c.args.out.now) (g.C.Disk.story c.attach.new.out)
    (IsCarryImage (record { from = from; file = c.args.two; now = c.args.now_ns }))) c.as_slice.ensures c.attach.ensures.any_moment)
