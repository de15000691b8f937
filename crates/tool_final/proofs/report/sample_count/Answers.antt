use Rattle.std.proofs.Common.{◌^◌, ◌∙◌, ℕ, Bor, length, ap, arith}
use Rattle.std.specs.Prelude.{sum_by}
use Rattle.std.specs.List.{zip}
use Rattle.std.proofs.lemmas.Iterator.{YieldsList-from_slice, YieldsList-from_zip}
use Rattle.std.proofs.lemmas.Iterator.Consumers.{YieldsList-end, YieldsList-turn}
use Rattle.std.proofs.lemmas.List.{take_all}
use Rattle.mdf_group.specs.declared.row.GroupRow.{GroupRow}
use Rattle.tool_final.specs.Finalized.{counted_pair}
use Rattle.tool_final.proofs.Sums.{all_past, one_more}
use Rattle.tool_final.proofs.report.sample_count.Goals as goal

pub loop-group-preserved : goal.loop-group-preserved
loop-group-preserved c =
    let loop = c.loop-group in
    let pairs = YieldsList-from_zip (YieldsList-from_slice c.args.groups.now (cc)) (YieldsList-from_slice c.args.counts.now (cc)) in
    let item : Bor GroupRow × Bor ℕ = (c.in-Some.group, c.in-Some.number) in
    let next = YieldsList-turn pairs loop.yielded loop.group-iterator loop.yielded_by c.next.result c.next.new.self item c.in-Some.is c.next.ensures.steps in
    one_more counted_pair (zip c.args.groups.now c.args.counts.now) loop.yielded item (c.in-Some.group.now, c.in-Some.number.now) loop.count
    c.in-Some-checked_add.sum next loop.invariant (omega (arith, c.in-Some-checked_add.ensures, c.counted.ensures))

pub returns-clause-count : goal.returns-clause-count
returns-clause-count c =
    let loop = c.loop-group in
    let pairs = YieldsList-from_zip (YieldsList-from_slice c.args.groups.now (cc)) (YieldsList-from_slice c.args.counts.now (cc)) in
    let end = YieldsList-end pairs loop.yielded loop.group-iterator loop.yielded_by c.next.result c.next.new.self c.in-None.is c.next.ensures.steps in
    loop.invariant ∙ ap (sum_by counted_pair) (take_all (length loop.yielded) (zip c.args.groups.now c.args.counts.now) (omega (arith, end.1)))

pub returns-in_default-clause-past : goal.returns-in_default-clause-past
returns-in_default-clause-past c =
    let loop = c.loop-group in
    let pairs = YieldsList-from_zip (YieldsList-from_slice c.args.groups.now (cc)) (YieldsList-from_slice c.args.counts.now (cc)) in
    let item : Bor GroupRow × Bor ℕ = (c.in-Some.group, c.in-Some.number) in
    let next = YieldsList-turn pairs loop.yielded loop.group-iterator loop.yielded_by c.next.result c.next.new.self item c.in-Some.is c.next.ensures.steps in
    all_past counted_pair (zip c.args.groups.now c.args.counts.now) loop.yielded item (c.in-Some.group.now, c.in-Some.number.now) loop.count (2 ^ 64)
    next loop.invariant (omega (arith, c.in_default.ensures, c.counted.ensures))
