use Rattle.std.proofs.Common.{◌≡◌, ◌*◌, ℕ, length, sym, ◌∙◌, ap, arith}
use Rattle.tool_cut.specs.Kept.{is_kept}
use Rattle.tool_sort.proofs.Behind.{record_inside}
use Rattle.tool_cut.proofs.Keepings.{count_few}
use Rattle.tool_cut.proofs.Places.{keeps_more, keeps_none}
use Rattle.tool_cut.proofs.kept.keep_records.Goals as goal

pub loop-i-init : goal.loop-i-init
loop-i-init g c =
    keeps_none c.args.shape.now (is_kept c.args.range.from c.args.range.to c.args.shape.now c.args.field c.args.content.now) c.args.content.now

pub keep_record-kept-requires-clause-before : goal.keep_record-kept-requires-clause-before
keep_record-kept-requires-clause-before g c =
    let keeps = is_kept c.args.range.from c.args.range.to c.args.shape.now c.args.field c.args.content.now in
    omega (arith, count_few keeps c.loop-i.i, c.loop-i.invariant.count)

pub loop-i-preserved : goal.loop-i-preserved
loop-i-preserved g c =
    let one = c.keep_record-kept in
    keeps_more c.args.shape.now c.args.range.from c.args.range.to c.args.field c.args.content.now c.loop-i.content one.new.content c.loop-i.i c.loop-i.kept
    one.result c.loop-i.invariant one.ensures.count one.ensures.front one.ensures.rest one.ensures.len

pub keep_record-kept-requires-clause-inside : goal.keep_record-kept-requires-clause-inside
keep_record-kept-requires-clause-inside g c =
    let size = c.record_size-size in
    let long : length c.loop-i.content ≡ c.args.count * size.result =
    c.loop-i.auto.content ∙ c.requires.long ∙ ap (λ (n : ℕ). c.args.count * n) (sym size.ensures.size) in
    record_inside c.loop-i.i c.args.count size.result (length c.loop-i.content) c.loop-i-test.true long
