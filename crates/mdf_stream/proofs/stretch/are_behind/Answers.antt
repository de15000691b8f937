use Rattle.std.proofs.Common.{rules, ◌≤◌, length, arith, true≢false, sym}
use Rattle.mdf_stream.proofs.Joins.{none, part_fits}
use Rattle.mdf_stream.proofs.Moves.{all_behind, each_behind}
use Rattle.mdf_stream.proofs.stretch.are_behind.Goals as goal

pub overflow_add-item : goal.overflow_add-item
overflow_add-item c =
    let fits = part_fits 0 none 0 c.args.items.now c.args.end c.loop-item.item-index c.requires (omega arith) in
    omega (arith, fits)

pub returns-then-item : goal.returns-then-item
returns-then-item c = (
  λ no. absurd (true≢false (sym no)),
  λ behind.
      let each = each_behind none 0 c.args.items.now c.args.end c.loop-item.item-index c.requires behind (omega arith) in
      absurd (omega (arith, each, c.if-item.true)),
)

pub returns : goal.returns
returns c = (
  λ is.
      let all : length c.args.items.now ≤ c.loop-item.item-index = omega (arith, c.loop-item-test.false) in
      all_behind none 0 c.args.items.now c.args.end c.requires (λ k less. c.loop-item.invariant k none (omega (arith, less, all))),
  λ behind. search rules,
)
