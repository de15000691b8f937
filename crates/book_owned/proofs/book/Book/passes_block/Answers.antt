use Rattle.std.proofs.Common.{◌≤◌, ◌∙◌, ap, drop, sym, subst, arith}
use Rattle.std.proofs.lemmas.List.Sums.{sum_by-take-drop}
use Rattle.mdf_layout.specs.Record.{encoded_size, history_size}
use Rattle.book_owned.specs.Marks.{durable}
use Rattle.book_owned.specs.Split.{book_of_halves}
use Rattle.book_owned.proofs.Costs.{history_cost-least}
use Rattle.book_owned.proofs.book.Book.passes_block.Goals as goal

pub overflow_add-result : goal.overflow_add-result
overflow_add-result g c =
    let memory = c.self-inside.inside.0.0.memory in
    let counted = c.self-inside.invariant.counted in
    let old_is = ap (λ i. book_of_halves g.D.Disk i.front i.back) c.self-inside.view_is ∙ c.self.view_is in
    let small = subst (λ a. encoded_size a.terms.layouts c.args.sample.now ≤ a.terms.block_limit) (sym old_is) c.requires.size in
    omega (
      arith,
      small,
      counted.block,
      c.encoded_size-size.ensures,
      c.pending.ensures,
      ap (λ a. history_size a.terms.layouts (drop (durable a.marks) a.history)) old_is,
      sum_by-take-drop (encoded_size memory.shapes) memory.history.items (durable memory.marks.items),
      history_cost-least memory.shapes memory.history.items,
      counted.held,
      counted.within,
      counted.session,
    )
