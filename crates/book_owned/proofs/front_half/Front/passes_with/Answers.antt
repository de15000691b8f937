use Rattle.std.proofs.Common.{◌≤◌, ap, drop, sym, subst, arith}
use Rattle.std.proofs.lemmas.List.Sums.{sum_by-take-drop}
use Rattle.mdf_layout.specs.Record.{encoded_size, history_size}
use Rattle.book_owned.proofs.Costs.{history_cost-least}
use Rattle.book_owned.proofs.front_half.Front.passes_with.Goals as goal

pub overflow_add-result : goal.overflow_add-result
overflow_add-result g c =
    let memory = c.self.inside.memory in
    let counted = c.self.invariant.counted in
    let small = subst (λ a. c.args.size ≤ a.terms.block_limit) (sym c.self.view_is) c.requires.small in
    omega (
      arith,
      small,
      counted.block,
      c.pending.ensures,
      ap (λ a. history_size a.terms.layouts (drop a.from a.history)) c.self.view_is,
      sum_by-take-drop (encoded_size memory.shapes) memory.history.items memory.from,
      history_cost-least memory.shapes memory.history.items,
      counted.held,
      counted.within,
      counted.session,
    )
