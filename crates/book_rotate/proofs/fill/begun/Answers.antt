use Rattle.std.proofs.Common.{[], ◌∷◌, All, sym, subst, arith}
use Rattle.std.proofs.lemmas.Grind.{common_steps}
use Rattle.std.proofs.lemmas.List.Elements.{All-append, All-cons, All-nil}
use Rattle.book_rotate.specs.Fill.{HasNone}
use Rattle.book_rotate.proofs.fill.begun.Goals as goal

-- a share came behind the others
pub loop-left-preserved : goal.loop-left-preserved
loop-left-preserved c = record {
  tasks = grind (arith, common_steps);
  none = subst (All HasNone) (sym c.push_reserved.ensures.items) (All-append HasNone c.loop-left.shares.items (record { part = c.new.result; left = c.in-Some.left } ∷ [])
      c.loop-left.invariant.none (All-cons HasNone (record { part = c.new.result; left = c.in-Some.left }) [] c.new.ensures.items (All-nil HasNone)));
  room = grind (arith, common_steps);
}
