use Rattle.std.proofs.Common.{length, ap, sym, subst, arith, length-take}
use mathlib.Core.List.{IsPrefix}
use Rattle.mdf_gate.proofs.Carrying.{prefix_self}
use Rattle.book_owned.proofs.front.seal.Goals as goal

pub returns-in-Ok-clause-upto : goal.returns-in-Ok-clause-upto
returns-in-Ok-clause-upto g c = omega (arith, ap length c.in-Ok.ensures.ok.ends, length-take c.args.upto c.args.front.now.history.items)

pub returns-in-Err-clause-stay : goal.returns-in-Err-clause-stay
returns-in-Err-clause-stay g c =
    subst (IsPrefix c.args.front.now.history.chunks) (sym c.in-Err.ensures.err) (prefix_self c.args.front.now.history.chunks)
