use Rattle.std.proofs.Common.{◌≡◌, ℕ, ◌<◌, get_or}
use Rattle.mdf_conv.specs.declared.row.Ref.{Ref}
use Rattle.tool_concat.proofs.conversion.+same.Given as goal

abbrev pub invariant-same_refs-loop-k : goal.invariant-same_refs-loop-k
invariant-same_refs-loop-k l = (j : ℕ) (d : Ref) → j < l.k → get_or l.one j d ≡ get_or l.other j d
