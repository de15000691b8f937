use Rattle.std.proofs.Common.{refl, lit<}
use Rattle.mdf_stream.specs.Stretch.{AreJoined}
use Rattle.mdf_stream.proofs.view.DataView.empty.Goals as goal

pub invariant_of-result : goal.invariant_of-result
unfolding AreJoined
invariant_of-result c = rw c.new.ensures.items (refl, lit< tt)
