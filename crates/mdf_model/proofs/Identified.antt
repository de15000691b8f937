-- A file of which all is read, and so one that has a measurement, is identified.
use Rattle.std.proofs.Common.{◌≡◌, ℕ, List, Ok}
use Rattle.mdf_block.proofs.Refusals.{bind_ok}
use Rattle.mdf_model.specs.declared.whole.Whole.{Whole}
use Rattle.mdf_model.specs.declared.whole.WholeFound.{WholeFound}
use Rattle.mdf_model.specs.Tree.{finalized}
use Rattle.mdf_model.specs.Found.{whole, whole_found}
use Rattle.mdf_model.specs.Identified.{IsIdentified}
use Rattle.mdf_model.specs.Measurement.{Measured, measurement}

pub found_first : (f : List ℕ) (all : WholeFound) → whole_found f ≡ Ok all → IsIdentified f
unfolding whole_found
found_first f all is = let first = bind_ok (finalized f) _ all is in (first.0, first.1)

pub whole_first : (f : List ℕ) (all : Whole) → whole f ≡ Ok all → IsIdentified f
unfolding whole
whole_first f all is = let found = bind_ok (whole_found f) _ all is in found_first f found.0 found.1

pub measured_is_identified : (f : List ℕ) (found : Measured) → measurement f ≡ Ok found → IsIdentified f
unfolding measurement
measured_is_identified f found is = let all = bind_ok (whole f) _ found is in whole_first f all.0 all.1
