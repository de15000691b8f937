use Rattle.mdf_model.proofs.Wholes.{tree_passes, measurement_passes}
use Rattle.mdf_model.proofs.law.links_passed_over_are_counted.Goals as goal

pub returns-clause-tree : goal.returns-clause-tree
returns-clause-tree c = tree_passes

pub returns-clause-measurement : goal.returns-clause-measurement
returns-clause-measurement c = measurement_passes
