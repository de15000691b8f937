use Rattle.std.proofs.Common.{◌++◌, List, ◌∙◌, ap}
use Rattle.std.specs.List.{flat_map}
use Rattle.mdf_model.specs.Measurement.{pair_measures}
use Rattle.mdf_model.proofs.Pairs.{all_pairs}
use Rattle.mdf_model.proofs.part.add_all.Goals as goal

pub returns : goal.returns
returns c =
    let pairs = all_pairs c.args.rows.items c.args.found.items c.into_iter-row-iterator.result c.loop-row.row-iterator c.next.new.self c.loop-row.yielded
    c.next.result (cc) (cc) (cc) (cc) c.loop-row.yielded_by c.in-None.is c.next.ensures.steps in
    c.loop-row.invariant ∙ ap (λ (all : List _). c.args.all.now.items ++ flat_map pair_measures all) pairs
