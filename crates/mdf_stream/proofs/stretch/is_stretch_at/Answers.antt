use Rattle.std.proofs.Common.{rules, leb-true, ◌<◌, length}
use Rattle.mdf_stream.proofs.Joins.{rises}
use Rattle.mdf_stream.proofs.stretch.is_stretch_at.Goals as goal

pub returns-else-k-eq0-clause-before : goal.returns-else-k-eq0-clause-before
returns-else-k-eq0-clause-before c = λ j d past less.
    let below : c.args.k < length c.args.items.now = search rules in
    rises c.args.at c.args.items.now c.args.k j d c.requires below (leb-true _ _ past) less
