use Rattle.std.proofs.Common.{arith}
use Rattle.std.specs.Prelude.{slice_index_or}
use Rattle.book_shared.proofs.Beginning.{filled_none, filled_on}
use Rattle.std.proofs.Common.{refl}
use Rattle.book_shared.proofs.opening.table_of.Goals as goal

pub loop-group-init : goal.loop-group-init
loop-group-init c = (omega arith, filled_none c.args.owners.now)

pub loop-group-preserved : goal.loop-group-preserved
loop-group-preserved c =
    let group = c.loop-group.group in
    let owners = c.args.owners.now in (
      omega (arith, c.loop-group-test.true),
      filled_on c.loop-group.table owners group (slice_index_or owners group 0) (omega (arith, c.loop-group-test.true, c.requires.few)) refl c.loop-group.invariant.1,
    )
