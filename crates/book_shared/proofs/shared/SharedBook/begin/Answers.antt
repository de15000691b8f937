use Rattle.mdf_gate.specs.Gated.{Gated}
use Rattle.book_owned.specs.FrontHalf.{FrontAccount}
use Rattle.book_shared.specs.declared.fixed.Fixed.{Fixed}
use Rattle.book_shared.proofs.Beginning.{begins}
use Rattle.book_shared.proofs.shared.SharedBook.begin.Goals as goal

pub shared_of-requires-clause-runs : goal.shared_of-requires-clause-runs
shared_of-requires-clause-runs g c =
    let fixed : Fixed (FrontAccount g.row.V.Denot) (Gated g.row.D.Denot) =
    record { front = c.of.result; back = c.of-2.result; owners = c.table_of.result; sources = c.args.sources } in
    let halves = c.in_ok-front in
    begins g.D.Disk c.args.book halves.front halves.back halves.ensures.front halves.ensures.back fixed c.of.ensures c.of-2.ensures halves.ensures.within c.requires.fresh
