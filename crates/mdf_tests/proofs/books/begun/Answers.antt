use Rattle.std.proofs.Common.{◌≤◌, arith}
use Rattle.mdf_tests.proofs.Begins.{one_group}
use Rattle.mdf_tests.proofs.books.begun.Goals as goal

pub begin-requires-clause-admissible : goal.begin-requires-clause-admissible
begin-requires-clause-admissible g c =
    let one = c.requires.one in
    let some : 1 ≤ c.args.block = omega arith in
    let most : c.args.block ≤ 16777216 = omega arith in
    let within : c.args.session ≤ 268435456 = omega arith in
    one_group c.args.shapes one.0 c.args.block c.args.session one.1 one.2 one.3 one.4 some most within
