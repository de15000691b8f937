use Rattle.std.proofs.Common.{◌+◌, ◌≤◌, ◌<◌, length, get_or, arith}
use Rattle.mdf_stream.proofs.Joins.{none, part_fits, part_inside, bytes_there, ends_before}
use Rattle.mdf_stream.proofs.stretch.place_near.Goals as goal

pub overflow_add-result : goal.overflow_add-result
overflow_add-result c =
    let fits = part_fits c.args.at none 0 c.args.items.now c.args.end c.args.near c.requires.joined (omega arith) in
    omega (arith, fits)

pub returns-clause-inside : goal.returns-clause-inside
returns-clause-inside c = λ size inside.
    omega (arith, part_inside c.args.at none size c.args.items.now c.args.near inside (omega arith))

pub returns-clause-bytes : goal.returns-clause-bytes
returns-clause-bytes c = λ f inside.
    let stretches = c.args.items.now in
    let k = c.args.near in
    let below : k < length stretches = omega arith in
    let begins : (get_or stretches k none).end ≤ c.args.at + (get_or stretches k none).part.len = omega arith in
    bytes_there f c.args.count c.args.at none stretches c.args.end k c.requires.joined below
    (ends_before 0 c.args.at none stretches c.args.end k c.requires.joined below begins) (omega arith) inside (omega arith)
