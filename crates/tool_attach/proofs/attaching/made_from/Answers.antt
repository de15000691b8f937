use Rattle.std.proofs.lemmas.Result.{err_from_is_err_and}
use Rattle.tool_attach.specs.Carry.{Carrying}
use Rattle.tool_attach.proofs.Ends.{from_refused, file_refused, wanted, of_files}
use Rattle.tool_attach.proofs.attaching.made_from.Goals as goal

pub returns-in_err-rows-clause-refused : goal.returns-in_err-rows-clause-refused
returns-in_err-rows-clause-refused c =
    let asked : Carrying = record { from = c.args.from.now; file = c.args.file; now = c.args.now_ns } in
    let p = err_from_is_err_and c.from_residual.result c.from_residual.ensures.1 in
    rw (p.1, p.2) (from_refused asked c.in_err-rows.field-0.0 c.in_err-rows.ensures)

pub returns-in_err-found-clause-refused : goal.returns-in_err-found-clause-refused
returns-in_err-found-clause-refused c =
    let asked : Carrying = record { from = c.args.from.now; file = c.args.file; now = c.args.now_ns } in
    let p = err_from_is_err_and c.from_residual-in_err-found.result c.from_residual-in_err-found.ensures.1 in
    rw (p.1, p.2) (file_refused asked c.in_ok-rows.rows c.in_ok-rows.ensures c.in_err-found.field-0.0 c.in_err-found.ensures.read)

pub returns-in_err-made-clause-refused : goal.returns-in_err-made-clause-refused
returns-in_err-made-clause-refused c =
    let asked : Carrying = record { from = c.args.from.now; file = c.args.file; now = c.args.now_ns } in
    let p = err_from_is_err_and c.from_residual-in_err-made.result c.from_residual-in_err-made.ensures.1 in
    rw (p.1, p.2) (wanted asked c.in_ok-rows.rows c.in_ok-rows.ensures)

pub returns-clause-made : goal.returns-clause-made
returns-clause-made c =
    let asked : Carrying = record { from = c.args.from.now; file = c.args.file; now = c.args.now_ns } in
    let rows = c.in_ok-rows.rows in
    let taken = c.in_ok-rows.ensures in
    let found = c.in_ok-found.found in
    of_files asked rows taken found c.in_ok-made.made c.in_ok-found.ensures.read c.in_ok-made.ensures.made
    (c.in_ok-made.ensures.keeps c.args.file c.in_ok-found.ensures.stands taken.writable taken.few)
