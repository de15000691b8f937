use Rattle.std.proofs.lemmas.Result.{IfErr-weaker, IfOk-weaker, err_from_is_err_and}
use Rattle.tool_concat.specs.Concat.{Joining}
use Rattle.tool_concat.specs.Making.{IsMadeFrom, IsMadeOf, IsRefusal, IsRefused}
use Rattle.tool_concat.proofs.Ends.{first_refused, join_refused, of_files, second_refused}
use Rattle.tool_concat.proofs.Groups.{laid}
use Rattle.tool_concat.proofs.joining.made_from.Goals as goal

pub made_of-requires-clause-one : goal.made_of-requires-clause-one
made_of-requires-clause-one c = laid c.args.first c.in_ok-one.one.groups c.in_ok-one.ensures.stands.groups

pub made_of-requires-clause-other : goal.made_of-requires-clause-other
made_of-requires-clause-other c = laid c.args.second c.in_ok-other.other.groups c.in_ok-other.ensures.stands.groups

pub returns-in_err-one-clause-refused : goal.returns-in_err-one-clause-refused
returns-in_err-one-clause-refused c =
    let asked : Joining = record { first = c.args.first; second = c.args.second; now = c.args.now_ns } in
    let p = err_from_is_err_and c.from_residual.result c.from_residual.ensures.1 in
    rw (p.1, p.2) (first_refused asked c.in_err-one.field-0.0 c.in_err-one.ensures.read)

pub returns-in_err-other-clause-refused : goal.returns-in_err-other-clause-refused
returns-in_err-other-clause-refused c =
    let asked : Joining = record { first = c.args.first; second = c.args.second; now = c.args.now_ns } in
    let p = err_from_is_err_and c.from_residual-in_err-other.result c.from_residual-in_err-other.ensures.1 in
    rw (p.1, p.2) (second_refused asked c.in_ok-one.one c.in_ok-one.ensures.read c.in_err-other.field-0.0 c.in_err-other.ensures.read)

pub returns-clause-made : goal.returns-clause-made
returns-clause-made c =
    let asked : Joining = record { first = c.args.first; second = c.args.second; now = c.args.now_ns } in
    let one = c.in_ok-one.one in
    let other = c.in_ok-other.other in
    IfOk-weaker c.made_of.result (IsMadeFrom one other c.args.now_ns) (IsMadeOf asked)
    (λ made is. of_files asked one other made c.in_ok-one.ensures.read c.in_ok-other.ensures.read c.in_ok-one.ensures.stands is) c.made_of.ensures.made

pub returns-clause-refused : goal.returns-clause-refused
returns-clause-refused c =
    let asked : Joining = record { first = c.args.first; second = c.args.second; now = c.args.now_ns } in
    let one = c.in_ok-one.one in
    let other = c.in_ok-other.other in
    IfErr-weaker c.made_of.result (IsRefused one other) (IsRefusal asked)
    (join_refused asked one c.in_ok-one.ensures.read other c.in_ok-other.ensures.read) c.made_of.ensures.refused
