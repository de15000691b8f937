use Rattle.std.proofs.lemmas.Result.{err_from_is_err_and}
use Rattle.mdf_inspect.proofs.opened.count.Goals as goal

pub returns-in_err-opened-clause-comes : goal.returns-in_err-opened-clause-comes
returns-in_err-opened-clause-comes g c =
    let p = err_from_is_err_and c.from_residual-in_err-opened.result c.from_residual-in_err-opened.ensures.1 in
    let none = rw c.as_slice.ensures at c.in_err-opened.ensures.not_opened in
    let has = rw c.as_slice.ensures at c.in_err-opened.ensures.fault in
    rw (p.1, p.2) (c.in_ok-bytes.bytes, c.in_ok-bytes.ensures.comes, has, none)

pub returns-clause-comes : goal.returns-clause-comes
returns-clause-comes g c =
    let counts = rw c.as_slice.ensures at c.in_ok-opened.ensures.opened in
    (c.in_ok-bytes.bytes, c.in_ok-bytes.ensures.comes, counts)
