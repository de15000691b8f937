use Rattle.std.proofs.Common.{◌++◌}
use Rattle.std.proofs.lemmas.Result.{err_from_is_err_and}
use Rattle.mdf_command.specs.Texts.{numbered}
use Rattle.mdf_inspect.specs.Info.{group_line, total_line, version_line}
use Rattle.mdf_inspect.specs.Reading.{reading_of}
use Rattle.mdf_command.proofs.Pieces.{gives_behind, gives_failed}
use Rattle.mdf_inspect.proofs.info.give_contents.Goals as goal

pub returns-in_err-give_version : goal.returns-in_err-give_version
returns-in_err-give_version g c =
    let found = reading_of c.args.found.now in
    let p = err_from_is_err_and c.from_residual.result c.from_residual.ensures.1 in
    rw (p.1) (gives_failed (version_line found.version) (numbered group_line 0 found.groups ++ total_line found) _ _ _ _ (rw c.ident.ensures at c.in_err-give_version.ensures))

pub returns-in_err-give_groups : goal.returns-in_err-give_groups
returns-in_err-give_groups g c =
    let found = reading_of c.args.found.now in
    let p = err_from_is_err_and c.from_residual-in_err-give_groups.result c.from_residual-in_err-give_groups.ensures.1 in
    rw (p.1) (gives_behind (version_line found.version) (numbered group_line 0 found.groups ++ total_line found) _ _ _ _
    (rw c.ident.ensures at c.in_ok-give_version.ensures.ok) c.give_version.ensures.cause.later
    (gives_failed (numbered group_line 0 found.groups) (total_line found) _ _ _ _ c.in_err-give_groups.ensures))

pub returns : goal.returns
returns g c =
    let found = reading_of c.args.found.now in
    gives_behind (version_line found.version) (numbered group_line 0 found.groups ++ total_line found) _ _ _ _
    (rw c.ident.ensures at c.in_ok-give_version.ensures.ok) c.give_version.ensures.cause.later
    (gives_behind (numbered group_line 0 found.groups) (total_line found) _ _ _ _
    c.in_ok-give_groups.ensures.ok c.give_groups.ensures.cause.later c.give_total.ensures)
