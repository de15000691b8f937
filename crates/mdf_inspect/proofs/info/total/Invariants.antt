use Rattle.std.proofs.Common.{◌≡◌, ◌≤◌, ◌*◌, take}
use Rattle.mdf_paged.specs.Groups.{shown_groups}
use Rattle.mdf_inspect.specs.Info.{total}
use Rattle.mdf_inspect.proofs.info.total.Given as goal

-- the samples of the groups so far were counted
abbrev pub invariant-loop-group : goal.invariant-loop-group
invariant-loop-group l = record {
  counted : l.total ≡ total (take l.group (shown_groups l.found));
  small : l.total ≤ l.group * 18446744073709551615;
}
