use Rattle.std.proofs.Common.{◌≡◌, ◌≤◌, ◌++◌, drop, length, fold}
use Rattle.mdf_record.specs.Sources.{counts_of, ends_of, worse, worst}
use Rattle.mdf_record.proofs.sources.told_all.Given as goal

-- what is left makes of what is told so far what is told of all
abbrev pub invariant-loop-driven : goal.invariant-loop-driven
invariant-loop-driven l = record {
  counts : l.accepted.items ++ counts_of (drop l.driven-index l.all) ≡ counts_of l.all;
  told : fold worse l.end (ends_of (drop l.driven-index l.all)) ≡ worst (ends_of l.all);
  room : length (drop l.driven-index l.all) ≤ l.accepted.spare;
}
