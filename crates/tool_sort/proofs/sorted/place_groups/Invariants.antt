use Rattle.std.proofs.Common.{◌≡◌, ◌<◌, ◌^◌, ◌++◌, length, take, drop}
use Rattle.std.specs.List.{AllByRecursion}
use Rattle.mdf_model.specs.declared.part.Measure.{Measure}
use Rattle.tool_sort.specs.Sorted.{measures_blocks}
use Rattle.tool_sort.proofs.sorted.place_groups.Given as goal

-- the blocks so far and those of what is left are all, and what is left stands as it was
abbrev pub invariant-loop-i : goal.invariant-loop-i
invariant-loop-i l = record {
  placed : l.draft ++ measures_blocks (length l.draft) (drop l.i l.initial.measurement.groups)
      ≡ l.initial.draft ++ measures_blocks (length l.initial.draft) l.initial.measurement.groups;
  fit : AllByRecursion (λ (m : Measure). m.count < 2 ^ 64) (take l.i l.initial.measurement.groups);
  rest : drop l.i l.measurement.groups ≡ drop l.i l.initial.measurement.groups;
}
