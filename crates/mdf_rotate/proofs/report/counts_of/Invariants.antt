use Rattle.std.proofs.Common.{◌≡◌, ◌≤◌, ◌*◌, ◌^◌, take}
use Rattle.mdf_rotate.specs.Text.{begun_count, records_of, sample_count}
use Rattle.mdf_rotate.proofs.report.counts_of.Given as goal

-- those of the parts so far
abbrev pub invariant-loop-part : goal.invariant-loop-part
invariant-loop-part g l = record {
  begun : l.begun ≡ begun_count (records_of (take l.part-index l.parts));
  samples : l.samples ≡ sample_count (records_of (take l.part-index l.parts));
  few : l.begun ≤ l.part-index;
  less : l.samples ≤ 2 ^ 64 * l.part-index;
}
