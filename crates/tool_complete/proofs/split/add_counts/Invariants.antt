use Rattle.std.proofs.Common.{◌≡◌, ◌<◌, ◌++◌, ℕ, List, length, drop}
use Rattle.std.specs.Prelude.{slice_index_or}
use Rattle.mdf_data.specs.declared.known.Piece.{Piece}
use Rattle.tool_complete.specs.Records.{count_of}
use Rattle.tool_complete.specs.Settings.{AreFieldsIn}
use Rattle.tool_complete.proofs.Mends.{counts_from}
use Rattle.tool_complete.proofs.split.add_counts.Given as goal

abbrev pub invariant-loop-k : goal.invariant-loop-k
invariant-loop-k l = record {
  added : (records : List Piece) → ((k : ℕ) → k < length l.groups → slice_index_or l.counts k 0 ≡ count_of k records)
      → l.settings ++ counts_from l.bytes records l.k (drop l.k l.groups) ≡ l.initial.settings ++ counts_from l.bytes records 0 l.groups;
  inside : AreFieldsIn (length l.bytes) l.initial.settings → AreFieldsIn (length l.bytes) l.settings;
}
