use Rattle.std.proofs.Common.{◌≡◌, ◌-◌, ◌<◌, ◌≤◌, ℕ, length, get_or, map}
use Rattle.mdf_stream.specs.Parts.{stream_of, stream_size}
use Rattle.mdf_content.specs.Records.{known_of}
use Rattle.tool_complete.specs.Records.{whole_with_ids}
use Rattle.tool_complete.proofs.Tallies.{LeadsTally}
use Rattle.tool_complete.proofs.records.tally_with_ids.Given as goal

abbrev pub invariant-records : goal.invariant-records
invariant-records l = record {
  leads : LeadsTally (stream_of l.bytes l.view) (stream_size l.view) l.row.id_size (map known_of l.row.groups) (length l.row.groups)
      l.counts.items l.whole (whole_with_ids (stream_of l.bytes l.view) (stream_size l.view) l.row);
  stands : l.splitter ≡ record { id_size = l.row.id_size; known = map known_of l.row.groups; place = l.whole };
  all : length l.counts.items ≡ length l.row.groups;
  small : (k : ℕ) → k < length l.row.groups → get_or l.counts.items k 0 ≤ l.whole;
  within : l.whole ≤ stream_size l.view;
}

abbrev pub decreases-records : goal.decreases-records
decreases-records l = stream_size l.view - l.whole
