use Rattle.std.proofs.Common.{ℕ, List, map, sym, subst}
use Rattle.mdf_stream.specs.Parts.{stream_size}
use Rattle.mdf_data.specs.Places.{HaveRoom}
use Rattle.mdf_group.specs.declared.row.GroupRow.{GroupRow}
use Rattle.mdf_content.specs.Records.{known_of}
use Rattle.mdf_content.proofs.found.data_at_in.Goals as goal

pub groups_found_in-requires-clause-room : goal.groups_found_in-requires-clause-room
groups_found_in-requires-clause-room g c =
    let total = stream_size c.args.view in
    subst (λ (lists : List (List ℕ)). HaveRoom total (map known_of c.as_slice.result.now) lists) (sym c.as_slice-2.ensures)
    (subst (λ (groups : List GroupRow). HaveRoom total (map known_of groups) c.args.lists) (sym c.as_slice.ensures) c.requires.room)
