use Rattle.std.proofs.Common.{◌+◌, ◌≤◌, sym, ◌∙◌, ap, subst}
use Rattle.std.specs.List.{AllByRecursion}
use Rattle.std.specs.Prelude.{slice_index_or}
use Rattle.mdf_stream.specs.Parts.{stream_size}
use Rattle.mdf_content.proofs.Tables.{values_room}
use Rattle.mdf_content.proofs.streams.channel_bytes_in.Goals as goal

pub values_stream_in-requires-clause-room : goal.values_stream_in-requires-clause-room
values_stream_in-requires-clause-room g c =
    let held = c.args.held.now in
    let total = stream_size held.view.now in
    let none = ap (slice_index_or held.lists.now c.in-Some.k) c.empty-none.ensures in
    subst (AllByRecursion (λ place. place + 4 ≤ total)) (sym (c.places_or-places.ensures ∙ none))
    (values_room total held.groups.now held.lists.now c.args.at c.in-Some.k c.requires.held.room (sym c.in-Some.ensures))
