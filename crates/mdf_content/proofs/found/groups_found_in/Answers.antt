use Rattle.mdf_stream.specs.Parts.{stream_size}
use Rattle.mdf_content.proofs.Rooms.{rooms}
use Rattle.mdf_content.proofs.found.groups_found_in.Goals as goal

pub every_in-requires-clause-admitted : goal.every_in-requires-clause-admitted
every_in-requires-clause-admitted g c = rooms (stream_size c.args.view.now) c.args.groups.now c.args.lists.now c.requires.room
