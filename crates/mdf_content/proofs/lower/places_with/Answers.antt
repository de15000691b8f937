use Rattle.std.specs.Prelude.{◌≡◌, length}
use Rattle.mdf_block.proofs.Raised.{reads_raised, if_ok_raised}
use Rattle.mdf_stream.specs.Parts.{stream_size}
use Rattle.mdf_data.specs.Places.{HaveRoom}
use Rattle.mdf_data.specs.Record.{split_refusal}
use Rattle.mdf_content.specs.Fault.{read_refusal}
use Rattle.mdf_content.proofs.lower.places_with.Goals as goal

pub returns : goal.returns
returns g c = record {
  reads = reads_raised _ c.map_err.ensures.cases c.places_in.ensures.reads;
  count = if_ok_raised split_refusal read_refusal (λ lists. length lists ≡ length c.args.known.now) _ _ c.map_err.ensures.cases c.places_in.ensures.count;
  room = if_ok_raised split_refusal read_refusal (HaveRoom (stream_size c.args.view.now) c.args.known.now) _ _ c.map_err.ensures.cases c.places_in.ensures.room;
}
