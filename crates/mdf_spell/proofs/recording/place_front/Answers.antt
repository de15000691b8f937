use Rattle.std.proofs.lemmas.Result.{on_ok_weaker}
use Rattle.mdf_spell.proofs.Fronts.{front_placed}
use Rattle.mdf_spell.proofs.recording.place_front.Goals as goal

pub returns : goal.returns
returns c =
    on_ok_weaker c.place_data.result
    (λ last. front_placed c.args.draft.now c.place_start.new.draft c.place_record_entry.new.draft c.place_data.new.draft c.args.start_ns
    c.requires c.in_ok-place_start.ensures c.in_ok-place_record_entry.ensures last)
    c.place_data.ensures
