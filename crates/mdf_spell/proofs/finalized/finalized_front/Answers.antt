use Rattle.mdf_spell.proofs.Wholes.{front_placed, front_named}
use Rattle.mdf_spell.proofs.finalized.finalized_front.Goals as goal

pub returns-clause-front : goal.returns-clause-front
returns-clause-front c =
    let head = c.place_head.new.draft in
    let recovered = c.args.recovered.now in
    let first = c.in_ok-place_head.ensures in
    let tree = c.in_ok-names.ensures in
    record {
      blocks = front_placed head recovered c.args.now_ns first c.place_tree.new.draft tree.placed;
      names = front_named head recovered c.args.now_ns first c.in_ok-names.names.items tree.names;
    }
