use Rattle.std.proofs.Common.{◌≡◌, ℕ, List, [], ◌∷◌, ◌++◌, map, sym, ◌∙◌, ap, subst, arith}
use Rattle.mdf_data.specs.Places.{HaveRoom}
use Rattle.mdf_content.specs.Records.{known_of}
use Rattle.mdf_content.proofs.Rooms.{room_alone}
use Rattle.mdf_content.proofs.records.places_without_ids.Goals as goal

pub returns-clause-room : goal.returns-clause-room
returns-clause-room c =
    let groups = c.args.groups.now in
    let places = c.places_alone.result in
    let is : c.push.new.self ≡ places ∷ [] =
    c.in_ok-push.ensures.ok ∙ ap (λ (lists : List (List ℕ)). lists ++ places ∷ []) c.empty-lists.ensures in
    subst (HaveRoom c.args.total (map known_of groups)) (sym is)
    (room_alone c.args.total c.empties_of-empties.result c.size_of.result groups c.index-groups-0.result places (omega (arith, c.requires.one))
    c.index-groups-0.is c.size_of.ensures c.places_alone.ensures.places)
