use Rattle.std.proofs.Common.{List, ◌∷◌, [], ◌++◌, length, ◌∙◌, ap}
use Rattle.std.proofs.lemmas.Result.{on_ok_weaker}
use Rattle.mdf_block.specs.declared.link.Link.{Link}
use Rattle.mdf_tree.specs.Group.{groups_blocks}
use Rattle.tool_sort.specs.Sorted.{sorted_group}
use Rattle.tool_sort.proofs.Parts.{tree_placed}
use Rattle.tool_sort.proofs.group.place_tree.Goals as goal

pub returns : goal.returns
returns c =
    let w2 = c.place_note.new.draft in
    let one = sorted_group c.args.part.now c.args.count in
    on_ok_weaker c.place_own_group.result
    (λ placed. tree_placed c.args.draft.now c.place_own.new.draft w2 c.place_own_group.new.draft c.in_ok-next_number.field-0 c.args.next c.args.part.now c.args.count
    c.in_ok-stream_count.field-0 c.in_ok-values.values.items c.in_ok-places.places
    c.in_ok-next_number.ensures.number.0 c.in_ok-places.ensures c.in_ok-stream_count.ensures.0 c.in_ok-values.ensures
    c.in_ok-place_own.ensures c.in_ok-place_note.ensures.ok
    (placed ∙ ap (λ (given : List Link). w2 ++ groups_blocks (length w2) given (one ∷ [])) c.as_slice.ensures.value))
    c.place_own_group.ensures
