use Rattle.std.proofs.Common.{List, ◌++◌, length, ◌∙◌, ap}
use Rattle.std.proofs.lemmas.Result.{on_ok_weaker}
use Rattle.mdf_block.specs.Draft.{Placed}
use Rattle.tool_sort.specs.Sorted.{sorted_group}
use Rattle.tool_sort.proofs.Parts.{one_group}
use Rattle.tool_sort.proofs.group.place_own_group.Goals as goal

pub returns : goal.returns
returns c =
    let w = c.args.draft.now in
    on_ok_weaker c.place_group.result
    (λ placed. placed ∙ ap (λ (blocks : List Placed). w ++ blocks) (one_group (length w) c.args.values.now (sorted_group c.args.part.now c.args.count)))
    c.place_group.ensures.placed
