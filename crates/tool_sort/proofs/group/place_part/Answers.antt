use Rattle.std.proofs.Common.{List, ℕ, [], ◌∷◌, ◌++◌, length, map, ◌∙◌, ap}
use Rattle.std.proofs.lemmas.Result.{on_ok_weaker}
use Rattle.mdf_format.specs.declared.kind.Kind.TheVariants.{Dt, Sd}
use Rattle.mdf_block.specs.Draft.{linked}
use Rattle.mdf_block.specs.declared.link.Link.{Link}
use Rattle.mdf_tree.specs.Group.{next_if}
use Rattle.mdf_spell.specs.Session.{data_block}
use Rattle.tool_sort.specs.Sorted.{past_part, tree_blocks}
use Rattle.tool_sort.proofs.Parts.{part_placed}
use Rattle.tool_sort.proofs.group.place_part.Goals as goal

pub returns-clause-placed : goal.returns-clause-placed
returns-clause-placed c =
    let w0 = c.args.draft.now in
    let part = c.args.part.now in
    let count = c.args.count in
    let w1 = c.place_tree.new.draft in
    let w2 = c.place_linked.new.self in
    let next = next_if c.args.more (past_part (length w0) part) in
    let tree = c.in_ok-place_tree.ensures
    ∙ ap (λ (link : Link). w0 ++ tree_blocks (length w0) link part count)
    (c.next_if.ensures ∙ ap (next_if c.args.more) (c.in_ok-past.ensures.past ∙ ap (λ (n : ℕ). past_part n part) c.in_ok-next_number.ensures.number.0)) in
    let records = c.in_ok-place_linked.ensures.ok ∙ ap (λ (links : List Link). w1 ++ linked Dt links c.args.content ∷ []) c.new.ensures.items in
    on_ok_weaker c.place_values.result
    (λ placed. part_placed w0 w1 w2 c.place_values.new.draft next (record part { content = c.args.content }) count tree records
    (placed ∙ ap (λ (streams : List (List ℕ)). w2 ++ map (data_block Sd) streams) c.as_slice.ensures))
    c.place_values.ensures
