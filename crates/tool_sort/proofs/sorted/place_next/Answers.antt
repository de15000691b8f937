use Rattle.std.proofs.Common.{◌≡◌, ◌+◌, ◌++◌, ℕ, List, length, get_or, ◌∙◌, ap, arith, drop-set-lt}
use Rattle.std.proofs.lemmas.Result.{on_ok_weaker}
use Rattle.std.specs.Prelude.{drop}
use Rattle.mdf_model.specs.declared.part.GroupPart.{GroupPart}
use Rattle.mdf_model.specs.declared.part.Measure.{Measure}
use Rattle.mdf_model.specs.Measurement.{Measured}
use Rattle.mdf_model.proofs.Taken.{emptied, taken_at, taken_length}
use Rattle.mdf_tree.specs.Group.{next_if}
use Rattle.tool_sort.specs.Sorted.{part_blocks, past_part}
use Rattle.tool_sort.proofs.Parts.{some_measure}
use Rattle.tool_sort.proofs.sorted.place_next.Goals as goal

pub part-requires : goal.part-requires
part-requires c =
    let all = c.args.measurement.now in
    let d = some_measure all.groups (omega (arith, c.requires)) in
    omega (arith, c.requires, taken_length all c.take_content-content.new.self c.args.i c.requires c.take_content-content.ensures.left d)

pub returns-clause-placed : goal.returns-clause-placed
returns-clause-placed c d =
    let all = c.args.measurement.now in
    let w = c.args.draft.now in
    let m = get_or all.groups c.args.i d in
    let left = emptied m in
    let taken = c.take_content-content in
    let part : c.part.result.now ≡ left.part =
    c.part.ensures d ∙ ap (λ (one : Measure). one.part) (taken_at all taken.new.self c.args.i c.requires taken.ensures.left d) in
    let blocks : GroupPart → List ℕ → ℕ → List _ = λ p content count.
    w ++ part_blocks (length w) (next_if c.args.more (past_part (length w) p)) (record p { content = content }) count in
    on_ok_weaker c.place_part.result
    (λ placed. placed
    ∙ ap (λ (p : GroupPart). blocks p taken.result c.samples-count.result) part
    ∙ ap (λ (content : List ℕ). blocks left.part content c.samples-count.result) (taken.ensures.content d)
    ∙ ap (λ (count : ℕ). blocks left.part m.part.content count) (c.samples-count.ensures d))
    c.place_part.ensures.placed

pub returns-clause-rest : goal.returns-clause-rest
returns-clause-rest c =
    let all = c.args.measurement.now in
    let d = some_measure all.groups (omega (arith, c.requires)) in
    ap (λ (found : Measured). drop (c.args.i + 1) found.groups) (c.take_content-content.ensures.left d)
    ∙ drop-set-lt (c.args.i + 1) all.groups c.args.i (emptied (get_or all.groups c.args.i d)) (omega arith)
