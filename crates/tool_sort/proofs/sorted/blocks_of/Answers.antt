use Rattle.std.proofs.Common.{ℕ, List, ◌∙◌, ap}
use Rattle.std.specs.Prelude.{nat_lt}
use Rattle.mdf_head.specs.declared.entry.Head.{Head}
use Rattle.mdf_head.specs.declared.entry.History.{History}
use Rattle.mdf_spell.specs.Titled.{titled_head}
use Rattle.tool_sort.proofs.Parts.{file_placed}
use Rattle.tool_sort.proofs.sorted.blocks_of.Goals as goal

pub returns-clause-placed : goal.returns-clause-placed
returns-clause-placed c =
    let m = c.args.measurement.now in
    let title = c.args.title.now in
    let now = c.args.now_ns in
    let some = nat_lt 0 c.groups-more.result in
    file_placed c.place_head.new.draft c.place_groups.new.draft m title now
    (c.in_ok-place_head.ensures
    ∙ ap (λ (head : Head). titled_head head c.as_slice.result.now title now some) c.head.ensures
    ∙ ap (λ (history : List History). titled_head m.head history title now some) (c.as_slice.ensures ∙ c.history.ensures)
    ∙ ap (λ (count : ℕ). titled_head m.head m.history title now (nat_lt 0 count)) c.groups-more.ensures)
    c.in_ok-place_groups.ensures.placed
