use Rattle.std.proofs.Common.{◌≡◌, ◌*◌, ◌++◌, ◌∷◌, [], ◌∙◌, ap, ℕ, List}
use Rattle.mdf_content.specs.Records.{record_size}
use Rattle.tool_complete.specs.Records.{count_alone}
use Rattle.tool_complete.proofs.Tallies.{alone_tally}
use Rattle.tool_complete.proofs.records.tally_alone.Goals as goal

pub returns-clause-tally : goal.returns-clause-tally
returns-clause-tally c =
    let total = c.args.total in
    let group = c.index-groups-0.result in
    let count = c.count_alone-count.result in
    let is : count ≡ count_alone total group = c.count_alone-count.ensures.count in
    let counted : c.push.new.self ≡ count_alone total group ∷ [] =
    c.in_ok-push.ensures.ok
    ∙ ap (λ (counts : List ℕ). counts ++ count ∷ []) c.empty-counts.ensures
    ∙ ap (λ (n : ℕ). n ∷ []) is in
    alone_tally total c.args.groups.now group _ c.requires c.if-is_empty.ensures c.index-groups-0.is counted (
    ap (λ (n : ℕ). count * n) c.record_size.ensures.size ∙ ap (λ (n : ℕ). n * record_size group) is
    )
