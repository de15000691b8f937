use Rattle.std.proofs.Common.{◌-◌, ◌+◌, ◌<◌, ◌≡◌, ◌∙◌, ap, arith, length}
use Rattle.std.proofs.lemmas.List.{length-map}
use Rattle.std.specs.Arc.{arc_value}
use Rattle.mdf_layout.specs.Chunked.{start_of}
use Rattle.mdf_layout.specs.declared.chunks.Part.{Part}
use Rattle.mdf_layout.proofs.Joined.{none_begins, part_start}
use Rattle.mdf_layout.proofs.chunks.Chunks.beginning_at.Goals as goal

pub returns-else-part-at-clause-none : goal.returns-else-part-at-clause-none
returns-else-part-at-clause-none c =
    let parts = c.self.inside.parts.items in
    let k = c.upto-count.result - 1 in
    let count : c.upto-count.result ≡ k + 1 = omega arith in
    let below : k < length parts =
    omega (arith, count, c.upto-count.ensures.bound, ap length c.self.view_is, length-map parts (λ (part : Part). arc_value part.chunk)) in
    let start = part_start parts c.self.inside.len k c.index-part.result.now c.self.invariant below c.index-part.ensures in
    none_begins c.args.self.now c.args.at c.upto-count.result c.upto-count.ensures.before c.upto-count.ensures.later k count
    (λ same. c.if-part-at.false (start ∙ ap (λ xs. start_of xs k) c.self.view_is ∙ same))
