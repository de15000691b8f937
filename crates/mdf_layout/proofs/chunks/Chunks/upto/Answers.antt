use Rattle.std.proofs.Common.{◌<◌, ◌≤◌, ◌∙◌, leb, length, ap, arith, rules, sym, subst}
use Rattle.std.proofs.lemmas.List.{length-map}
use Rattle.std.proofs.lemmas.List.Sorted.{IsPartitionPoint-from_clause}
use Rattle.std.specs.Arc.{arc_value}
use Rattle.mdf_layout.specs.Chunked.{start_of}
use Rattle.mdf_layout.specs.Parts.{AreParts, chunks_of}
use Rattle.mdf_layout.specs.declared.chunks.Part.{Part}
use Rattle.mdf_layout.proofs.Joined.{parts_parted, starts_before, starts_later}
use Rattle.mdf_layout.proofs.chunks.Chunks.upto.Goals as goal

pub returns-clause-before : goal.returns-clause-before
returns-clause-before c =
    let inside = c.self.inside in
    let parts = c.as_slice.result.now in
    let are : AreParts parts inside.len = subst (λ xs. AreParts xs inside.len) (sym c.as_slice.ensures.value) c.self.invariant in
    let point = IsPartitionPoint-from_clause (λ (part : Part). leb part.start c.args.at) _ _ c.partition_point.ensures.partitioned
    (parts_parted parts inside.len c.args.at are) (λ a r q k. search rules) in
    λ k less. subst (λ xs. start_of xs k ≤ c.args.at) (ap chunks_of c.as_slice.ensures.value ∙ c.self.view_is)
    (starts_before parts inside.len c.args.at c.partition_point.result are point c.partition_point.ensures.bound k less)

pub returns-clause-later : goal.returns-clause-later
returns-clause-later c =
    let inside = c.self.inside in
    let parts = c.as_slice.result.now in
    let are : AreParts parts inside.len = subst (λ xs. AreParts xs inside.len) (sym c.as_slice.ensures.value) c.self.invariant in
    let point = IsPartitionPoint-from_clause (λ (part : Part). leb part.start c.args.at) _ _ c.partition_point.ensures.partitioned
    (parts_parted parts inside.len c.args.at are) (λ a r q k. search rules) in
    let same = ap chunks_of c.as_slice.ensures.value ∙ c.self.view_is in
    λ k past below. subst (λ xs. c.args.at < start_of xs k) same
    (starts_later parts inside.len c.args.at c.partition_point.result are point k past
    (omega (arith, below, ap length same, length-map parts (λ (part : Part). arc_value part.chunk))))
