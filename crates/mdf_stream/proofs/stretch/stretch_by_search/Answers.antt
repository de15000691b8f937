use Rattle.std.proofs.Common.{leb, leb-true, arith, rules}
use Rattle.std.proofs.lemmas.List.Sorted.{IsPartitionPoint-from_clause, IsPartitionedBy-leb}
use Rattle.mdf_stream.specs.declared.stretch.Stretch.{Stretch}
use Rattle.std.proofs.lemmas.Bool.{leb-false}
use Rattle.mdf_stream.proofs.stretch.stretch_by_search.Goals as goal

pub returns-clause-before : goal.returns-clause-before
returns-clause-before c =
    let parted = IsPartitionedBy-leb (λ (s : Stretch). s.end) _ c.args.at c.requires in
    let point = IsPartitionPoint-from_clause (λ (s : Stretch). leb s.end c.args.at) _ _ c.partition_point.ensures.partitioned parted (λ a r q k. search rules) in
    λ k d h. leb-true _ _ (point.0 k d (omega arith) h)

pub returns-clause-behind : goal.returns-clause-behind
returns-clause-behind c =
    let parted = IsPartitionedBy-leb (λ (s : Stretch). s.end) _ c.args.at c.requires in
    let point = IsPartitionPoint-from_clause (λ (s : Stretch). leb s.end c.args.at) _ _ c.partition_point.ensures.partitioned parted (λ a r q k. search rules) in
    λ d h. leb-false _ _ (point.1 _ d (omega arith) h)
