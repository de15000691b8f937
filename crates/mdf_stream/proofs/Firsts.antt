-- The first block that a data link names is the first that is refused.
use Rattle.std.proofs.Common.{◌≢◌, ℕ, List, [], Option, sym, lit<}
use Rattle.mdf_format.specs.declared.kind.Kind.{Kind}
use Rattle.mdf_format.specs.declared.kind.Kind.TheVariants.{Dl}
use Rattle.mdf_num.specs.declared.halt.Halt.{Halt}
use Rattle.mdf_block.specs.declared.what.What.TheVariants as whats
use Rattle.mdf_block.specs.Refusal.{Refusal, Halts}
use Rattle.mdf_block.specs.Block.{block}
use Rattle.mdf_block.specs.Chain.{full}
use Rattle.mdf_block.proofs.Refusals.{halts_then}
use Rattle.mdf_block.proofs.Chains.{begins, ends}
use Rattle.mdf_stream.specs.Link.{most_blocks, data_list, data_lists, listed_parts}
use Rattle.mdf_block.proofs.Names.{differ}

pub listed_halts : {E : Type 0} (f : List ℕ) (want : Kind) (at : ℕ) (refusal : E → Option Refusal) (halt : Halt E) → at ≢ 0
    → Halts refusal halt (block f at Dl) → Halts refusal halt (listed_parts f want at)
unfolding data_list
listed_halts f want at refusal halt some halted =
    let step : Halts refusal halt (data_list f want at most_blocks) = halts_then refusal halt (block f at Dl) _ halted in
    let chained : Halts refusal halt (data_lists f want at) =
    ends (data_list f want) (full whats.Block Dl f) refusal halt [] most_blocks at most_blocks (λ none. differ 0 most_blocks (sym none) (lit< tt)) some step
    (data_lists f want at) (begins (data_list f want) (full whats.Block Dl f) most_blocks at most_blocks) in
    halts_then refusal halt (data_lists f want at) _ chained
