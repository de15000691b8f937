use Rattle.std.proofs.Common.{ℕ, subst, rules}
use Rattle.std.proofs.lemmas.Result.{err_from_is_err_and}
use Rattle.std.specs.List.{AllByRecursion}
use Rattle.mdf_stream.specs.Parts.{ArePartsInside}
use Rattle.mdf_stream.specs.Link.{data_refusal}
use Rattle.mdf_stream.proofs.Links.{all_joined}
use Rattle.mdf_stream.proofs.Firsts.{listed_halts}
use Rattle.mdf_block.proofs.Readers.{says_of}
use Rattle.mdf_stream.proofs.link.listed_in.Goals as goal

pub returns-in_err-block_of-clause-reads : goal.returns-in_err-block_of-clause-reads
returns-in_err-block_of-clause-reads g c = says_of (search rules) (λ f told.
    let p = err_from_is_err_and c.from_residual.result c.from_residual.ensures.1 in
    rw (p.1, p.2) (
    listed_halts f c.args.want c.args.at data_refusal _ c.requires.some (c.in_err-block_of.ensures.reads.found f told)
    ))

pub returns-clause-inside : goal.returns-clause-inside
returns-clause-inside g c =
    rw (c.in_ok-view.ensures, c.as_slice.ensures) (
    all_joined (g.P.Span.size c.args.span.now) c.in_ok-lists.lists
    (subst (λ (size : ℕ). AllByRecursion (ArePartsInside size) c.in_ok-lists.lists) c.block_of.ensures.reads.size c.in_ok-lists.ensures.given)
    )
