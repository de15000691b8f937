use Rattle.std.proofs.Common.{rules, sym, ◌∙◌, ap, Ok}
use Rattle.mdf_block.proofs.Wholes.{block_packed, block_some, block_none}
use Rattle.mdf_block.proofs.Readers.{says_of}
use Rattle.mdf_block.proofs.block.block_in.Goals as goal

pub returns-then-branch-clause-reads : goal.returns-then-branch-clause-reads
returns-then-branch-clause-reads g c = says_of (search rules) (λ f told.
    block_packed f c.args.at c.args.want (sym (c.in_ok-is_compressed_in.ensures.reads.seen f told) ∙ c.if-branch.true))

pub returns-in-Some-clause-reads : goal.returns-in-Some-clause-reads
returns-in-Some-clause-reads g c = says_of (search rules) (λ f told.
    let plain = sym (c.in_ok-is_compressed_in.ensures.reads.seen f told) ∙ c.if-branch.false in
    let found = rw c.in-Some.is at (c.in_ok-block.ensures.reads.seen f (search rules)) in
    block_some f c.args.at c.args.want plain found.0 ∙ ap Ok (sym found.1))

pub returns-in-None-clause-reads : goal.returns-in-None-clause-reads
returns-in-None-clause-reads g c = says_of (search rules) (λ f told.
    let plain = sym (c.in_ok-is_compressed_in.ensures.reads.seen f told) ∙ c.if-branch.false in
    let none = rw c.in-None.is at (c.in_ok-block.ensures.reads.seen f (search rules)) in
    block_none f c.args.at c.args.want plain none)
