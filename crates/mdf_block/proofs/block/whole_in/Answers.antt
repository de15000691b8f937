use Rattle.std.proofs.Common.{refl, sym, ◌∙◌, rules}
use Rattle.std.proofs.lemmas.Bool.{true≢false}
use Rattle.mdf_format.specs.Block.{IsBlock}
use Rattle.mdf_block.proofs.Readers.{looks_of}
use Rattle.mdf_block.proofs.block.whole_in.Goals as goal

pub returns-then-branch-clause-reads : goal.returns-then-branch-clause-reads
returns-then-branch-clause-reads g c = looks_of (search rules) (λ f told.
    let begins = (c.in_ok-begins_in.ensures.reads.seen f told).0 c.if-not-branch.false in
    let laid = rw c.in-Some.is at (c.in_ok-block.ensures.reads.seen f (search rules)) in
    let filled = rw laid.1 at ((c.in_ok-is_filled_in-in-Some.ensures.reads.seen f (search rules) (rw laid.1 refl)).0 c.if-branch.true) in
    let whole : IsBlock f c.args.at c.args.want = record {
      on_eight = begins.0;
      named = begins.1.0;
      headed = laid.0.headed;
      whole = laid.0.whole;
      linked = laid.0.linked;
      filled = filled;
    } in
    (whole, laid.1))

pub returns-else-branch-clause-reads : goal.returns-else-branch-clause-reads
returns-else-branch-clause-reads g c = looks_of (search rules) (λ f told is.
    let laid = rw c.in-Some.is at (c.in_ok-block.ensures.reads.seen f (search rules)) in
    let yes = (c.in_ok-is_filled_in-in-Some.ensures.reads.seen f (search rules) (rw laid.1 refl)).1 (rw laid.1 is.filled) in
    true≢false (sym yes ∙ c.if-branch.false))

pub returns-in-None-clause-reads : goal.returns-in-None-clause-reads
returns-in-None-clause-reads g c = looks_of (search rules) (λ f told is.
    let none = rw c.in-None.is at (c.in_ok-block.ensures.reads.seen f (search rules)) in
    none (record { headed = is.headed; whole = is.whole; linked = is.linked }))
