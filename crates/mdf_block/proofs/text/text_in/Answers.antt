use Rattle.std.proofs.Common.{rules, refl}
use Rattle.mdf_format.specs.Number.{bytes_at}
use Rattle.mdf_block.proofs.Refusals.{hides_none}
use Rattle.mdf_block.proofs.Notes.{text_none, text_long, text_there}
use Rattle.mdf_block.proofs.Readers.{says_of}
use Rattle.mdf_block.proofs.text.text_in.Goals as goal

pub returns-in-None-clause-reads : goal.returns-in-None-clause-reads
returns-in-None-clause-reads g c = says_of (search rules) (λ f told.
    let none = rw c.in-None.is at (c.in_ok-block.ensures.reads.seen f told) in
    text_none f c.args.at c.args.kind c.args.left none)

pub returns-then-len-left-clause-reads : goal.returns-then-len-left-clause-reads
returns-then-len-left-clause-reads g c = says_of (search rules) (λ f told.
    let found = rw c.in-Some.is at (c.in_ok-block.ensures.reads.seen f told) in
    let len = c.in_ok-len.ensures.reads.seen f (search rules) in
    text_long f c.args.at c.args.kind c.args.left _ c.in-Some.block found.0 found.1 len c.if-len-left.true)

pub returns-in_err-bytes-clause-memory : goal.returns-in_err-bytes-clause-memory
returns-in_err-bytes-clause-memory g c = λ f told.
    let found = rw c.in-Some.is at (c.in_ok-block.ensures.reads.seen f told) in
    let len = c.in_ok-len.ensures.reads.seen f (search rules) in
    let block = c.in-Some.block in
    hides_none _ _ _ _
    (text_there f c.args.at c.args.kind c.args.left _ block found.0 found.1 len (bytes_at c.in_ok-len.len f block.body_at)
    c.if-len-left.false c.in_ok-len.ensures.within refl)

pub returns-clause-reads : goal.returns-clause-reads
returns-clause-reads g c = says_of (search rules) (λ f told.
    let found = rw c.in-Some.is at (c.in_ok-block.ensures.reads.seen f told) in
    let len = c.in_ok-len.ensures.reads.seen f (search rules) in
    let bytes = c.in_ok-bytes.ensures.reads.seen f (search rules) in
    text_there f c.args.at c.args.kind c.args.left _ c.in-Some.block found.0 found.1 len _ c.if-len-left.false
    c.in_ok-len.ensures.within bytes)
