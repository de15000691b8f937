use Rattle.std.proofs.Common.{rules}
use Rattle.mdf_head.specs.Head.{header}
use Rattle.mdf_head.proofs.header.header_in.Goals as goal

pub returns-in_err-block-clause-reads : goal.returns-in_err-block-clause-reads
unfolding header
returns-in_err-block-clause-reads g c = search rules

pub returns-in_err-block-clause-first : goal.returns-in_err-block-clause-first
unfolding header
returns-in_err-block-clause-first g c = search rules

pub returns-in_err-comment-clause-reads : goal.returns-in_err-comment-clause-reads
unfolding header
returns-in_err-comment-clause-reads g c = search rules

pub returns-in_err-comment-clause-first : goal.returns-in_err-comment-clause-first
unfolding header
returns-in_err-comment-clause-first g c = search rules

pub returns-in_err-comment-2-clause-reads : goal.returns-in_err-comment-2-clause-reads
unfolding header
returns-in_err-comment-2-clause-reads g c = search rules

pub returns-in_err-comment-2-clause-first : goal.returns-in_err-comment-2-clause-first
unfolding header
returns-in_err-comment-2-clause-first g c = search rules

pub returns-in_err-first_dg-clause-reads : goal.returns-in_err-first_dg-clause-reads
unfolding header
returns-in_err-first_dg-clause-reads g c = search rules

pub returns-in_err-first_dg-clause-first : goal.returns-in_err-first_dg-clause-first
unfolding header
returns-in_err-first_dg-clause-first g c = search rules

pub returns-in_err-first_fh-clause-reads : goal.returns-in_err-first_fh-clause-reads
unfolding header
returns-in_err-first_fh-clause-reads g c = search rules

pub returns-in_err-first_fh-clause-first : goal.returns-in_err-first_fh-clause-first
unfolding header
returns-in_err-first_fh-clause-first g c = search rules

pub returns-in_err-head-clause-reads : goal.returns-in_err-head-clause-reads
unfolding header
returns-in_err-head-clause-reads g c = search rules

pub returns-in_err-head-clause-first : goal.returns-in_err-head-clause-first
unfolding header
returns-in_err-head-clause-first g c = search rules

pub returns-clause-reads : goal.returns-clause-reads
unfolding header
returns-clause-reads g c = search rules

pub returns-clause-first : goal.returns-clause-first
unfolding header
returns-clause-first g c = search rules
