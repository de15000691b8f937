use Rattle.std.proofs.Common.{◌∙◌}
use Rattle.mdf_stream.specs.Link.{listed_parts, one_part}
use Rattle.mdf_stream.specs.Truth.{IsTrueOfLink}
use Rattle.mdf_stream.proofs.Truths.{listed_true, one_true, gives_with}
use Rattle.mdf_stream.proofs.link.view_data_in.Goals as goal

pub returns-then-branch-clause-refused : goal.returns-then-branch-clause-refused
returns-then-branch-clause-refused g c = λ f told.
    let want = c.args.want in
    let at = c.args.at in
    gives_with (IsTrueOfLink f want at) c.listed_in.result (listed_parts f want at) (listed_true f want at)
    (c.listed_in.ensures.reads.found f (c.in_ok-is_named_in.ensures.reads.same ∙ told))

pub returns-clause-refused : goal.returns-clause-refused
returns-clause-refused g c = λ f told.
    let want = c.args.want in
    let at = c.args.at in
    gives_with (IsTrueOfLink f want at) c.one_in.result (one_part f want at) (one_true f want at)
    (c.one_in.ensures.reads.found f (c.in_ok-is_named_in.ensures.reads.same ∙ told))
