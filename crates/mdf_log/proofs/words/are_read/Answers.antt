use Rattle.std.proofs.Common.{◌≡◌, length, rules, tests}
use Rattle.std.specs.Prelude.{filter}
use Rattle.std.proofs.lemmas.Iterator.{YieldsList-from_slice}
use Rattle.std.proofs.lemmas.Iterator.Consumers.{YieldsList-from_filter, count_from_yields_List}
use Rattle.mdf_log.specs.Words.{is_standard}
use Rattle.mdf_log.proofs.words.are_read.Goals as goal

pub returns : goal.returns
returns c =
    let counted : c.count-standard.result ≡ length (filter is_standard c.args.names.now) =
    count_from_yields_List c.filter.result _ c.count-standard.ensures.ran
    (YieldsList-from_filter _ is_standard (YieldsList-from_slice c.args.names.now cc) c.filter.ensures.closure (λ x b q k. search (rules, tests))) in
    rw counted (search (rules, tests))
