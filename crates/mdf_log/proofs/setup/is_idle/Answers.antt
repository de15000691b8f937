use Rattle.std.proofs.Common.{◌≡◌, ◌∙◌, sym, rules, tests}
use Rattle.std.specs.List.{list_all}
use Rattle.std.proofs.lemmas.Iterator.{YieldsList-from_slice}
use Rattle.std.proofs.lemmas.Iterator.Search.{all_from_yields_List}
use Rattle.mdf_log.proofs.Idle.{is_nil, nil_test, all_nil, nil_all}
use Rattle.mdf_log.proofs.setup.is_idle.Goals as goal

pub returns : goal.returns
returns c =
    let lists = c.args.lists.now in
    let told : c.all.result ≡ list_all is_nil lists =
    all_from_yields_List is_nil _ _ _ c.all.ensures.ran (YieldsList-from_slice lists cc)
    (λ x b q k. search (rules, tests, nil_test)) in
    (λ said. all_nil lists (sym told ∙ said), λ none. told ∙ nil_all lists none)
