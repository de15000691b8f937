use Rattle.std.proofs.Common.{rules, ◌≡◌, [], ◌∷◌, ◌++◌, map, reverse, ◌∙◌}
use Rattle.std.proofs.lemmas.Result.{IfOk-weaker}
use Rattle.mdf_content.specs.Found.{data_fetched}
use Rattle.mdf_model.proofs.Fetches.{first_turned}
use Rattle.mdf_model.proofs.measurement.contents_from.Goals as goal

pub returns : goal.returns
returns c =
    let turn = data_fetched c.args.file in
    let turned = c.reverse.new.self.items in
    let rest = c.pop.new.self.items in
    let first = c.in-Some.first in
    let others = c.in_ok-others.others in
    let made = c.in_ok-first.first in
    let is : turned ≡ reverse c.args.found = search rules in
    let ends : turned ≡ rest ++ first ∷ [] = search rules in
    let behind : others ≡ map turn (reverse rest) = search rules in
    let one : made ≡ turn first = search rules in
    let same = first_turned turn c.args.found turned rest first others made is ends behind one in
    IfOk-weaker c.joined.result _ _ (λ all joins. joins ∙ same) c.joined.ensures
