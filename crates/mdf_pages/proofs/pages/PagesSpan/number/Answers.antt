use Rattle.std.proofs.Common.{◌≡◌, ◌+◌, ◌-◌, ◌/◌, ◌%◌, ◌≤◌, ℕ, List, Some, ◌∙◌, ap, arith}
use Rattle.mdf_format.specs.Number.{le_number, bytes_at}
use Rattle.mdf_pages.proofs.Fronts.{page_part}
use Rattle.mdf_pages.proofs.pages.PagesSpan.number.Goals as goal

pub number_within-requires-clause-within : goal.number_within-requires-clause-within
number_within-requires-clause-within g c =
    let page = c.args.at / 65536 in
    let is = c.load.new.self.pages page c.first.result.now (c.first.ensures page c.in_ok-load.ensures.first) in
    omega (arith, is.0, c.load.ensures.size, c.requires.inside)

pub returns-clause-number : goal.returns-clause-number
returns-clause-number g c = λ file told.
    let page = c.args.at / 65536 in
    let start = c.args.at % 65536 in
    let bytes = c.first.result.now in
    let is = c.load.new.self.pages page bytes (c.first.ensures page c.in_ok-load.ensures.first) in
    let within : start + c.args.count ≤ 65536 = omega arith in
    c.number_within.ensures.number
    ∙ ap (λ (xs : List ℕ). le_number (bytes_at c.args.count xs start)) (is.1 file (c.load.ensures.ends.only_read.content ∙ told))
    ∙ ap le_number (page_part c.args.count c.args.at file within)

pub returns-clause-first : goal.returns-clause-first
returns-clause-first g c =
    let same : c.args.at / 65536 ≡ (c.args.at + c.args.count - 1) / 65536 = omega arith in
    c.in_ok-load.ensures.first ∙ ap Some same
