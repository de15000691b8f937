use Rattle.std.proofs.Common.{◌≡◌, ◌+◌, ◌-◌, ◌/◌, ◌%◌, ◌≤◌, ℕ, List, Some, length, take, drop, ◌∙◌, ap, arith}
use Rattle.std.proofs.lemmas.List.{take_at, length-take, length-drop}
use Rattle.mdf_format.specs.Number.{bytes_at}
use Rattle.mdf_pages.proofs.Fronts.{page_part}
use Rattle.mdf_pages.proofs.pages.Pages.front.Goals as goal

pub copy_front-requires : goal.copy_front-requires
copy_front-requires g c =
    let page = c.args.at / 65536 in
    let is = c.load.new.self.pages page c.first.result.now (c.first.ensures page c.in_ok-load.ensures.first) in
    omega (arith, is.0, c.load.ensures.size, c.requires.within, c.requires.some)

pub returns-clause-some : goal.returns-clause-some
returns-clause-some g c =
    let page = c.args.at / 65536 in
    let is = c.load.new.self.pages page c.first.result.now (c.first.ensures page c.in_ok-load.ensures.first) in
    omega (arith, is.0, c.load.ensures.size, c.copy_front.ensures.count, c.requires.within, c.requires.some)

pub returns-clause-first : goal.returns-clause-first
returns-clause-first g c =
    let page = c.args.at / 65536 in
    let is = c.load.new.self.pages page c.first.result.now (c.first.ensures page c.in_ok-load.ensures.first) in
    let count = c.copy_front.result in
    let same : c.args.at / 65536 ≡ (c.args.at + count - 1) / 65536 =
    omega (arith, is.0, c.load.ensures.size, c.copy_front.ensures.count, c.requires.within, c.requires.some) in
    c.in_ok-load.ensures.first ∙ ap Some same

pub returns-clause-filled : goal.returns-clause-filled
returns-clause-filled g c = λ file told.
    let page = c.args.at / 65536 in
    let start = c.args.at % 65536 in
    let bytes = c.first.result.now in
    let count = c.copy_front.result in
    let buf = c.args.buf.now in
    let is = c.load.new.self.pages page bytes (c.first.ensures page c.in_ok-load.ensures.first) in
    let within : start + count ≤ 65536 =
    omega (arith, is.0, c.load.ensures.size, c.copy_front.ensures.count, c.requires.within, c.requires.some) in
    let long : length (bytes_at count bytes start) ≡ count =
    length-take count (drop start bytes) ∙ omega (arith, length-drop start bytes, c.copy_front.ensures.count) in
    ap (take count) c.copy_front.ensures.copied
    ∙ take_at (bytes_at count bytes start) (drop count buf) count long
    ∙ ap (λ (xs : List ℕ). bytes_at count xs start) (is.1 file (c.load.ensures.ends.only_read.content ∙ told))
    ∙ page_part count c.args.at file within
