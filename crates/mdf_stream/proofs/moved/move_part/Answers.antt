use Rattle.std.proofs.Common.{◌≡◌, ◌≤◌, ℕ, List, ◌++◌, length, take, drop, sym, ◌∙◌, ap, arith, take-add, take-take}
use Rattle.mdf_format.specs.Number.{bytes_at}
use Rattle.mdf_stream.specs.Parts.{stream_of}
use Rattle.mdf_stream.proofs.Moves.{range_behind}
use Rattle.mdf_stream.proofs.moved.move_part.Goals as goal

pub overflow_sub-shift : goal.overflow_sub-shift
overflow_sub-shift c =
    let part = c.first_part-part in
    let behind = range_behind 0 c.args.view.now c.args.at c.args.most _ _ c.requires.behind part.ensures.range in
    omega (arith, behind)

pub returns-then-shift-eq0-clause-front : goal.returns-then-shift-eq0-clause-front
returns-then-shift-eq0-clause-front c =
    let part = c.first_part-part in
    let bytes = c.args.bytes.now in
    let behind = range_behind 0 c.args.view.now c.args.at c.args.most _ _ c.requires.behind part.ensures.range in
    let same : part.result.at ≡ c.args.at = omega (arith, behind, c.if-shift-eq0.true) in
    take-add c.args.at part.result.len bytes
    ∙ ap (λ (n : ℕ). take c.args.at bytes ++ bytes_at part.result.len bytes n) (sym same)
    ∙ ap (λ (xs : List ℕ). take c.args.at bytes ++ xs) (sym (part.ensures.bytes bytes c.requires.inside))

pub move_down-requires-clause-within : goal.move_down-requires-clause-within
move_down-requires-clause-within c =
    let part = c.first_part-part in
    let inside = part.ensures.inside (length c.args.bytes.now) c.requires.inside in
    omega (arith, inside)

pub returns-clause-front : goal.returns-clause-front
returns-clause-front c =
    let part = c.first_part-part in
    let bytes = c.args.bytes.now in
    let n = c.min-len.result in
    let fewer : n ≤ part.result.len = omega arith in
    let stream = stream_of bytes c.args.view.now in
    c.move_down.ensures.front
    ∙ ap (λ (xs : List ℕ). take c.args.at bytes ++ xs)
    (sym (take-take n part.result.len (drop part.result.at bytes) fewer)
    ∙ ap (take n) (sym (part.ensures.bytes bytes c.requires.inside))
    ∙ take-take n part.result.len (drop c.args.at stream) fewer)
