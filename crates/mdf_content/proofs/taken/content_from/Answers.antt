use Rattle.std.proofs.Common.{rules, ◌≡◌, ◌*◌, ◌≤◌, length, ◌∙◌, arith}
use Rattle.mdf_stream.specs.Parts.{stream_of, stream_size}
use Rattle.mdf_data.specs.Places.{steps}
use Rattle.mdf_content.proofs.Evens.{evens_fit, content_is}
use Rattle.mdf_content.proofs.taken.content_from.Goals as goal

pub overflow_mul-count : goal.overflow_mul-count
overflow_mul-count c =
    let places = c.args.places.now in
    let size = c.args.size in
    let total = stream_size c.args.view.now in
    let even : places ≡ steps (length places) size 0 = search rules in
    let fit : c.args.count * size ≤ total = evens_fit places size c.args.count even c.requires.few total c.requires.room in
    omega (arith, fit, c.len-total.ensures.size, c.len-total.ensures.small)

pub moved_front-requires-clause-within : goal.moved_front-requires-clause-within
moved_front-requires-clause-within c =
    let places = c.args.places.now in
    let even : places ≡ steps (length places) c.args.size 0 = search rules in
    evens_fit places c.args.size c.args.count even c.requires.few (stream_size c.args.view.now) c.requires.room

pub returns-then-is_behind : goal.returns-then-is_behind
returns-then-is_behind c =
    let places = c.args.places.now in
    let even : places ≡ steps (length places) c.args.size 0 = search rules in
    c.moved_front.ensures ∙ content_is places c.args.size c.args.count even c.requires.few (stream_of c.args.file c.args.view.now)
