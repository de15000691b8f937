use Rattle.std.proofs.Common.{◌++◌, ℕ, List, drop, sym, ◌∙◌, ap, arith, rules}
use Rattle.std.proofs.lemmas.List.{length-take, length-take-le}
use Rattle.mdf_format.specs.Number.{bytes_at}
use Rattle.mdf_stream.specs.Stretch.{parts_of}
use Rattle.mdf_stream.proofs.Joins.{told_inside}
use Rattle.mdf_block.proofs.Readers.{looks_of}
use Rattle.mdf_stream.proofs.stretch.front_in.Goals as goal

pub fill-requires : goal.fill-requires
fill-requires g c =
    let part = c.front_of-part in
    omega (arith, part.ensures.inside (g.P.Span.size c.args.span.now) c.requires.inside, length-take part.result.len c.args.buf.now)

pub returns-clause-reads : goal.returns-clause-reads
returns-clause-reads g c = looks_of (search rules) (λ f told.
    let part = c.front_of-part in
    let count = part.result.len in
    let buf = c.args.buf.now in
    let inside = told_inside _ _ f (parts_of c.args.items.now) (g.met.P.Span.whole c.args.span.now) told c.requires.inside in
    ap (λ (bytes : List ℕ). bytes ++ drop count buf) (c.in_ok-fill.ensures.filled f told
    ∙ ap (λ (n : ℕ). bytes_at n f part.result.at) (length-take-le count buf (omega arith))
    ∙ sym (part.ensures.bytes f inside)))
