use Rattle.std.proofs.Common.{◌+◌, ◌∙◌, sym, arith, rules}
use Rattle.std.proofs.lemmas.Bool.{le-leb, lt-leb}
use Rattle.mdf_stream.specs.Parts.{stream_of, stream_size}
use Rattle.mdf_content.proofs.Takes.{told_long}
use Rattle.mdf_content.proofs.Tested.{value_short, value_tested}
use Rattle.mdf_paged.proofs.Placed.{size_none, size_some}
use Rattle.mdf_block.proofs.Readers.{looks_of}
use Rattle.mdf_paged.proofs.values.value_size_in.Goals as goal

pub returns-in_default-clause-reads : goal.returns-in_default-clause-reads
returns-in_default-clause-reads g c = looks_of (search rules) (λ f told.
    let values = c.args.values.now in
    let long = told_long (g.P.Span.bytes c.args.span.now) (g.P.Span.size c.args.span.now) f values (g.met.P.Span.whole c.args.span.now) told c.requires.inside in
    size_none (stream_of f values) c.args.offset
    (value_short (stream_of f values) c.args.offset (stream_size values) long (omega (arith, c.len-total.ensures.size, c.len-total.ensures.small, c.in_default.ensures))))

pub returns-then-place-total-clause-reads : goal.returns-then-place-total-clause-reads
returns-then-place-total-clause-reads g c = looks_of (search rules) (λ f told.
    let values = c.args.values.now in
    let long = told_long (g.P.Span.bytes c.args.span.now) (g.P.Span.size c.args.span.now) f values (g.met.P.Span.whole c.args.span.now) told c.requires.inside in
    size_none (stream_of f values) c.args.offset
    (value_short (stream_of f values) c.args.offset (stream_size values) long (omega (arith, c.len-total.ensures.size, c.in-Some.ensures.1, c.if-place-total.true))))

pub returns-then-place-size-clause-reads : goal.returns-then-place-size-clause-reads
returns-then-place-size-clause-reads g c = looks_of (search rules) (λ f told.
    let values = c.args.values.now in
    let long = told_long (g.P.Span.bytes c.args.span.now) (g.P.Span.size c.args.span.now) f values (g.met.P.Span.whole c.args.span.now) told c.requires.inside in
    size_none (stream_of f values) c.args.offset
    (sym (lt-leb (c.in-Some.place + c.in_ok-size.size) c.len-total.result (omega (arith, c.if-place-size.true)))
    ∙ value_tested (stream_of f values) c.args.offset c.len-total.result (long ∙ sym c.len-total.ensures.size) c.in-Some.place c.in_ok-size.size c.in-Some.ensures.1
    (omega (arith, c.if-place-total.false)) (c.in_ok-size.ensures.reads.seen f told)))

pub returns-clause-reads : goal.returns-clause-reads
returns-clause-reads g c = looks_of (search rules) (λ f told.
    let values = c.args.values.now in
    let long = told_long (g.P.Span.bytes c.args.span.now) (g.P.Span.size c.args.span.now) f values (g.met.P.Span.whole c.args.span.now) told c.requires.inside in
    size_some (stream_of f values) c.args.offset c.in_ok-size.size
    (sym (le-leb (c.in-Some.place + c.in_ok-size.size) c.len-total.result (omega (arith, c.if-place-size.false)))
    ∙ value_tested (stream_of f values) c.args.offset c.len-total.result (long ∙ sym c.len-total.ensures.size) c.in-Some.place c.in_ok-size.size c.in-Some.ensures.1
    (omega (arith, c.if-place-total.false)) (c.in_ok-size.ensures.reads.seen f told))
    (c.in_ok-size.ensures.reads.seen f told))
