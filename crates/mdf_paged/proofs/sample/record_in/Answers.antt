use Rattle.std.proofs.Common.{◌≡◌, ℕ, List, [], Some, ◌∙◌, ap, rules}
use Rattle.std.proofs.lemmas.Result.{on_ok_weaker}
use Rattle.std.specs.Prelude.{slice_index_or}
use Rattle.mdf_format.specs.Number.{bytes_at}
use Rattle.mdf_stream.specs.Parts.{stream_of}
use Rattle.mdf_layout.specs.Layout.{record_size}
use Rattle.mdf_paged.proofs.Placed.{record_read}
use Rattle.mdf_block.proofs.Readers.{looks_of}
use Rattle.mdf_paged.proofs.sample.record_in.Goals as goal

pub returns-clause-reads : goal.returns-clause-reads
returns-clause-reads g c = looks_of (search rules) (let parent = c.args.parent.now in
    let group = c.args.group.now in
    let told = g.P.Span.bytes c.args.span.now in
    let place : c.place_at-place.result ≡ slice_index_or (slice_index_or parent.lists group.which []) c.args.i 0 = search rules in
    on_ok_weaker c.read_into.result
    (λ (is : (f : List ℕ) → told ≡ Some f → c.read_into.new.scratch.items ≡ bytes_at c.record_size.result (stream_of f parent.view) c.place_at-place.result).
    λ f is_told.
    is f is_told
    ∙ ap (λ (n : ℕ). bytes_at n (stream_of f parent.view) c.place_at-place.result) c.record_size.ensures.size
    ∙ ap (bytes_at (record_size group.shape) (stream_of f parent.view))
    place
    ∙ record_read told (g.P.Span.size c.args.span.now) f parent group c.args.i (g.met.P.Span.whole c.args.span.now) is_told c.requires.view c.requires.inside c.requires.index)
    c.read_into.ensures.reads.seen)
