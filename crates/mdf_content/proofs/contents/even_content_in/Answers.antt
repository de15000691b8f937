use Rattle.std.proofs.Common.{◌*◌, ◌≤◌, ◌∙◌, arith, rules}
use Rattle.std.proofs.lemmas.Result.{IfOk-weaker}
use Rattle.mdf_stream.specs.Parts.{stream_of, stream_size}
use Rattle.mdf_content.proofs.Evens.{evens_fit, content_is}
use Rattle.mdf_block.proofs.Readers.{looks_of}
use Rattle.mdf_content.proofs.contents.even_content_in.Goals as goal

pub overflow_mul-count : goal.overflow_mul-count
overflow_mul-count g c =
    let total = stream_size c.args.view.now in
    let fit : c.args.count * c.args.size ≤ total = evens_fit c.args.places.now c.args.size c.args.count c.requires.even c.requires.few total c.requires.room in
    omega (arith, fit, c.len-total.ensures.size, c.len-total.ensures.small)

pub bytes_in-requires-clause-within : goal.bytes_in-requires-clause-within
bytes_in-requires-clause-within g c =
    evens_fit c.args.places.now c.args.size c.args.count c.requires.even c.requires.few (stream_size c.args.view.now) c.requires.room

pub returns : goal.returns
returns g c = record { reads = looks_of (search rules) (IfOk-weaker c.bytes_in.result _ _ (λ bytes is. λ f told. is f told ∙ content_is c.args.places.now c.args.size c.args.count c.requires.even c.requires.few (stream_of f c.args.view.now)) c.bytes_in.ensures.reads.seen) }
