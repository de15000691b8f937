use Rattle.std.proofs.Common.{◌<◌, ◌^◌, ◌+◌, ◌∙◌, ◌∷◌, ◌++◌, ap, sym, subst, arith, length}
use Rattle.mdf_layout.specs.History.{group_samples}
use Rattle.mdf_layout.specs.Values.{streams_before}
use Rattle.mdf_layout.specs.Written.{offset_of}
use Rattle.mdf_layout.specs.Record.{long_values}
use Rattle.mdf_layout.specs.Behind.{value_records}
use Rattle.mdf_layout.proofs.Encoded.{encoding_behind}
use Rattle.mdf_layout.proofs.Longs.{record_written}
use Rattle.mdf_layout.proofs.Nexts.{offsets-count}
use Rattle.mdf_layout.proofs.next.encode_in_group.Goals as goal

pub encode-requires-clause-valid : goal.encode-requires-clause-valid
encode-requires-clause-valid c = λ k row within. (c.requires.stored k row within).valid

pub encode-requires-clause-offsets : goal.encode-requires-clause-offsets
encode-requires-clause-offsets c = λ k row within variable.
    let rows = c.args.shape.now.rows in
    let offset = offset_of rows c.args.offsets.now k in
    subst (λ bits. offset < 2 ^ bits) (sym ((c.requires.stored k row within).wide variable)) (omega (arith, (c.type_inv.offsets (streams_before rows k)).fits))

pub returns-clause-record : goal.returns-clause-record
returns-clause-record c = λ layouts before known next_is.
    let sample = c.args.sample.now in
    let layout = c.args.shape.now in
    let offsets = c.args.offsets.now in
    let content = c.encode.new.out in
    let values = long_values layout.rows sample.values in
    let offsets_are = ap (λ n. n.offsets) next_is in
    let written = record_written c.put_long_in_group-at.new.out content (value_records c.args.id values) c.put_long_in_group-at.result _ _ (sample.group + 1)
    (omega (arith, c.requires.room, c.put_long_in_group-at.ensures.end, c.put_long_in_group-at.ensures.size)) (omega (arith, c.encode.ensures.size, c.record_size.ensures.size)) (sym c.put_long_in_group-at.ensures.front) in
    encoding_behind layouts before _ sample layout content offsets known c.requires.fits (λ k row within. (c.requires.stored k row within).real) c.encode.ensures.size
    (written ∙ ap (λ n. value_records n values ++ (sample.group + 1) ∷ content) (ap (λ n. n.id) next_is))
    offsets_are (ap length offsets_are ∙ offsets-count layout.rows 0 (group_samples before sample.group))
    c.encode.ensures.sample c.encode.ensures.values c.encode.ensures.unused c.encode.ensures.unused_positions
