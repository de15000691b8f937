use Rattle.std.proofs.Common.{◌<◌, ◌∙◌, ap, sym, arith, length, drop}
use Rattle.std.proofs.lemmas.List.{drop_all}
use Rattle.std.proofs.lemmas.Option.{get_or_from_slice_get}
use Rattle.mdf_layout.specs.Record.{long_size}
use Rattle.mdf_layout.proofs.Sizes.{long_size-drop, long_size-most, long_size-none}
use Rattle.mdf_layout.proofs.shapes.long_size.Goals as goal

pub overflow_add-size : goal.overflow_add-size
overflow_add-size c =
    let rows = c.args.rows.now in
    let entries = c.args.entries.now in
    let i = c.loop-channel.channel in
    let inside : i < length entries = omega (arith, c.requires.fits.count, c.loop-channel-test.true) in
    let next = long_size-drop rows entries i c.row_at.result c.index-entries-channel.result c.loop-channel-test.true inside
    (sym (get_or_from_slice_get rows i c.row_at.result c.row_at.result c.row_at.ensures)) c.index-entries-channel.is in
    omega (arith, c.loop-channel.invariant, next, c.value_record_size-size.ensures, long_size-most rows entries c.requires.fits, c.requires.few)

pub loop-channel-preserved : goal.loop-channel-preserved
loop-channel-preserved c =
    let rows = c.args.rows.now in
    let entries = c.args.entries.now in
    let i = c.loop-channel.channel in
    let inside : i < length entries = omega (arith, c.requires.fits.count, c.loop-channel-test.true) in
    let next = long_size-drop rows entries i c.row_at.result c.index-entries-channel.result c.loop-channel-test.true inside
    (sym (get_or_from_slice_get rows i c.row_at.result c.row_at.result c.row_at.ensures)) c.index-entries-channel.is in
    omega (arith, c.loop-channel.invariant, next, c.value_record_size-size.ensures)

pub returns-clause-size : goal.returns-clause-size
returns-clause-size c =
    let rows = c.args.rows.now in
    let entries = c.args.entries.now in
    let i = c.loop-channel.channel in
    let none = ap (λ rs. long_size rs (drop i entries)) (drop_all i rows (omega (arith, c.loop-channel-test.false))) ∙ long_size-none (drop i entries) in
    omega (arith, c.loop-channel.invariant, none)

pub returns-clause-small : goal.returns-clause-small
returns-clause-small c =
    omega (arith, c.loop-channel.invariant, long_size-most c.args.rows.now c.args.entries.now c.requires.fits, c.requires.few)
