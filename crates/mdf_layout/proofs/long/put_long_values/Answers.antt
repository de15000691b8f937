use Rattle.std.proofs.Common.{◌<◌, ◌∙◌, ◌++◌, ◌+◌, ap, sym, subst, arith, length, get_or, take, drop}
use Rattle.std.proofs.lemmas.List.{drop_all}
use Rattle.std.proofs.lemmas.Option.{get_or_from_slice_get}
use Rattle.mdf_layout.specs.Written.{IsEntryOf}
use Rattle.mdf_layout.specs.Record.{long_size, long_values}
use Rattle.mdf_layout.specs.Behind.{value_records}
use Rattle.mdf_layout.proofs.Longs.{written_more, written_all, variables-drop}
use Rattle.mdf_layout.proofs.Sizes.{long_size-drop, long_size-none}
use Rattle.mdf_layout.proofs.long.put_long_values.Goals as goal

pub put_channel-at-requires-clause-fits : goal.put_channel-at-requires-clause-fits
put_channel-at-requires-clause-fits c =
    let row = c.row_at-row.result in
    let i = c.loop-channel.channel in
    let row_is = get_or_from_slice_get c.args.rows.now i row row c.row_at-row.ensures in
    let each = c.requires.fits.each i row c.index-entries-channel.result c.loop-channel-test.true in
    subst (λ r. IsEntryOf r c.index-entries-channel.result) row_is (subst (IsEntryOf (get_or c.args.rows.now i row)) (sym c.index-entries-channel.is) each)

pub put_channel-at-requires-clause-room : goal.put_channel-at-requires-clause-room
put_channel-at-requires-clause-room c =
    let rows = c.args.rows.now in
    let entries = c.args.entries.now in
    let i = c.loop-channel.channel in
    let row = c.row_at-row.result in
    let row_is = get_or_from_slice_get rows i row row c.row_at-row.ensures in
    let inside : i < length entries = omega (arith, c.requires.fits.count, c.loop-channel-test.true) in
    omega (
      arith,
      long_size-drop rows entries i row c.index-entries-channel.result c.loop-channel-test.true inside (sym row_is) c.index-entries-channel.is,
      c.loop-channel.invariant.left,
      c.requires.room,
      c.loop-channel.auto.out,
    )

pub loop-channel-preserved : goal.loop-channel-preserved
loop-channel-preserved c =
    let rows = c.args.rows.now in
    let entries = c.args.entries.now in
    let i = c.loop-channel.channel in
    let row = c.row_at-row.result in
    let entry = c.index-entries-channel.result in
    let row_is = sym (get_or_from_slice_get rows i row row c.row_at-row.ensures) in
    let inside : i < length entries = omega (arith, c.requires.fits.count, c.loop-channel-test.true) in
    let size = long_size-drop rows entries i row entry c.loop-channel-test.true inside row_is c.index-entries-channel.is in
    let ids = variables-drop rows i row c.loop-channel-test.true row_is in
    let written = written_more _ c.loop-channel.next c.loop-channel.at c.loop-channel.out _ rows entries i row entry c.loop-channel-test.true inside row_is c.index-entries-channel.is
    c.loop-channel.invariant.written c.put_channel-at.ensures.front in
    record {
      written = written ∙ ap (λ n. take c.put_channel-at.result c.put_channel-at.new.out ++ value_records n (long_values (drop (i + 1) rows) (drop (i + 1) entries))) (sym c.streams_with-next.ensures);
      left = omega (arith, size, c.loop-channel.invariant.left, c.put_channel-at.ensures.end);
      ids = omega (arith, ids, c.loop-channel.invariant.ids, c.streams_with-next.ensures);
    }

pub returns-clause-end : goal.returns-clause-end
returns-clause-end c =
    let rows = c.args.rows.now in
    let entries = c.args.entries.now in
    let i = c.loop-channel.channel in
    let none = ap (λ rs. long_size rs (drop i entries)) (drop_all i rows (omega (arith, c.loop-channel-test.false))) ∙ long_size-none (drop i entries) in
    omega (arith, c.loop-channel.invariant.left, none)

pub returns-clause-front : goal.returns-clause-front
returns-clause-front c =
    let rows = c.args.rows.now in
    let i = c.loop-channel.channel in
    written_all _ _ c.loop-channel.next (drop i rows) (drop i c.args.entries.now) (drop_all i rows (omega (arith, c.loop-channel-test.false))) c.loop-channel.invariant.written
