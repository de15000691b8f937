use Rattle.std.proofs.Common.{◌≡◌, ◌<◌, ◌^◌, ◌∙◌, ap, sym, subst, length, get_or, arith}
use Rattle.std.proofs.lemmas.Option.{slice_get_within, get_or_from_slice_get}
use Rattle.std.specs.List.{All}
use Rattle.mdf_layout.specs.Rule.{spot_in, is_variable, IsPlacedAs}
use Rattle.mdf_layout.specs.Written.{ValueFits, HoldsValue, offset_of}
use Rattle.mdf_layout.proofs.Entered.{streams_more, few_more}
use Rattle.mdf_layout.proofs.Stays.{AreBytes, values_more, others_more}
use Rattle.mdf_layout.proofs.writing.put_values.Goals as goal

pub loop-channel-preserved : goal.loop-channel-preserved
loop-channel-preserved c =
    let rows = c.args.rows.now in
    let values = c.args.values.now in
    let offsets = c.args.offsets.now in
    let i = c.loop-channel.channel in
    let row = c.row_at-row.result in
    let there = c.row_at-row.ensures in
    let old = c.loop-channel.content in
    let new = c.put_value.new.content in
    let entry = c.index-values-channel.result in
    let inside : i < length values = omega (arith, c.requires.fits.count, c.loop-channel-test.true) in
    let placed = subst (λ n. All (λ row. IsPlacedAs row.kind n (spot_in row)) rows) (sym c.loop-channel.auto.content) c.requires.placed in
    let small : AreBytes old = record { small = c.loop-channel.invariant.small } in
    let small' : AreBytes new = record { small = λ j. (c.type_inv.content j).fits } in
    let offset : c.offset_at.result ≡ offset_of rows offsets i = c.offset_at.ensures ∙ ap (λ n. get_or offsets n 0) c.loop-channel.invariant.before in
    let here = subst (λ o. HoldsValue row.kind (spot_in row) new o entry.value) offset c.put_value.ensures.value in
    record {
      values_are = values_more rows values offsets i old new row there c.requires.apart placed small small' c.put_value.ensures.size c.put_value.ensures.others
          entry c.index-values-channel.is inside c.loop-channel.invariant.values_are here;
      others = others_more rows values offsets i old new row there c.requires.apart placed small small' c.put_value.ensures.size c.put_value.ensures.others
          c.args.content.now c.loop-channel.invariant.others;
      before = c.streams_with-stream.ensures ∙ omega (arith, c.loop-channel.invariant.before) ∙ sym (streams_more rows i row there);
      few = omega (arith, c.streams_with-stream.ensures, few_more (is_variable row) c.loop-channel.stream i c.loop-channel.invariant.few);
      small = small'.small;
    }

pub put_value-requires-clause-placed : goal.put_value-requires-clause-placed
put_value-requires-clause-placed c =
    let rows = c.args.rows.now in
    let i = c.loop-channel.channel in
    let row = c.row_at-row.result in
    let there = c.row_at-row.ensures in
    let placed = subst (λ n. All (λ row. IsPlacedAs row.kind n (spot_in row)) rows) (sym c.loop-channel.auto.content) c.requires.placed in
    subst (λ r. IsPlacedAs r.kind (length c.loop-channel.content) (spot_in r)) (get_or_from_slice_get rows i row row there) (placed i row (slice_get_within rows i row there))

pub put_value-requires-clause-fits : goal.put_value-requires-clause-fits
put_value-requires-clause-fits c =
    let rows = c.args.rows.now in
    let i = c.loop-channel.channel in
    let row = c.row_at-row.result in
    let there = c.row_at-row.ensures in
    let entry = c.index-values-channel.result in
    let fits = c.requires.fits.each i row entry (slice_get_within rows i row there) in
    subst (λ r. ValueFits r.kind r.bits entry.value) (get_or_from_slice_get rows i row row there)
    (subst (λ e. ValueFits (get_or rows i row).kind (get_or rows i row).bits e.value) (sym c.index-values-channel.is) fits.value)

pub put_value-requires-clause-offset : goal.put_value-requires-clause-offset
put_value-requires-clause-offset c = λ variable.
    let rows = c.args.rows.now in
    let i = c.loop-channel.channel in
    let row = c.row_at-row.result in
    let there = c.row_at-row.ensures in
    let here = get_or_from_slice_get rows i row row there in
    let fits = c.requires.offsets i row (slice_get_within rows i row there) (ap (λ r. r.kind) here ∙ variable) in
    let offset : c.offset_at.result ≡ offset_of rows c.args.offsets.now i =
    c.offset_at.ensures ∙ ap (λ n. get_or c.args.offsets.now n 0) c.loop-channel.invariant.before in
    subst (λ n. n < 2 ^ row.bits) (sym offset) (subst (λ r. offset_of rows c.args.offsets.now i < 2 ^ r.bits) here fits)
