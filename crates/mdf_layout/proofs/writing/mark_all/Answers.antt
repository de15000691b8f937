use Rattle.std.proofs.Common.{◌<◌, length, sym, subst, arith}
use Rattle.std.specs.List.{All}
use Rattle.std.proofs.lemmas.Option.{slice_get_within, get_or_from_slice_get}
use Rattle.mdf_layout.specs.Rule.{IsInvalIn}
use Rattle.mdf_layout.proofs.RoundTrip.{marks_more, mark_clear, mark_others}
use Rattle.mdf_layout.proofs.writing.mark_all.Goals as goal

pub mark-requires-clause-clear : goal.mark-requires-clause-clear
mark-requires-clause-clear c =
    mark_clear c.args.rows.now c.loop-channel.channel c.loop-channel.inval c.row_at.result c.row_at.ensures c.requires.apart c.loop-channel.invariant.others

pub loop-channel-preserved : goal.loop-channel-preserved
loop-channel-preserved c =
    let rows = c.args.rows.now in
    let values = c.args.values.now in
    let i = c.loop-channel.channel in
    let inside : i < length values = omega (arith, c.requires.count, c.loop-channel-test.true) in
    record {
      marks = marks_more rows values i c.loop-channel.inval c.mark.new.inval c.row_at.result c.index-values-channel.result c.row_at.ensures c.index-values-channel.is inside
          c.requires.apart c.mark.ensures.others c.loop-channel.invariant.marks c.mark.ensures.mark;
      others = mark_others rows i c.loop-channel.inval c.mark.new.inval c.row_at.result c.row_at.ensures c.mark.ensures.others c.loop-channel.invariant.others;
    }

pub mark-requires-clause-inside : goal.mark-requires-clause-inside
mark-requires-clause-inside c =
    let rows = c.args.rows.now in
    let i = c.loop-channel.channel in
    let row = c.row_at.result in
    let there = c.row_at.ensures in
    let inside = subst (λ n. All (λ row. IsInvalIn n row.inval) rows) (sym c.loop-channel.auto.inval) c.requires.inside in
    subst (λ r. IsInvalIn (length c.loop-channel.inval) r.inval) (get_or_from_slice_get rows i row row there) (inside i row (slice_get_within rows i row there))
