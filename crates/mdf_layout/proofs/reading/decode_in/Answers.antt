use Rattle.std.proofs.Common.{◌∙◌, sym, ap, refl, subst, arith, Some}
use Rattle.mdf_layout.specs.Fault.{LackCause, MissingCause}
use Rattle.mdf_layout.specs.Rule.{is_variable}
use Rattle.mdf_layout.specs.Values.{entry_of, finder_at, sample_by}
use Rattle.mdf_layout.proofs.Entered.{sample_more, streams_more, few_more, missing_behind}
use Rattle.mdf_layout.proofs.reading.decode_in.Goals as goal

pub loop-channel-init : goal.loop-channel-init
unfolding sample_by
loop-channel-init g c = record {
  entries_are = λ f told. ap Some (sym c.in-Ok.ensures.items);
  before = refl;
  few = omega arith;
  same = refl;
  size = refl;
  later = omega arith;
}

pub returns-in-Err-clause-fault : goal.returns-in-Err-clause-fault
returns-in-Err-clause-fault g c = λ f told.
    let finders = g.V.Values.finders c.args.values.now f in
    let row = c.row_at-row.result in
    let lacks = subst (λ n. LackCause row c.args.content.now (finder_at finders n) c.in-Err.lack) c.loop-channel.invariant.before
    (c.in-Err.ensures.lack f (c.loop-channel.invariant.same ∙ told)) in
    subst (MissingCause c.args.rows.now c.args.content.now c.args.inval.now finders c.args.index) (sym c.missing_at.ensures)
    (missing_behind c.args.rows.now c.loop-channel.channel row c.args.content.now c.args.inval.now finders c.args.index c.loop-channel.entries.items c.in-Err.lack c.row_at-row.ensures
    (c.loop-channel.invariant.entries_are f told) lacks)

pub loop-channel-preserved : goal.loop-channel-preserved
loop-channel-preserved g c =
    let rows = c.args.rows.now in
    let loop = c.loop-channel in
    let row = c.row_at-row.result in
    record {
      entries_are = λ f told.
          let finders = g.V.Values.finders c.args.values.now f in
          let here = ap (λ n. entry_of row c.args.content.now c.args.inval.now (finder_at finders n) c.args.index) (sym loop.invariant.before)
          ∙ c.in-Ok-entry_of.ensures.entry f (loop.invariant.same ∙ told) in
          sample_more rows loop.channel row c.args.content.now c.args.inval.now finders c.args.index loop.entries.items c.in-Ok-entry_of.entry c.row_at-row.ensures
          (loop.invariant.entries_are f told) here
          ∙ ap Some (sym c.in-Ok-push.ensures.items);
      before = c.streams_with-stream.ensures ∙ omega (arith, loop.invariant.before) ∙ sym (streams_more rows loop.channel row c.row_at-row.ensures);
      few = omega (arith, c.streams_with-stream.ensures, few_more (is_variable row) loop.stream loop.channel loop.invariant.few);
      same = c.in-Ok-entry_of.ensures.same ∙ loop.invariant.same;
      size = c.in-Ok-entry_of.ensures.size ∙ loop.invariant.size;
      later = omega (arith, loop.invariant.later, c.in-Ok-entry_of.ensures.cause.later);
    }
