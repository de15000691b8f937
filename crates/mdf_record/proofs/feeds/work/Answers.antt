use Rattle.std.proofs.Common.{◌≡◌, ◌∙◌, ap, arith, inl, inr, length, subst, sym}
use Rattle.std.specs.Prelude.{vec_len}
use Rattle.acq_run.specs.Ran.{AllRan, AreOwned}
use Rattle.mdf_record.specs.Sources.{counts_of, ends_of, worst}
use Rattle.mdf_record.specs.Work.{HasNotWorked}
use Rattle.mdf_record.proofs.Begins.{note_of}
use Rattle.mdf_record.proofs.Runs.{ran_count, stopped_told}
use Rattle.acq_run.proofs.Groups.{handed_count}
use Rattle.mdf_record.proofs.feeds.work.Goals as goal

pub record_live-requires-clause-sources : goal.record_live-requires-clause-sources
record_live-requires-clause-sources g c κs within =
    let feeds = c.args.feeds in
    (omega (arith, c.requires.may.some, feeds.ok.0), omega (arith, c.requires.may.few, feeds.ok.0))

pub told_all-driven-requires-clause-room : goal.told_all-driven-requires-clause-room
told_all-driven-requires-clause-room g c =
    let did = c.in-Ok.ensures.worked in
    let counted = ran_count c.args.owners.now c.in-Ok.gathered.book c.in-Ok.gathered.seen 0 did.handed c.in-Ok.gathered.all.items did.ran in
    omega (
      arith,
      ap length c.as_slice.ensures.value,
      counted,
      handed_count g.F.Feed.hands c.args.feeds.items c.in-Ok.gathered.feeds.items did.handed did.fed,
      c.requires.may.room,
    )

pub finish-fault-requires-clause-stopped : goal.finish-fault-requires-clause-stopped
finish-fault-requires-clause-stopped g c κs within =
    let did = c.in-Ok.ensures.worked in
    stopped_told c.args.owners.now c.in-Ok.gathered.book c.in-Ok.gathered.seen did.handed c.as_slice.result.now c.told_all-driven.result
    (subst (AllRan c.args.owners.now c.in-Ok.gathered.book c.in-Ok.gathered.seen 0 did.handed) (sym c.as_slice.ensures.value) did.ran) c.told_all-driven.ensures.told

pub last_look-live-requires : goal.last_look-live-requires
last_look-live-requires g c =
    let which = c.args.book.terms.which in
    let finishes = c.finish-fault.ensures.finishes in (
      which,
      c.in-Ok.gathered.book.history,
      c.in-Ok.ensures.follow,
      note_of c.finish-fault.result.0 c.args.live which c.finish-fault.new.book.terms.which c.finish-fault.new.book.history c.finish-fault.result.1
          (ap (λ t. t.which) (finishes.steps.terms ∙ c.in-Ok.ensures.terms)) finishes.noted,
    )

pub returns-in-Ok : goal.returns-in-Ok
returns-in-Ok g c =
    let count : vec_len c.args.feeds ≡ length c.args.feeds.items = omega (arith, c.args.feeds.ok.0) in record {
      works = inr (record {
        driven = c.in-Ok.gathered.book;
        flushed = c.finish-fault.new.book;
        accepted = c.told_all-driven.new.accepted;
        ended = c.told_all-driven.result;
        fault = c.finish-fault.result.0;
        note = c.finish-fault.result.1;
        shown = c.last_look-live.result;
        seen = c.in-Ok.gathered.seen;
        watchers = c.args.prepared.watchers.items;
        watchers' = c.in-Ok.gathered.watchers.items;
        terms = c.in-Ok.ensures.terms;
        worked = c.in-Ok.ensures.worked;
        saw = c.in-Ok.ensures.saw;
        owned = subst (λ n. AreOwned c.args.owners.now (length c.args.book.terms.layouts) n c.in-Ok.gathered.book.history) count c.in-Ok.ensures.owned;
        last = c.finish-fault.ensures.last;
        accepted_is = c.told_all-driven.ensures.accepted ∙ ap counts_of c.as_slice.ensures.value;
        told = c.told_all-driven.ensures.told ∙ ap (λ all. worst (ends_of all)) c.as_slice.ensures.value;
        finishes = c.finish-fault.ensures.finishes;
        shown_is = c.last_look-live.ensures;
        closes = c.close.ensures.closes;
      });
    }

pub returns-in-Err : goal.returns-in-Err
returns-in-Err g c = record {
  works = inl (subst (λ feeds. HasNotWorked g.C.Disk c.args.book feeds c.give_up.result) c.in-Err.ensures.unused.0
      (subst (λ book. HasNotWorked g.C.Disk book c.in-Err.field-0.feeds.items c.give_up.result) c.in-Err.ensures.back c.give_up.ensures.gives_up));
}
