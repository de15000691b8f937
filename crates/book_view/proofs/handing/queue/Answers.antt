use Rattle.std.proofs.Common.{◌≡◌, ◌-◌, ◌∙◌, [], ◌∷◌, ◌++◌, List, ap, arith, length, length-append, sym, subst, drop}
use Rattle.std.specs.Arc.{arc_value}
use mathlib.Core.List.{IsPrefix}
use Rattle.book_view.specs.Handed.{Leads, Pends}
use Rattle.book_view.specs.Log.{head_of}
use Rattle.book_view.specs.declared.front.Fronts.{Fronts}
use Rattle.book_view.specs.declared.store.Addition.{Addition}
use Rattle.book_view.proofs.Beginnings.{done_fit, done_whole}
use Rattle.book_view.proofs.Queueing.{leads_more, pends_longer, pends_more}
use Rattle.book_view.proofs.handing.queue.Goals as goal
use Rattle.book_view.proofs.handing.queue.Goals.{After-lengthen}

pub without-requires : goal.without-requires
without-requires c =
    let fronts = c.args.fronts.now in
    omega (
      arith,
      done_fit fronts.shown.seen.log (arc_value c.args.chunk.now) fronts.log.seen.log c.requires.pends.begins c.requires.begun
          c.len.result c.len-2.result c.len.ensures c.len-2.ensures,
      ap length (c.as_slice.ensures ∙ c.deref.ensures),
    )

pub lengthen-requires-clause-head : goal.lengthen-requires-clause-head
lengthen-requires-clause-head c = c.requires.head ∙ ap head_of (sym c.requires.pends.one_log)

pub lengthen-requires-clause-room : goal.lengthen-requires-clause-room
lengthen-requires-clause-room c =
    let fronts = c.args.fronts.now in
    let all = done_whole fronts.shown.seen.log (arc_value c.args.chunk.now) fronts.log.seen.log c.requires.pends.begins c.requires.begun
    c.len.result c.len-2.result c.len.ensures c.len-2.ensures c.without.result.now
    (c.without.ensures ∙ ap (drop (c.len.result - c.len-2.result)) (c.as_slice.ensures ∙ c.deref.ensures)) in
    omega (
      arith,
      ap length all,
      length-append fronts.log.seen.log c.without.result.now,
      length-append fronts.shown.seen.log (arc_value c.args.chunk.now),
      c.requires.room,
    )

-- the log with the samples that it lacks has all
whole : (c : After-lengthen) → c.args.fronts.now.log.seen.log ++ c.without.result.now ≡ c.args.fronts.now.shown.seen.log ++ arc_value c.args.chunk.now
whole c =
    let fronts = c.args.fronts.now in
    done_whole fronts.shown.seen.log (arc_value c.args.chunk.now) fronts.log.seen.log c.requires.pends.begins c.requires.begun
    c.len.result c.len-2.result c.len.ensures c.len-2.ensures c.without.result.now
    (c.without.ensures ∙ ap (drop (c.len.result - c.len-2.result)) (c.as_slice.ensures ∙ c.deref.ensures))

-- whatever was added, the log may go on so
longer : (c : After-lengthen) → Pends c.args.writer.now.desk.shown.value (drop c.args.writer.now.behind c.args.writer.now.log.items)
    (record { shown = c.args.fronts.now.shown; log = c.lengthen.new.log })
longer c =
    pends_longer c.args.writer.now.desk.shown.value (drop c.args.writer.now.behind c.args.writer.now.log.items) c.args.fronts.now c.requires.pends c.lengthen.new.log
    c.lengthen.ensures.book c.lengthen.ensures.grows

handed : (c : After-lengthen) → IsPrefix c.lengthen.new.log.seen.log (c.args.fronts.now.shown.seen.log ++ arc_value c.args.chunk.now)
handed c = subst (IsPrefix c.lengthen.new.log.seen.log) (whole c) c.lengthen.ensures.within

pub returns-then-not-lengthen-clause-pends : goal.returns-then-not-lengthen-clause-pends
returns-then-not-lengthen-clause-pends c = longer (goal.at.returns-then-not-lengthen-clause-pends c).After-lengthen

pub returns-then-not-lengthen-clause-handed : goal.returns-then-not-lengthen-clause-handed
returns-then-not-lengthen-clause-handed c = handed (goal.at.returns-then-not-lengthen-clause-handed c).After-lengthen

pub returns-in_err-chunk-clause-pends : goal.returns-in_err-chunk-clause-pends
returns-in_err-chunk-clause-pends c = longer (goal.at.returns-in_err-chunk-clause-pends c).After-lengthen

pub returns-in_err-chunk-clause-handed : goal.returns-in_err-chunk-clause-handed
returns-in_err-chunk-clause-handed c = handed (goal.at.returns-in_err-chunk-clause-handed c).After-lengthen

pub returns-clause-pends : goal.returns-clause-pends
returns-clause-pends c =
    let before = c.args.writer.now in
    let now = c.append.new.self in
    let pending : List Addition = drop before.behind before.log.items in
    let fronts : Fronts = record { shown = c.args.fronts.now.shown; log = c.lengthen.new.log } in
    let addition : Addition = record { keep = c.count-keep.result; chunk = c.in_ok-chunk.chunk; front = c.again-front.result } in
    let more = pends_more before.desk.shown.value pending fronts (longer (goal.at.returns-clause-pends c).After-lengthen) addition
    (c.count-keep.ensures ∙ ap (λ store. length store.chunks) c.published.ensures) in
    subst (λ left. Pends now.desk.shown.value left fronts) (sym c.in-Ok.ensures.pending)
    (subst (λ desk. Pends desk.shown.value (pending ++ addition ∷ []) fronts) (sym c.append.ensures.desk) more)

pub returns-clause-leads : goal.returns-clause-leads
returns-clause-leads c =
    let before = c.args.writer.now in
    let now = c.append.new.self in
    let at = (goal.at.returns-clause-leads c).After-lengthen in
    let pending : List Addition = drop before.behind before.log.items in
    let fronts : Fronts = record { shown = c.args.fronts.now.shown; log = c.lengthen.new.log } in
    let addition : Addition = record { keep = c.count-keep.result; chunk = c.in_ok-chunk.chunk; front = c.again-front.result } in
    let all = c.if-not-lengthen.ensures.all ∙ whole at ∙ ap (λ xs. c.args.fronts.now.shown.seen.log ++ xs) (sym c.in_ok-chunk.ensures) in
    let lead = leads_more before.desk.shown.value pending fronts (longer at) addition (c.count-keep.ensures ∙ ap (λ store. length store.chunks) c.published.ensures)
    c.again-front.ensures all in
    subst (λ left. Leads now.desk.shown.value left fronts) (sym c.in-Ok.ensures.pending)
    (subst (λ desk. Leads desk.shown.value (pending ++ addition ∷ []) fronts) (sym c.append.ensures.desk) lead)

pub returns-clause-ok : goal.returns-clause-ok
returns-clause-ok c = c.if-not-lengthen.ensures.all ∙ whole (goal.at.returns-clause-ok c).After-lengthen

pub returns-clause-handed : goal.returns-clause-handed
returns-clause-handed c = handed (goal.at.returns-clause-handed c).After-lengthen

pub returns-in_default-clause-handed : goal.returns-in_default-clause-handed
returns-in_default-clause-handed c = handed (goal.at.returns-in_default-clause-handed c).After-lengthen
