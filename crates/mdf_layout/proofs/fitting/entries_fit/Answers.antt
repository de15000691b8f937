use borrow.Author.Count.{below_more}
use Rattle.std.proofs.Common.{◌<◌, get_or, length, refl, subst, sym, ◌∙◌, arith}
use Rattle.std.proofs.lemmas.List.{get_or_default}
use Rattle.mdf_layout.specs.Written.{IsEntryOf}
use Rattle.mdf_layout.proofs.fitting.entries_fit.Goals as goal

pub returns-then-not-entry_fits : goal.returns-then-not-entry_fits
returns-then-not-entry_fits c = (
  λ no. cc,
  λ fit.
      let each = fit.each c.loop-i.i _ c.index-entries-i.result c.loop-i-test.true in
      c.if-not-entry_fits.ensures.1 (subst (IsEntryOf _) (sym c.index-entries-i.is) each),
)

pub loop-i-preserved : goal.loop-i-preserved
loop-i-preserved c =
    let inside : c.loop-i.i < length c.args.entries.now = omega (arith, c.if-rows-entries.false, c.loop-i-test.true) in
    λ k row entry within.
    let there = c.index-entries-i.is ∙ get_or_default c.args.entries.now c.loop-i.i _ entry inside in
    below_more (λ i. IsEntryOf (get_or c.args.rows.now i row) (get_or c.args.entries.now i entry)) c.loop-i.i
    (λ i below. c.loop-i.invariant i row entry below)
    (subst (λ r. IsEntryOf r (get_or c.args.entries.now c.loop-i.i entry)) (get_or_default c.args.rows.now c.loop-i.i _ row c.loop-i-test.true)
    (subst (IsEntryOf _) there (c.if-not-entry_fits.ensures.0 refl)))
    k within
