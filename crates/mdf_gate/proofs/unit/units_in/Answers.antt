use Rattle.std.proofs.Common.{◌+◌, ◌≤◌, ◌<◌, refl, sym, subst, ◌∙◌, arith, ℕ, rules}
use Rattle.std.proofs.lemmas.Result.{err_from_is_err_and}
use Rattle.mdf_stream.specs.Parts.{IsPartInside}
use Rattle.mdf_stream.proofs.Links.{all_more}
use Rattle.mdf_gate.specs.Fault.{gate_refusal}
use Rattle.mdf_stream.proofs.Moves.{behind_more, none_behind}
use Rattle.mdf_gate.proofs.Loops.{begins, is_done, goes_on, ends}
use Rattle.mdf_block.proofs.Readers.{says_of}
use Rattle.mdf_gate.proofs.unit.units_in.Goals as goal

pub loop-view-init : goal.loop-view-init
loop-view-init g c = record {
  found = λ f told. rw c.empty-view.ensures (begins c.args.form f c.args.first);
  inside = rw c.empty-view.ensures tt;
  behind = none_behind _ c.empty-view.ensures;
  below = rw c.empty-view.ensures (omega arith);
  same = refl;
  size = refl;
  later = omega arith;
}

pub returns-in_err-unit-clause-reads : goal.returns-in_err-unit-clause-reads
returns-in_err-unit-clause-reads g c = says_of (search rules) (λ f told.
    let p = err_from_is_err_and c.from_residual-in_err-unit.result c.from_residual-in_err-unit.ensures.1 in
    let loop = c.loop-view in
    let gate = c.in_ok-is_open_in.ensures in
    let now = loop.invariant.same ∙ told in
    rw (p.1, p.2) (
    ends c.args.form f gate_refusal _ loop.view loop.place _ (sym (gate.reads.seen f now) ∙ c.if-branch.true) (c.in_err-unit.ensures.reads.found f (gate.reads.same ∙ now))
    (loop.invariant.found f told)
    ))

pub loop-view-preserved : goal.loop-view-preserved
loop-view-preserved g c =
    let loop = c.loop-view in
    let gate = c.in_ok-is_open_in.ensures in
    let unit = c.in_ok-unit in
    let next = c.in_ok-place.ensures in record {
      found = λ f told.
          let now = loop.invariant.same ∙ told in
          rw (next.added, next.behind) (
          goes_on c.args.form f loop.view loop.place _ unit.unit (sym (gate.reads.seen f now) ∙ c.if-branch.true) (unit.ensures.reads.found f (gate.reads.same ∙ now))
          (subst (λ (n : ℕ). loop.place < n) next.behind next.later) (loop.invariant.found f told)
          );
      inside =
          let size = gate.reads.size ∙ loop.invariant.size in
          rw next.added (
          all_more (IsPartInside (g.P.Span.size c.args.span.now)) loop.view _ loop.invariant.inside
          (subst (λ (n : ℕ). unit.unit.body_at + unit.unit.body_len ≤ n) size unit.ensures.inside.ends, tt)
          );
      behind = rw next.added (behind_more 0 loop.view _ loop.invariant.behind (omega (arith, loop.invariant.below, next.after)));
      below = next.below;
      same = unit.ensures.reads.same ∙ gate.reads.same ∙ loop.invariant.same;
      size = unit.ensures.reads.size ∙ gate.reads.size ∙ loop.invariant.size;
      later = omega (arith, unit.ensures.reads.cause.later, gate.reads.cause.later, loop.invariant.later);
    }

pub returns-clause-reads : goal.returns-clause-reads
returns-clause-reads g c = says_of (search rules) (λ f told.
    let loop = c.loop-view in
    is_done c.args.form f loop.view loop.place _ (sym (c.in_ok-is_open_in.ensures.reads.seen f (loop.invariant.same ∙ told)) ∙ c.if-branch.false)
    (loop.invariant.found f told))
