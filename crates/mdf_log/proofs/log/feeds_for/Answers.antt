use Rattle.std.proofs.Common.{◌≡◌, ◌++◌, ◌∷◌, [], ap, arith, length, length-append, subst}
use Rattle.acq_lines.specs.Handled.{IsFresh}
use Rattle.mdf_log.specs.Course.{AreFresh}
use Rattle.mdf_log.proofs.Letting.{all_done, next_taken, pair_more}
use Rattle.mdf_log.proofs.log.feeds_for.Goals as goal

pub loop-tap-preserved : goal.loop-tap-preserved
loop-tap-preserved g c =
    let so_far = c.loop-tap.invariant in
    let done = c.loop-tap.yielded in
    let tap = c.in-Some.tap in
    let feed = c.in_ok-new.field-0 in
    let before = c.loop-tap.feeds.items in
    let after = c.push_reserved.new.self.items in
    let grown : after ≡ before ++ feed ∷ [] = c.push_reserved.ensures.items in
    record {
      parts = next_taken done c.loop-tap.tap-iterator.rest.items c.next.new.self.rest.items c.args.taps.items tap so_far.parts c.in-Some.ensures.steps.0;
      number = omega (arith, so_far.number, length-append done (tap ∷ []));
      count = omega (arith, so_far.count, ap length grown, length-append before (feed ∷ []), length-append done (tap ∷ []));
      fresh = λ number t f less. pair_more (λ n one other. IsFresh g.K.Sink c.args.rules n one.input one.told other) done before after tap feed so_far.count grown so_far.fresh
          (subst (λ n. IsFresh g.K.Sink c.args.rules n tap.input tap.told feed) so_far.number c.in_ok-new.ensures.fresh) number t f less;
      room = omega (arith, c.push_reserved.ensures.capacity, so_far.room);
    }

pub returns-clause-fresh : goal.returns-clause-fresh
returns-clause-fresh g c =
    let so_far = c.loop-tap.invariant in
    let left = c.loop-tap.tap-iterator.rest in
    let none : length left.items ≡ 0 = omega (arith, left.ok.0, c.in-None.ensures.steps.0) in
    subst (λ taps. AreFresh g.K.Sink c.args.rules taps c.loop-tap.feeds.items) (all_done c.loop-tap.yielded left.items c.args.taps.items so_far.parts none) so_far.fresh
