use Rattle.std.proofs.Common.{◌≡◌, ◌<◌, ◌++◌, ◌∷◌, ◌∙◌, [], ℕ, ap, arith, get_or, length, length-append, subst}
use Rattle.mdf_log.specs.Course.{HasLeft, HaveLeft}
use Rattle.mdf_log.proofs.Letting.{all_done, fewer, get_any, next_taken, three_more}
use Rattle.mdf_log.proofs.log.let_all_go.Goals as goal

pub loop-feed-preserved : goal.loop-feed-preserved
loop-feed-preserved g c =
    let so_far = c.loop-feed.invariant in
    let done = c.loop-feed.yielded in
    let feed = c.in-Some.feed in
    let rest = c.loop-feed.feed-iterator.rest.items in
    let later = c.next.new.self.rest.items in
    let steps : rest ≡ feed ∷ later = c.in-Some.ensures.steps.0 in
    let end = c.let_go-tap.result.0 in
    let tap = c.let_go-tap.result.1 in
    let ends = c.loop-feed.ends.items in
    let taps = c.loop-feed.taps.items in
    let grown : c.push_reserved.new.self.items ≡ ends ++ end ∷ [] = c.push_reserved.ensures.items in
    let more : c.push_reserved-in-loop-feed.new.self.items ≡ taps ++ tap ∷ [] = c.push_reserved-in-loop-feed.ensures.items in
    let accepted = c.args.accepted.now in
    let within : c.from.result < length accepted =
    omega (arith, c.from.ensures, so_far.number, fewer done rest later c.args.feeds.items feed so_far.parts steps, c.requires.counts) in
    record {
      parts = next_taken done rest later c.args.feeds.items feed so_far.parts steps;
      number = omega (arith, so_far.number, length-append done (feed ∷ []));
      ends = omega (arith, so_far.ends, ap length grown, length-append ends (end ∷ []), length-append done (feed ∷ []));
      taps = omega (arith, so_far.taps, ap length more, length-append taps (tap ∷ []), length-append done (feed ∷ []));
      left = λ number d n e t less. three_more (λ k one end tap. (n : ℕ) → HasLeft g.K.Sink k one (get_or accepted k n) c.args.durable end tap)
          done ends _ taps _ feed end tap so_far.ends so_far.taps grown more (λ k d e t less n. so_far.left k d n e t less)
          (λ n. subst (λ k. HasLeft g.K.Sink k feed (get_or accepted k n) c.args.durable end tap) so_far.number
          (subst (λ count. HasLeft g.K.Sink c.loop-feed.number feed count c.args.durable end tap)
          (get_any accepted c.from.result 0 n within ∙ ap (λ k. get_or accepted k n) c.from.ensures) c.let_go-tap.ensures))
          number d e t less n;
      ends_room = c.push_reserved.ensures.capacity ∙ so_far.ends_room;
      taps_room = c.push_reserved-in-loop-feed.ensures.capacity ∙ so_far.taps_room;
    }

pub returns : goal.returns
returns g c =
    let so_far = c.loop-feed.invariant in
    let left = c.loop-feed.feed-iterator.rest in
    let none : length left.items ≡ 0 = omega (arith, left.ok.0, c.in-None.ensures.steps.0) in
    let all = all_done c.loop-feed.yielded left.items c.args.feeds.items so_far.parts none in
    record {
      count = (so_far.ends ∙ ap length all, so_far.taps ∙ ap length all);
      left = subst (λ feeds. HaveLeft g.K.Sink feeds c.args.accepted.now c.args.durable c.loop-feed.ends.items c.loop-feed.taps.items) all so_far.left;
    }
