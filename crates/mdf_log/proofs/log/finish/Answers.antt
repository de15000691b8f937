use Rattle.std.proofs.Common.{refl, subst}
use Rattle.mdf_log.specs.Course.{HaveLeft}
use Rattle.mdf_log.proofs.Letting.{printed}
use Rattle.mdf_log.proofs.log.finish.Goals as goal

pub returns : goal.returns
returns g c =
    let course = c.args.course in
    let ends = c.let_all_go.new.ends.items in
    let taps = c.let_all_go.new.taps.items in
    record {
      ends = ends;
      end_is = (refl, refl, refl, refl, refl);
      count = c.let_all_go.ensures.count;
      left = subst (λ durable. HaveLeft g.K.Sink course.feeds.items course.tally.accepted.items durable ends taps) c.is_calm.ensures
          (subst (λ accepted. HaveLeft g.K.Sink course.feeds.items accepted c.is_calm.result ends taps) c.as_slice.ensures.value c.let_all_go.ensures.left);
      printed = λ before first gives. rw (c.status_after.ensures, c.log_status.ensures) (printed _ _ _ _ _ (c.give_behind-given.ensures before first gives));
    }
