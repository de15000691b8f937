use Rattle.mdf_vlsd.proofs.Values.{value_stays}
use Rattle.mdf_vlsd.proofs.stream.ValueStream.push.Goals as goal

pub returns-clause-earlier : goal.returns-clause-earlier
returns-clause-earlier c = λ o v stands.
    rw c.in_ok-push_pair.ensures.ok (value_stays _ _ o v (value_stays _ _ o v (rw (← c.self.view_is) at stands)))
