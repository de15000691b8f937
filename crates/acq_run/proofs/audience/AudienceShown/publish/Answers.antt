use Rattle.std.proofs.Common.{sym, subst}
use Rattle.acq_run.specs.Audience.{shows_in, hands_in}
use Rattle.acq_run.proofs.audience.AudienceShown.publish.Goals as goal

pub publish-requires-in-Readers-clause-handed : goal.publish-requires-in-Readers-clause-handed
publish-requires-in-Readers-clause-handed g c =
    let handed = c.requires.handed in (
      handed.0,
      subst (λ audience. shows_in audience handed.0) c.in-Readers.is handed.1,
      λ samples is. handed.2 samples (subst (λ audience. hands_in audience samples) (sym c.in-Readers.is) is),
    )
