use Rattle.mdf_session.proofs.session.session_of.Goals as goal

pub session_with-requires : goal.session_with-requires
session_with-requires c = record { counted = c.in_ok-found.ensures.counted c.moved_front-content.result }
