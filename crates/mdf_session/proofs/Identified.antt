-- A file that has a session is identified as a recording.
use Rattle.std.proofs.Common.{◌≡◌, ℕ, List, Ok}
use Rattle.mdf_block.proofs.Refusals.{bind_ok}
use Rattle.mdf_session.specs.Identified.{IsIdentifiedRecording}
use Rattle.mdf_session.specs.Session.{SessionParts, recording, session}

pub session_is_identified : (file : List ℕ) (found : SessionParts) → session file ≡ Ok found → IsIdentifiedRecording file
unfolding session
session_is_identified file found is = let one = bind_ok (recording file) _ found is in (one.0, one.1)
