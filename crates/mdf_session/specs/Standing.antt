-- What is read of a recording while its records still stand in the file.
use Rattle.std.specs.Prelude.{ℕ, ◌≤◌, List}
use Rattle.mdf_format.specs.Number.{bytes_at}
use Rattle.mdf_stream.specs.Parts.{AreBehind, ArePartsInside, stream_of, stream_size}
use Rattle.mdf_session.specs.declared.standing.Standing.{Standing}
use Rattle.mdf_session.specs.declared.session.Kept.{Kept}
use Rattle.mdf_session.specs.declared.session.Found.{Found}
use Rattle.mdf_session.specs.Session.{SessionParts}

-- what a data group holds, with these records
abbrev pub with_content : List ℕ → Standing → Kept
with_content content found = record { content = content; counts = found.counts; totals = found.totals; streams = found.streams }

-- the records: so many bytes of the stream, from its beginning
abbrev pub content_of : List ℕ → Standing → List ℕ
content_of file found = bytes_at found.size (stream_of file found.view) 0

-- what a data group holds, with its records from the file
abbrev pub kept_from : List ℕ → Standing → Kept
kept_from file found = with_content (content_of file found) found

-- the recording, with these records
abbrev pub session_with : List ℕ → Found → SessionParts
session_with content found = record { tree = found.tree; kept = with_content content found.standing }

-- the recording, with its records from the file
abbrev pub session_from : List ℕ → Found → SessionParts
session_from file found = session_with (content_of file found.standing) found

-- the records stand in a file of so many bytes, none of them before its place among them
pub record StandIn (size : ℕ) (found : Standing) : Type 0 where
  pub inside : ArePartsInside size found.view
  pub behind : AreBehind 0 found.view
  pub within : found.size ≤ stream_size found.view
