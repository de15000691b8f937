-- A recording that is read: its header, its history, its data groups, and what the first of these holds.
use Rattle.std.specs.Prelude.{ℕ, ◌≡◌, ◌<◌, ◌||◌, slice_index_or, false, not, if◌then◌else◌, List, [], ◌∷◌, length, Ok, Err}
use Rattle.mdf_format.specs.Form.{form_named, names_form}
use Rattle.mdf_format.specs.declared.form.Form.{Form}
use Rattle.mdf_format.specs.declared.kind.Kind.TheVariants.{Dg}
use Rattle.mdf_block.specs.Refusal.{Bad, NotRecording, Read, ◌>>=◌}
use Rattle.mdf_stream.specs.Parts.{stream_of, stream_size}
use Rattle.mdf_head.specs.declared.identity.Ident.{Ident}
use Rattle.mdf_head.specs.Ident.{identify}
use Rattle.mdf_group.specs.declared.row.DataRow.{DataRow}
use Rattle.mdf_content.specs.Layouts.{layouts}
use Rattle.mdf_content.specs.Records.{places_of}
use Rattle.mdf_model.specs.declared.tree.Tree.{Tree}
use Rattle.mdf_model.specs.Tree.{tree}
use Rattle.mdf_gate.specs.Units.{opened_parts}
use Rattle.mdf_stream.specs.declared.part.Part.{Part}
use Rattle.mdf_session.specs.declared.session.Kept.{Kept}
use Rattle.mdf_session.specs.Counted.{all_streams, counts_from, records_content, totals_from}

-- an identification that says that the file is a recording: it is not finalized, and its custom word names a form
abbrev pub recording_by : Ident → Read Ident
recording_by id =
    if id.finalized || not (names_form id.custom_flags) then Err (NotRecording id.std_flags id.custom_flags) else Ok id

unfoldable pub recording : List ℕ → Read Ident
recording file = identify file >>= recording_by

-- what the data group of a recording holds: the records one behind the other, how many each channel group has, how many
-- bytes its values have, and the streams of the channels of variable length
abbrev pub kept_by : List ℕ → DataRow → List Part → List (List ℕ) → List (List ℕ) → Kept
kept_by file row parts lists found = record {
  content = records_content (stream_of file parts) row lists;
  counts = counts_from lists 0 row.groups;
  totals = totals_from (stream_of file parts) lists 0 row.groups;
  streams = found;
}

-- the same where its parts and the places of its records are found
unfoldable pub kept_of : List ℕ → DataRow → List Part → List (List ℕ) → Read Kept
kept_of file row parts lists =
    all_streams file (record { parts = parts; groups = row.groups; lists = lists }) >>= λ found. Ok (kept_by file row parts lists found)

-- a data group of a recording of this form: its id size and layouts, its opened blocks, its records, and the values of its channels
unfoldable pub kept : Form → List ℕ → DataRow → Read Kept
kept form file row = do
  _ ← layouts row
  parts ← opened_parts form file row.content
  lists ← places_of (stream_of file parts) (stream_size parts) false row
  kept_of file row parts lists

-- the first data group; a recording has one
abbrev pub first_kept : Form → List ℕ → List DataRow → Read Kept
first_kept form file [] = Err (Bad 0 Dg)
first_kept form file (row ∷ rows) = kept form file row

-- so many groups are counted as the data group has
pub record IsCountedOf (row : DataRow) (found : Kept) : Type 0 where
  pub counts : length found.counts ≡ length row.groups
  pub totals : length found.totals ≡ length row.groups

-- there is a first data group, and its groups are counted
pub record HasFirst (rows : List DataRow) (found : Kept) : Type 0 where
  pub there : 0 < length rows
  pub counted : (d : DataRow) → IsCountedOf (slice_index_or rows 0 d) found

-- the parts of a session
pub record SessionParts : Type 0 where
  pub tree : Tree
  pub kept : Kept

-- the session of a file, or the first reason to refuse it: the identification, the tree, and then its first data group
unfoldable pub session : List ℕ → Read SessionParts
session file = do
  id ← recording file
  all ← tree file
  found ← first_kept (form_named id.custom_flags) file all.rows
  Ok (record { tree = all; kept = found })
