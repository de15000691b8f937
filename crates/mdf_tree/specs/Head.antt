-- The head of a file as it is written, its history, and the head of a recording.
use Rattle.std.specs.Prelude.{ℕ, ◌+◌, ◌^◌, ◌<◌, ℤ, pos, negsuc, List, [], ◌∷◌, ◌++◌, length, replicate, codes}
use Rattle.std.specs.Int.{to_le_bytes, cast_unsigned, w16, w64}
use Rattle.mdf_format.specs.declared.kind.Kind.TheVariants.{Hd, Fh}
use Rattle.mdf_block.specs.declared.link.Link.{Link}
use Rattle.mdf_block.specs.declared.link.Link.TheVariants as links
use Rattle.mdf_block.specs.declared.note.Note.TheVariants as notes
use Rattle.mdf_block.specs.Draft.{Placed, address_of}
use Rattle.mdf_head.specs.declared.entry.Head.{Head}
use Rattle.mdf_head.specs.declared.entry.History.{History}
use Rattle.mdf_tree.specs.Text.{note_blocks, note_link, IsWritable}
use Rattle.mdf_tree.specs.Group.{next_link}

-- a signed number of 16 bits
abbrev pub signed_bytes : ℤ → List ℕ
signed_bytes z = to_le_bytes w16 (cast_unsigned w16 z)

-- the entry of the history at block n: FH, and then its comment
abbrev pub entry_body : History → List ℕ
entry_body entry =
    to_le_bytes w64 entry.time ++ (signed_bytes entry.zone ++ (signed_bytes entry.daylight ++ (entry.flags ∷ replicate 3 0)))

abbrev pub entry_block : ℕ → Link → History → Placed
entry_block n next entry = record { kind = Fh; links = next ∷ note_link (n + 1) entry.comment ∷ []; body = entry_body entry }

abbrev pub past_entry : ℕ → History → ℕ
past_entry n entry = n + 1 + length (note_blocks entry.comment)

unfoldable pub past_history : ℕ → List History → ℕ
past_history n [] = n
past_history n (entry ∷ entries) = past_history (past_entry n entry) entries

-- the entries of the history from block n on, each linked to the next one
unfoldable pub history_blocks : ℕ → List History → List Placed
history_blocks n [] = []
history_blocks n (entry ∷ entries) =
    (entry_block n (next_link (past_entry n entry) entries) entry ∷ note_blocks entry.comment)
    ++ history_blocks (past_entry n entry) entries

unfoldable pub placed_history : List Placed → ℕ → List History → List History
placed_history blocks n [] = []
placed_history blocks n (entry ∷ entries) =
    record entry { at = address_of blocks n } ∷ placed_history blocks (past_entry n entry) entries

-- the body of HD
abbrev pub head_body : Head → List ℕ
head_body head =
    to_le_bytes w64 head.start
    ++ (signed_bytes head.zone
    ++ (signed_bytes head.daylight
    ++ (head.time_flags ∷ head.time_class ∷ head.flags ∷ 0 ∷ (to_le_bytes w64 head.angle ++ to_le_bytes w64 head.distance))))

-- HD, with its links to its comment, to the history, to the data groups and to the attachments; it names no chronology or event
abbrev pub linked_header : ℕ → Link → Link → Link → Head → Placed
linked_header comment entries groups attached head = record {
  kind = Hd;
  links = groups ∷ entries ∷ links.Nothing ∷ attached ∷ links.Nothing ∷ note_link comment head.comment ∷ [];
  body = head_body head;
}

-- the same without attachments
abbrev pub header_block : ℕ → Link → Link → Head → Placed
header_block comment entries groups head = linked_header comment entries groups links.Nothing head

-- the head: HD at block 0, the history, and then the comment of HD
abbrev pub linked_head_blocks : Head → List History → Link → Link → List Placed
linked_head_blocks head entries groups attached =
    linked_header (past_history 1 entries) (next_link 1 entries) groups attached head
    ∷ (history_blocks 1 entries ++ note_blocks head.comment)

-- the same without attachments
unfoldable pub head_blocks : Head → List History → Link → List Placed
head_blocks head entries groups = linked_head_blocks head entries groups links.Nothing

-- the block behind the head
abbrev pub head_groups : Head → List History → ℕ
head_groups head entries = past_history 1 entries + length (note_blocks head.comment)

-- the numbers of an entry and of a head fit their fields
abbrev pub IsSigned16 : ℤ → Type 0
IsSigned16 (pos n) = n < 2 ^ 15
IsSigned16 (negsuc n) = n < 2 ^ 15

pub record IsEntryWritable (entry : History) : Type 0 where
  pub time : entry.time < 2 ^ 64
  pub zone : IsSigned16 entry.zone
  pub daylight : IsSigned16 entry.daylight
  pub comment : IsWritable entry.comment

pub record IsHeadWritable (head : Head) : Type 0 where
  pub start : head.start < 2 ^ 64
  pub zone : IsSigned16 head.zone
  pub daylight : IsSigned16 head.daylight
  pub angle : head.angle < 2 ^ 64
  pub distance : head.distance < 2 ^ 64
  pub comment : IsWritable head.comment

-- the XML text of an entry of the history that this program adds: what was done, and by which tool
abbrev pub entry_text : List ℕ → List ℕ
entry_text title =
    codes "<FHcomment><TX>" ++ title
    ++ codes "</TX><tool_id>mdf4rec</tool_id><tool_vendor>none</tool_vendor><tool_version>1</tool_version></FHcomment>"

-- an entry of the history at a time in ns, in UTC
abbrev pub new_entry : List ℕ → ℕ → History
new_entry title now = record {
  at = 0;
  time = now;
  zone = pos 0;
  daylight = pos 0;
  flags = 0;
  comment = notes.Xml (entry_text title);
}
