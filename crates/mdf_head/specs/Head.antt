-- The header and the file history, each with its comments.
use Rattle.std.specs.Prelude.{ℕ, ◌≡◌, ◌≢◌, ◌+◌, ◌<◌, ◌≤◌, ◌⊎◌, List, length, slice_index, sum_by, map, ℤ, Option, Some, None, Ok}
use Rattle.std.specs.List.{AllByRecursion}
use Rattle.mdf_format.specs.Number.{le_number, bytes_at}
use Rattle.mdf_format.specs.Field.{signed_number}
use Rattle.mdf_format.specs.Block.{link_at, body_at, IsBlock, IsChain}
use Rattle.mdf_format.specs.declared.kind.Kind.TheVariants.{Hd, Fh}
use Rattle.mdf_block.specs.declared.what.What.TheVariants as whats
use Rattle.mdf_block.specs.declared.note.Note.{Note}
use Rattle.mdf_block.specs.Refusal.{Refusal, Bad, TooMany, Read, ◌>>=◌}
use Rattle.mdf_block.specs.Block.{block, body_of}
use Rattle.mdf_block.specs.Text.{note, note_size, IsNote, LacksNote}
use Rattle.mdf_block.specs.Chain.{Step, chain, full, AreAlong}
use Rattle.mdf_head.specs.declared.entry.Head.{Head}
use Rattle.mdf_head.specs.declared.entry.History.{History}
use Rattle.mdf_head.specs.declared.fault.HeadFault.{HeadFault}
use Rattle.mdf_head.specs.declared.fault.HeadFault.TheVariants as faults

-- a signed number of 16 bits in a body
abbrev pub signed_at : List ℕ → ℕ → ℤ
signed_at body at = signed_number 16 (le_number (bytes_at 2 body at))

-- an entry of the history, from its body
abbrev pub the_history : ℕ → List ℕ → Note → History
the_history at body comment = record {
  at = at;
  time = le_number (bytes_at 8 body 0);
  zone = signed_at body 8;
  daylight = signed_at body 10;
  flags = slice_index body 12;
  comment = comment;
}

-- the header, from its body
abbrev pub the_head : List ℕ → Note → ℕ → Head
the_head body comment first_dg = record {
  start = le_number (bytes_at 8 body 0);
  zone = signed_at body 8;
  daylight = signed_at body 10;
  time_flags = slice_index body 12;
  time_class = slice_index body 13;
  flags = slice_index body 14;
  angle = le_number (bytes_at 8 body 16);
  distance = le_number (bytes_at 8 body 24);
  comment = comment;
  first_dg = first_dg;
}

-- an entry at an address: its block, then its comment
unfoldable pub history : List ℕ → Step History ℕ
history file at left = do
  b ← block file at Fh
  comment ← note file (link_at file b.at 1) left
  Ok (the_history b.at (body_of file b) comment.0, link_at file b.at 0, comment.1)

-- the whole history from an address on: at most 65,535 entries
abbrev pub histories : List ℕ → ℕ → ℕ → Read (List History × ℕ × ℕ)
histories file at left = chain (history file) (full whats.Fh Fh file) 65535 at left

-- the header: its block, then its comment; with it the address of the first entry of the history
unfoldable pub header : List ℕ → ℕ → Read (Head × ℕ × ℕ)
header file left = do
  b ← block file 64 Hd
  comment ← note file (link_at file b.at 5) left
  Ok (the_head (body_of file b) comment.0 (link_at file b.at 0), link_at file b.at 1, comment.1)

-- the header and the history
unfoldable pub head : List ℕ → ℕ → Read ((Head × List History) × ℕ)
head file left = do
  first ← header file left
  entries ← histories file first.1 first.2
  Ok ((first.0, entries.0), entries.2)

abbrev pub head_refusal : HeadFault → Option Refusal
head_refusal (faults.Bad at want) = Some (Bad at want)
head_refusal (faults.TooMany what at) = Some (TooMany what at)
head_refusal faults.Memory = None

-- an entry as it stands in the file
pub record IsHistory (file : List ℕ) (entry : History) : Type 0 where
  pub fields : entry ≡ the_history entry.at (body_at file entry.at) entry.comment
  pub comment : IsNote file (link_at file entry.at 1) entry.comment

-- the header and the history as they stand in the file
pub record IsHead (file : List ℕ) (head : Head) (rows : List History) : Type 0 where
  pub block : IsBlock file 64 Hd
  pub fields : head ≡ the_head (body_at file 64) head.comment (link_at file 64 0)
  pub comment : IsNote file (link_at file 64 5) head.comment
  pub chain : IsChain file (link_at file 64 1) Fh (map (λ entry. entry.at) rows)
  pub entries : AllByRecursion (IsHistory file) rows

-- the header stands, and so many entries of the history behind it, and this address other than 0 is the link behind them
pub record IsBehind (file : List ℕ) (count : ℕ) (at : ℕ) : Type 0 where
  pub header : IsBlock file 64 Hd
  pub named : at ≢ 0
  pub places : List ℕ
  pub along : AreAlong file Fh (link_at file 64 1) places at
  pub many : length places ≡ count

-- the address is the link of a comment: the header's, or that of one of the first 65,535 entries
abbrev pub IsCommentOf : List ℕ → ℕ → Type 0
IsCommentOf file at =
    (IsBlock file 64 Hd × (at ≡ link_at file 64 5))
    ⊎ ((entry : ℕ) × (count : ℕ) × IsBehind file count entry × (count < 65535) × IsBlock file entry Fh × (at ≡ link_at file entry 1))

-- why the header and the history are refused, where texts may have so many bytes in all
abbrev pub LacksHead : List ℕ → ℕ → Refusal → Type 0
LacksHead file budget refusal =
    ((refusal ≡ Bad 64 Hd) × (¬ IsBlock file 64 Hd))
    ⊎ (((at : ℕ) × (count : ℕ) × (refusal ≡ Bad at Fh) × IsBehind file count at × (count ≤ 65535) × (¬ IsBlock file at Fh))
    ⊎ (((at : ℕ) × (refusal ≡ TooMany whats.Fh at) × IsBehind file 65535 at × IsBlock file at Fh)
    ⊎ ((at : ℕ) × (left : ℕ) × IsCommentOf file at × (left ≤ budget) × LacksNote file at left refusal)))

-- how many bytes of texts the header and the history have
abbrev pub text_size : Head → List History → ℕ
text_size head rows = note_size head.comment + sum_by (λ entry. note_size entry.comment) rows

-- the header stands, and its comment has no more bytes than texts may have
abbrev pub HasHeader : List ℕ → ℕ → Type 0
HasHeader file budget = IsBlock file 64 Hd × ((comment : Note) × IsNote file (link_at file 64 5) comment × (note_size comment ≤ budget))
