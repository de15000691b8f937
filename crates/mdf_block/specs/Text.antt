-- Texts: the bytes before the first zero byte of a TXBLOCK's or an MDBLOCK's body.
use Rattle.std.specs.Prelude.{ℕ, ◌≡◌, ◌≢◌, ◌-◌, ◌<◌, ◌≤◌, ◌⊎◌, Bool, nat_eq, nat_le, if◌then◌else◌, List, length, Option, Some, None, Ok, Err}
use Rattle.std.specs.List.{before_first}
use Rattle.mdf_format.specs.Block.{IsBlock, body_at}
use Rattle.mdf_format.specs.declared.kind.Kind.{Kind}
use Rattle.mdf_format.specs.declared.kind.Kind.TheVariants as kinds
use Rattle.mdf_block.specs.declared.what.What.TheVariants as whats
use Rattle.mdf_block.specs.declared.note.Note.{Note}
use Rattle.mdf_block.specs.declared.note.Note.TheVariants as notes
use Rattle.mdf_block.specs.declared.fault.NoteFault.{NoteFault}
use Rattle.mdf_block.specs.declared.fault.NoteFault.TheVariants as faults
use Rattle.mdf_block.specs.Refusal.{Refusal, Bad, TooMany, Read, ◌>>=◌}
use Rattle.mdf_block.specs.Block.{is_named, is_block}

abbrev pub is_zero : ℕ → Bool
is_zero byte = nat_eq byte 0

-- the text in a body
abbrev pub text_of : List ℕ → List ℕ
text_of body = before_first is_zero body

-- the text of the block at the address, and how many bytes of texts may still come
unfoldable pub text : List ℕ → ℕ → Kind → ℕ → Read (List ℕ × ℕ)
text file at kind left =
    if is_block file at kind
    then (if nat_le (length (text_of (body_at file at))) left
    then Ok (text_of (body_at file at), left - length (text_of (body_at file at)))
    else Err (TooMany whats.Text at))
    else Err (Bad at kinds.Tx)

-- the text that a link names, and how many bytes of texts may still come
unfoldable pub note : List ℕ → ℕ → ℕ → Read (Note × ℕ)
note file at left =
    if nat_eq at 0 then Ok (notes.Nothing, left)
    else (if is_named file at kinds.Md
    then (text file at kinds.Md left >>= λ found. Ok (notes.Xml found.0, found.1))
    else (text file at kinds.Tx left >>= λ found. Ok (notes.Plain found.0, found.1)))

abbrev pub note_refusal : NoteFault → Option Refusal
note_refusal (faults.Bad at) = Some (Bad at kinds.Tx)
note_refusal (faults.TooMany at) = Some (TooMany whats.Text at)
note_refusal faults.Memory = None

-- the text that a link names, as a fact
abbrev pub IsNote : List ℕ → ℕ → Note → Type 0
IsNote file at notes.Nothing = at ≡ 0
IsNote file at (notes.Plain bytes) = (at ≢ 0) × IsBlock file at kinds.Tx × (bytes ≡ text_of (body_at file at))
IsNote file at (notes.Xml bytes) = (at ≢ 0) × IsBlock file at kinds.Md × (bytes ≡ text_of (body_at file at))

-- how many bytes of texts it counts for
abbrev pub note_size : Note → ℕ
note_size notes.Nothing = 0
note_size (notes.Plain bytes) = length bytes
note_size (notes.Xml bytes) = length bytes

-- why there is no text, or none that may still come: no text stands at the address, or a text that is too long
abbrev pub LacksNote : List ℕ → ℕ → ℕ → Refusal → Type 0
LacksNote file at left refusal =
    ((refusal ≡ Bad at kinds.Tx) × (at ≢ 0) × (¬ IsBlock file at kinds.Tx) × (¬ IsBlock file at kinds.Md))
    ⊎ ((refusal ≡ TooMany whats.Text at) × ((found : Note) × IsNote file at found × (left < note_size found)))

-- the same of a fault; memory is wanted only for a text that is found
abbrev pub HasNoNote : List ℕ → ℕ → ℕ → NoteFault → Type 0
HasNoNote file at left (faults.Bad bad) =
    (bad ≡ at) × (at ≢ 0) × (¬ IsBlock file at kinds.Tx) × (¬ IsBlock file at kinds.Md)
HasNoNote file at left (faults.TooMany bad) =
    (bad ≡ at) × ((found : Note) × IsNote file at found × (left < note_size found))
HasNoNote file at left faults.Memory = (found : Note) × IsNote file at found × (note_size found ≤ left)
