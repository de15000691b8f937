-- Texts as they are written, and the links to them.
use Rattle.std.specs.Prelude.{ℕ, ◌≢◌, ◌+◌, ◌-◌, List, [], ◌∷◌, ◌++◌, length, replicate}
use Rattle.std.specs.List.{AllByRecursion}
use Rattle.mdf_format.specs.Number.{aligned}
use Rattle.mdf_format.specs.declared.kind.Kind.TheVariants.{Tx, Md}
use Rattle.mdf_block.specs.declared.link.Link.{Link}
use Rattle.mdf_block.specs.declared.link.Link.TheVariants as links
use Rattle.mdf_block.specs.declared.note.Note.{Note}
use Rattle.mdf_block.specs.declared.note.Note.TheVariants as notes
use Rattle.mdf_block.specs.Draft.{Placed}

-- the body of a text: the text, a zero byte, and zero bytes up to a multiple of 8
abbrev pub text_body : List ℕ → List ℕ
text_body bytes = bytes ++ replicate (aligned (length bytes + 1) - length bytes) 0

-- the block of a text, if there is one: a TXBLOCK, or an MDBLOCK for XML
unfoldable pub note_blocks : Note → List Placed
note_blocks notes.Nothing = []
note_blocks (notes.Plain bytes) = record { kind = Tx; links = []; body = text_body bytes } ∷ []
note_blocks (notes.Xml bytes) = record { kind = Md; links = []; body = text_body bytes } ∷ []

-- the link to it, where its block is block n
unfoldable pub note_link : ℕ → Note → Link
note_link n notes.Nothing = links.Nothing
note_link n (notes.Plain bytes) = links.Block n
note_link n (notes.Xml bytes) = links.Block n

-- a text without zero bytes, which is read back as it was written
abbrev pub IsText : List ℕ → Type 0
IsText bytes = AllByRecursion (λ byte. byte ≢ 0) bytes

abbrev pub IsWritable : Note → Type 0
IsWritable notes.Nothing = Unit {0}
IsWritable (notes.Plain bytes) = IsText bytes
IsWritable (notes.Xml bytes) = IsText bytes
