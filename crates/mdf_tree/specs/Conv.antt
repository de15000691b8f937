-- Sources and conversions as they are written: the block, and then its texts and what it refers to, each whole.
use Rattle.std.specs.Prelude.{ℕ, zero, suc, ◌+◌, ◌%◌, ◌^◌, ◌<◌, List, [], ◌∷◌, ◌++◌, length, replicate}
use Rattle.std.specs.List.{flat_map, AllByRecursion}
use Rattle.std.specs.Int.{to_le_bytes, w16, w64}
use Rattle.mdf_format.specs.declared.kind.Kind.TheVariants.{Cc, Si}
use Rattle.mdf_block.specs.declared.link.Link.{Link}
use Rattle.mdf_block.specs.declared.link.Link.TheVariants as links
use Rattle.mdf_block.specs.declared.note.Note.{Note}
use Rattle.mdf_block.specs.Draft.{Placed}
use Rattle.mdf_conv.specs.declared.row.SourceInfo.{SourceInfo}
use Rattle.mdf_conv.specs.declared.row.Conversion.{Conversion}
use Rattle.mdf_conv.specs.declared.row.Ref.{Ref}
use Rattle.mdf_conv.specs.declared.row.Ref.TheOpen as layers
use Rattle.mdf_conv.specs.declared.row.Ref.TheViews.{out-Ref}
use Rattle.mdf_block.specs.declared.note.Note.TheVariants as notes
use Rattle.mdf_tree.specs.Text.{note_blocks, note_link, IsText, IsWritable}

-- the body of a source
abbrev pub source_body : SourceInfo → List ℕ
source_body source = source.kind ∷ source.bus ∷ source.flags ∷ replicate 5 0

-- where its path and its comment stand
abbrev pub source_path : ℕ → SourceInfo → ℕ
source_path n source = n + 1 + length (note_blocks source.name)

abbrev pub source_comment : ℕ → SourceInfo → ℕ
source_comment n source = source_path n source + length (note_blocks source.path)

-- its links: name, path and comment
abbrev pub source_head_links : ℕ → SourceInfo → List Link
source_head_links n source =
    note_link (n + 1) source.name ∷ note_link (source_path n source) source.path ∷ note_link (source_comment n source) source.comment ∷ []

-- SI alone
abbrev pub source_own : ℕ → SourceInfo → Placed
source_own n source = record { kind = Si; links = source_head_links n source; body = source_body source }

-- a source from block n on: SI, its name, its path and its comment
unfoldable pub source_blocks : ℕ → SourceInfo → List Placed
source_blocks n source =
    source_own n source
    ∷ (note_blocks source.name ++ (note_blocks source.path ++ note_blocks source.comment))

-- its texts are read back
pub record IsSourceWritable (source : SourceInfo) : Type 0 where
  pub name : IsWritable source.name
  pub path : IsWritable source.path
  pub comment : IsWritable source.comment

-- what a conversion refers to, with the conversion itself in place of its box
abbrev pub Layer : Type 0
Layer = layers.Ref-F Ref Conversion

-- numbers of 8 bytes
abbrev pub words_of : List ℕ → List ℕ
words_of numbers = flat_map (to_le_bytes w64) numbers

-- the body of a conversion; the count of references is cut to its 16 bits
abbrev pub conv_body : Conversion → List ℕ
conv_body conv =
    conv.kind ∷ conv.precision
    ∷ (to_le_bytes w16 conv.flags
    ++ (to_le_bytes w16 (length conv.refs % 2 ^ 16)
    ++ (to_le_bytes w16 (length conv.numbers % 2 ^ 16)
    ++ (to_le_bytes w64 conv.low ++ (to_le_bytes w64 conv.high ++ words_of conv.numbers)))))

-- what a reference leads to, from block n on, where conversions are written by `inner`, and the link to it
abbrev pub layer_blocks : (ℕ → Conversion → List Placed) → ℕ → Layer → List Placed
layer_blocks inner n layers.Nothing = []
layer_blocks inner n (layers.Words note) = note_blocks note
layer_blocks inner n (layers.Conv conv) = inner n conv

abbrev pub layer_link : ℕ → Layer → Link
layer_link n layers.Nothing = links.Nothing
layer_link n (layers.Words note) = note_link n note
layer_link n (layers.Conv conv) = links.Block n

unfoldable pub ref_blocks : (ℕ → Conversion → List Placed) → ℕ → Ref → List Placed
ref_blocks inner n found = layer_blocks inner n (out-Ref found)

unfoldable pub ref_link : ℕ → Ref → Link
ref_link n found = layer_link n (out-Ref found)

-- the references one after another, and the links to them
unfoldable pub refs_blocks : (ℕ → Conversion → List Placed) → ℕ → List Ref → List Placed
refs_blocks inner n [] = []
refs_blocks inner n (first ∷ rest) = ref_blocks inner n first ++ refs_blocks inner (n + length (ref_blocks inner n first)) rest

unfoldable pub refs_links : (ℕ → Conversion → List Placed) → ℕ → List Ref → List Link
refs_links inner n [] = []
refs_links inner n (first ∷ rest) = ref_link n first ∷ refs_links inner (n + length (ref_blocks inner n first)) rest

-- where the texts of the conversion at block n stand, and its first reference
abbrev pub conv_unit : ℕ → Conversion → ℕ
conv_unit n conv = n + 1 + length (note_blocks conv.name)

abbrev pub conv_comment : ℕ → Conversion → ℕ
conv_comment n conv = conv_unit n conv + length (note_blocks conv.unit)

abbrev pub conv_first : ℕ → Conversion → ℕ
conv_first n conv = conv_comment n conv + length (note_blocks conv.comment)

-- the four links before those of the references: name, unit, comment, and no inverse conversion
abbrev pub conv_head_links : ℕ → Conversion → List Link
conv_head_links n conv =
    note_link (n + 1) conv.name ∷ note_link (conv_unit n conv) conv.unit ∷ note_link (conv_comment n conv) conv.comment ∷ links.Nothing ∷ []

-- all its links
abbrev pub conv_links : (ℕ → Conversion → List Placed) → ℕ → Conversion → List Link
conv_links inner n conv = conv_head_links n conv ++ refs_links inner (conv_first n conv) conv.refs

-- CC alone
abbrev pub conv_own : (ℕ → Conversion → List Placed) → ℕ → Conversion → Placed
conv_own inner n conv = record { kind = Cc; links = conv_links inner n conv; body = conv_body conv }

-- a conversion from block n on: CC, its name, its unit, its comment, and its references; no inverse conversion is named
unfoldable pub conv_blocks_by : (ℕ → Conversion → List Placed) → ℕ → Conversion → List Placed
conv_blocks_by inner n conv =
    conv_own inner n conv
    ∷ (note_blocks conv.name ++ (note_blocks conv.unit ++ (note_blocks conv.comment ++ refs_blocks inner (conv_first n conv) conv.refs)))

-- the same where at most so many conversions lie in one another, as they are read
unfoldable pub conv_blocks : ℕ → ℕ → Conversion → List Placed
conv_blocks zero n conv = []
conv_blocks (suc levels) n conv = conv_blocks_by (conv_blocks levels) n conv

-- a text that is there, as a reference names it: one that names no text is a reference to nothing
abbrev pub IsWordsWritable : Note → Type 0
IsWordsWritable notes.Nothing = ⊥
IsWordsWritable (notes.Plain bytes) = IsText bytes
IsWordsWritable (notes.Xml bytes) = IsText bytes

-- a reference that is read back
abbrev pub IsLayerWritable : (Conversion → Type 0) → Layer → Type 0
IsLayerWritable IsInner layers.Nothing = Unit {0}
IsLayerWritable IsInner (layers.Words note) = IsWordsWritable note
IsLayerWritable IsInner (layers.Conv conv) = IsInner conv

-- a conversion that is read back: its numbers fit their fields, and so does their count
pub record IsConvWritableBy (IsInner : Conversion → Type 0) (conv : Conversion) : Type 0 where
  pub flags : conv.flags < 2 ^ 16
  pub count : length conv.numbers < 2 ^ 16
  pub low : conv.low < 2 ^ 64
  pub high : conv.high < 2 ^ 64
  pub numbers : AllByRecursion (λ n. n < 2 ^ 64) conv.numbers
  pub name : IsWritable conv.name
  pub unit : IsWritable conv.unit
  pub comment : IsWritable conv.comment
  pub refs : AllByRecursion (λ found. IsLayerWritable IsInner (out-Ref found)) conv.refs

unfoldable pub IsConvWritable : ℕ → Conversion → Type 0
IsConvWritable zero conv = ⊥
IsConvWritable (suc levels) conv = IsConvWritableBy (IsConvWritable levels) conv
