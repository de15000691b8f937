-- Conversions and sources, each with its texts.
use Rattle.std.specs.Prelude.{ℕ, zero, suc, ◌+◌, ◌-◌, ◌*◌, ◌≤◌, nat_eq, if◌then◌else◌, List, [], ◌∷◌, slice_index, Option, Some, None, Ok, Err}
use Rattle.mdf_format.specs.Number.{le_number, bytes_at}
use Rattle.mdf_format.specs.Block.{link_at}
use Rattle.mdf_format.specs.declared.kind.Kind.TheVariants.{Cc, Si}
use Rattle.mdf_block.specs.declared.what.What.TheVariants as whats
use Rattle.mdf_block.specs.declared.place.BlockAt.{BlockAt}
use Rattle.mdf_block.specs.declared.note.Note.{Note}
use Rattle.mdf_block.specs.Refusal.{Refusal, Bad, TooMany, Deep, Read, ◌>>=◌}
use Rattle.mdf_block.specs.Block.{block, body_of, is_named}
use Rattle.mdf_block.specs.Text.{note}
use Rattle.mdf_block.specs.Each.{each}
use Rattle.mdf_conv.specs.declared.limits.Budget.{Budget}
use Rattle.mdf_conv.specs.declared.row.SourceInfo.{SourceInfo}
use Rattle.mdf_conv.specs.declared.row.Conversion.{Conversion}
use Rattle.mdf_conv.specs.declared.row.Ref.{Ref}
use Rattle.mdf_conv.specs.declared.row.Ref.TheVariants as refs
use Rattle.mdf_conv.specs.declared.front.ConvFront.{ConvFront}
use Rattle.mdf_conv.specs.declared.front.ConvNumbers.{ConvNumbers}
use Rattle.mdf_conv.specs.declared.front.SourceFront.{SourceFront}
use Rattle.mdf_conv.specs.declared.texts.Texts.{Texts}
use Rattle.mdf_conv.specs.Left.{with_dropped, link_count}
use Rattle.mdf_conv.specs.declared.fault.ConvFault.{ConvFault}
use Rattle.mdf_conv.specs.declared.fault.ConvFault.TheVariants as faults

abbrev pub conv_refusal : ConvFault → Option Refusal
conv_refusal (faults.Bad at want) = Some (Bad at want)
conv_refusal (faults.Deep at) = Some (Deep at)
conv_refusal (faults.TooMany what at) = Some (TooMany what at)
conv_refusal faults.Memory = None

-- the text that a link names, with the bytes of texts that may still come
unfoldable pub words : List ℕ → ℕ → Budget → Read (Note × Budget)
words file at left = do
  text ← note file at left.text
  Ok (text.0, record left { text = text.1 })

-- how many bytes a block has: its header, its links and its body
abbrev pub block_size : BlockAt → ℕ
block_size b = b.body_at + b.body_len - b.at

-- one conversion less may come, and so many bytes of their blocks
abbrev pub without : ℕ → Budget → Budget
without size left = record left {
  conversions = left.conversions - 1;
  conversion_bytes = left.conversion_bytes - size;
}

-- one conversion less may come, whose block has so many bytes
unfoldable pub counted : ℕ → ℕ → Budget → Read Budget
counted at size left = if nat_eq left.conversions 0 then Err (TooMany whats.Cc at) else Ok (without size left)

-- a source, from its body
abbrev pub the_source : List ℕ → Note → Note → Note → SourceInfo
the_source body name path comment = record {
  kind = slice_index body 0;
  bus = slice_index body 1;
  flags = slice_index body 2;
  name = name;
  path = path;
  comment = comment;
}

-- the numbers in the body of a source
abbrev pub source_front : List ℕ → SourceFront
source_front body = record { kind = slice_index body 0; bus = slice_index body 1; flags = slice_index body 2 }

-- the source with these numbers and texts
abbrev pub source_with : SourceFront → Texts → SourceInfo
source_with front words = record {
  kind = front.kind;
  bus = front.bus;
  flags = front.flags;
  name = words.name;
  path = words.unit;
  comment = words.comment;
}

-- the texts of the source or of the conversion at an address: its name, its path or its unit, and its comment
unfoldable pub texts : List ℕ → ℕ → Budget → Read (Texts × Budget)
texts file at left = do
  name ← words file (link_at file at 0) left
  unit ← words file (link_at file at 1) name.1
  comment ← words file (link_at file at 2) unit.1
  Ok (record { name = name.0; unit = unit.0; comment = comment.0 }, comment.1)

-- a source at an address: its block, and then its texts
unfoldable pub source : List ℕ → ℕ → Budget → Read (SourceInfo × Budget)
source file at left = do
  b ← block file at Si
  words ← texts file b.at left
  Ok (the_source (body_of file b) words.0.name words.0.unit words.0.comment, words.1)

-- so many numbers of 8 bytes from a place of a body on
abbrev pub numbers_at : List ℕ → ℕ → ℕ → List ℕ
numbers_at body place zero = []
numbers_at body place (suc count) = le_number (bytes_at 8 body place) ∷ numbers_at body (place + 8) count

-- the numbers in the first 24 bytes of the body of a conversion
abbrev pub the_front : List ℕ → ConvFront
the_front body = record {
  kind = slice_index body 0;
  precision = slice_index body 1;
  flags = le_number (bytes_at 2 body 2);
  count = le_number (bytes_at 2 body 6);
  low = le_number (bytes_at 8 body 8);
  high = le_number (bytes_at 8 body 16);
}

-- the numbers of the conversion of a block: those in its body, which counts the numbers behind its first 24 bytes, and
-- how many inverse conversions its fourth link names
abbrev pub conv_numbers : List ℕ → BlockAt → ConvNumbers
conv_numbers file b = record {
  front = the_front (body_of file b);
  numbers = numbers_at (body_of file b) 24 (le_number (bytes_at 2 (body_of file b) 6));
  inverse = link_count (link_at file b.at 3);
}

-- the conversion with these numbers, texts and references
abbrev pub conversion_with : ConvNumbers → Texts → List Ref → Conversion
conversion_with found words references = record {
  kind = found.front.kind;
  precision = found.front.precision;
  flags = found.front.flags;
  low = found.front.low;
  high = found.front.high;
  numbers = found.numbers;
  refs = references;
  name = words.name;
  unit = words.unit;
  comment = words.comment;
}

-- a conversion, from its body, which counts the numbers behind its first 24 bytes
abbrev pub the_conversion : List ℕ → Texts → List Ref → Conversion
the_conversion body texts references = record {
  kind = slice_index body 0;
  precision = slice_index body 1;
  flags = le_number (bytes_at 2 body 2);
  low = le_number (bytes_at 8 body 8);
  high = le_number (bytes_at 8 body 16);
  numbers = numbers_at body 24 (le_number (bytes_at 2 body 6));
  refs = references;
  name = texts.name;
  unit = texts.unit;
  comment = texts.comment;
}

-- the body of a conversion holds the numbers that it counts
abbrev pub HoldsValues : List ℕ → BlockAt → Type 0
HoldsValues file b = 24 + 8 * le_number (bytes_at 2 (body_of file b) 6) ≤ b.body_len

-- what a link of a conversion refers to, where conversions are read by `inner`
unfoldable pub ref_by : (ℕ → Budget → Read (Conversion × Budget)) → List ℕ → ℕ → Budget → Read (Ref × Budget)
ref_by inner file at left =
    if nat_eq at 0 then Ok (refs.Nothing, left)
    else (if is_named file at Cc
    then (inner at left >>= λ found. Ok (refs.Conv found.0, found.1))
    else (words file at left >>= λ found. Ok (refs.Words found.0, found.1)))

-- the same of link k of the block at an address
abbrev pub item_by : (ℕ → Budget → Read (Conversion × Budget)) → List ℕ → ℕ → ℕ → Budget → Read (Ref × Budget)
item_by inner file at k left = ref_by inner file (link_at file at k) left

-- the conversion of a block: its texts, and then all links after the fourth in order; the fourth, which names an
-- inverse conversion, is passed over
unfoldable pub conv_of_block : (ℕ → Budget → Read (Conversion × Budget)) → List ℕ → BlockAt → Budget → Read (Conversion × Budget)
conv_of_block inner file b left = do
  words ← texts file b.at left
  references ← each (item_by inner file b.at) 4 (b.links - 4) words.1
  Ok (the_conversion (body_of file b) words.0 references.0, with_dropped (link_count (link_at file b.at 3)) references.1)

-- a conversion at an address: its block, and then what it holds, where one more may come
unfoldable pub conv_by : (ℕ → Budget → Read (Conversion × Budget)) → List ℕ → ℕ → Budget → Read (Conversion × Budget)
conv_by inner file at left = do
  b ← block file at Cc
  one ← counted at (block_size b) left
  conv_of_block inner file b one

-- with so many levels of conversions; the one below them is too deep, after it has been found to be one
unfoldable pub conv : ℕ → List ℕ → ℕ → Budget → Read (Conversion × Budget)
conv zero file at left = block file at Cc >>= λ _. Err (Deep at)
conv (suc levels) file at left = conv_by (conv levels file) file at left

-- the conversion at an address, with four levels
abbrev pub conversion : List ℕ → ℕ → Budget → Read (Conversion × Budget)
conversion file at left = conv 4 file at left
