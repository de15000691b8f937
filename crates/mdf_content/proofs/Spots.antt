-- Where the offset of a channel of variable length lies, and the bytes that it touches.
use Rattle.std.proofs.Common.{◌≡◌, ◌+◌, ◌≤◌, ℕ, false, List, take, drop, sym, ◌∙◌, ap, arith}
use Rattle.mdf_format.specs.Number.{bytes_at}
use Rattle.mdf_format.specs.Field.{Spot, covered_size, covered_end, lowest_first, bits_of, weight_of, field_number}
use Rattle.mdf_block.proofs.Parts.{bytes_at-bytes_at}
use Rattle.mdf_group.specs.declared.row.ChannelRow.{ChannelRow}
use Rattle.mdf_group.specs.Recordable.{numbers_of}
use Rattle.mdf_layout.specs.Row.{field_row}
use Rattle.mdf_layout.specs.Rule.{spot_in}
use Rattle.mdf_content.specs.Layouts.{field_of}

-- an offset is little-endian, and has the channel's bits
abbrev pub offset_spot : ChannelRow → Spot
offset_spot channel = record { byte = channel.byte; bit = channel.bit; bits = channel.bits; big = false }

pub spot_is : (channel : ChannelRow) → channel.kind ≡ 1 → spot_in (field_of channel) ≡ offset_spot channel
spot_is channel kind = ap (λ (k : ℕ). spot_in (field_row (record (numbers_of channel) { kind = k }))) kind

-- a field in the bytes that it touches alone
pub same_number : (s : Spot) (stream : List ℕ) (place data_bytes : ℕ) → covered_end s ≤ data_bytes
    → field_number (record s { byte = 0 }) (bytes_at (covered_size s) stream (place + s.byte)) ≡ field_number s (bytes_at data_bytes stream place)
same_number s stream place data_bytes within =
    let size = covered_size s in
    let here : place + s.byte + 0 ≡ place + s.byte = omega arith in
    let front : bytes_at size (bytes_at size stream (place + s.byte)) 0 ≡ bytes_at size stream (place + s.byte) =
    bytes_at-bytes_at size size 0 (place + s.byte) stream (omega arith) ∙ ap (bytes_at size stream) here in
    let inner : bytes_at size (bytes_at data_bytes stream place) s.byte ≡ bytes_at size stream (place + s.byte) =
    bytes_at-bytes_at size data_bytes s.byte place stream within in
    ap (λ (bytes : List ℕ). weight_of (take s.bits (drop s.bit (bits_of (lowest_first s.big bytes))))) (front ∙ sym inner)
