-- What is read of a file can be read back when it is written: its numbers fit their fields, and its texts have no zero bytes.
use Rattle.std.proofs.Common.{◌≡◌, ◌≢◌, ◌+◌, ◌-◌, ◌*◌, ◌/◌, ◌%◌, ◌^◌, ◌<◌, ◌≤◌, ℕ, zero, suc, Bool, true, false, not, cond, List, [], ◌∷◌, length, take, drop, Option, Some, None, refl, sym, ◌∙◌, ap, subst, inl, inr, arith}
use Rattle.std.proofs.lemmas.Bool.{ltb-true, ltb-false}
use Rattle.std.specs.Prelude.{pos, neg_ℤ, nat_lt, nat_eq, if◌then◌else◌}
use Rattle.std.specs.List.{AllByRecursion, position_or_len}
use Rattle.mdf_format.specs.Number.{le_number, bytes_at}
use Rattle.mdf_format.specs.Field.{signed_number}
use Rattle.mdf_format.specs.Block.{link_at, body_at}
use Rattle.mdf_block.specs.declared.note.Note.{Note}
use Rattle.mdf_block.specs.declared.note.Note.TheVariants as notes
use Rattle.mdf_block.specs.Text.{is_zero, text_of, IsNote}
use Rattle.mdf_conv.specs.declared.row.SourceInfo.{SourceInfo}
use Rattle.mdf_conv.specs.declared.row.Conversion.{Conversion}
use Rattle.mdf_conv.specs.declared.row.Ref.{Ref}
use Rattle.mdf_conv.specs.declared.row.Ref.TheViews.{out-Ref, outs-Nothing, outs-Words, outs-Conv}
use Rattle.mdf_conv.specs.Conv.{numbers_at}
use Rattle.mdf_conv.specs.Standing.{IsRefBy, AreRefsBy, IsConversion}
use Rattle.mdf_head.specs.declared.entry.Head.{Head}
use Rattle.mdf_head.specs.declared.entry.History.{History}
use Rattle.mdf_head.specs.Head.{IsHistory, IsHead}
use Rattle.mdf_group.specs.declared.row.ChannelRow.{ChannelRow}
use Rattle.mdf_group.specs.declared.row.GroupRow.{GroupRow}
use Rattle.mdf_group.specs.declared.row.DataRow.{DataRow}
use Rattle.mdf_group.specs.Channel.{is_refused_kind}
use Rattle.mdf_group.specs.Standing.{IsSourceLink, IsConvLink, IsChannel, IsGroup, IsDataGroup}
use Rattle.mdf_tree.specs.Text.{IsText, IsWritable}
use Rattle.mdf_tree.specs.Conv.{Layer, IsWordsWritable, IsLayerWritable, IsConvWritableBy, IsConvWritable}
use Rattle.mdf_tree.specs.Group.{IsSourcePart, IsConvPart, IsChannelWritable, IsGroupWritable, IsDataGroupWritable}
use Rattle.mdf_tree.specs.Head.{IsSigned16, IsEntryWritable, IsHeadWritable}
use Rattle.mdf_spell.specs.Counts.{counted_group, counted_groups, counted_data}
use Rattle.mdf_spell.specs.declared.recovered.Recovered.{Recovered}
use Rattle.mdf_spell.specs.Standing.{AreBytes, IsRecoveredWritable, IsRecoveredOf}

-- numbers of so many bytes stay below this
abbrev bound : ℕ → ℕ
bound zero = 1
bound (suc k) = 256 * bound k

bound_some : (k : ℕ) → 0 < bound k
bound_some zero = omega arith
bound_some (suc k) = omega (arith, bound_some k)

le_below : (k : ℕ) (bytes : List ℕ) → AreBytes bytes → le_number (take k bytes) < bound k
le_below zero bytes are = omega arith
le_below (suc k) [] are = omega (arith, bound_some k)
le_below (suc k) (byte ∷ bytes) are = omega (arith, are.0, le_below k bytes are.1)

bytes_behind : (k : ℕ) (bytes : List ℕ) → AreBytes bytes → AreBytes (drop k bytes)
bytes_behind zero bytes are = are
bytes_behind (suc k) [] are = tt
bytes_behind (suc k) (byte ∷ bytes) are = bytes_behind k bytes are.1

bytes_front : (k : ℕ) (bytes : List ℕ) → AreBytes bytes → AreBytes (take k bytes)
bytes_front zero bytes are = tt
bytes_front (suc k) [] are = tt
bytes_front (suc k) (byte ∷ bytes) are = (are.0, bytes_front k bytes are.1)

number_below : (k : ℕ) (body : List ℕ) (at : ℕ) → AreBytes body → le_number (bytes_at k body at) < bound k
number_below k body at are = le_below k (drop at body) (bytes_behind at body are)

pub below16 : (body : List ℕ) (at : ℕ) → AreBytes body → le_number (bytes_at 2 body at) < 2 ^ 16
below16 body at are = number_below 2 body at are

below32 : (body : List ℕ) (at : ℕ) → AreBytes body → le_number (bytes_at 4 body at) < 2 ^ 32
below32 body at are = number_below 4 body at are

pub below64 : (body : List ℕ) (at : ℕ) → AreBytes body → le_number (bytes_at 8 body at) < 2 ^ 64
below64 body at are = number_below 8 body at are

numbers_below : (body : List ℕ) (at count : ℕ) → AreBytes body → AllByRecursion (λ n. n < 2 ^ 64) (numbers_at body at count)
numbers_below body at zero are = tt
numbers_below body at (suc count) are = (below64 body at are, numbers_below body (at + 8) count are)

numbers_long : (body : List ℕ) (at count : ℕ) → length (numbers_at body at count) ≡ count
numbers_long body at zero = refl
numbers_long body at (suc count) = ap suc (numbers_long body (at + 8) count)

-- the body of a block
pub body_bytes : (file : List ℕ) (at : ℕ) → AreBytes file → AreBytes (body_at file at)
body_bytes file at are = bytes_front _ _ (bytes_behind _ file are)

-- a signed number
signed_case : (low : Bool) (n : ℕ) → n < 2 ^ 16 → nat_lt n (2 ^ 15) ≡ low → IsSigned16 (if low then pos n else neg_ℤ (pos (2 ^ 16 - n)))
signed_case true n small is = ltb-true n (2 ^ 15) is
signed_case false n small is =
    let high = ltb-false n (2 ^ 15) is in
    let less : 2 ^ 16 - n ≡ suc (2 ^ 16 - n - 1) = omega (arith, small, high) in
    subst (λ (m : ℕ). IsSigned16 (neg_ℤ (pos m))) (sym less) (omega (arith, small, high))

signed_below : (n : ℕ) → n < 2 ^ 16 → IsSigned16 (signed_number 16 n)
signed_below n small = signed_case (nat_lt n (2 ^ 15)) n small refl

-- a text
text_case : (ends : Bool) (byte : ℕ) (body : List ℕ) → is_zero byte ≡ ends → IsText (text_of body)
    → IsText (take (cond (not ends) (1 + position_or_len is_zero body) 0) (byte ∷ body))
text_case true byte body is rest = tt
text_case false byte body is rest =
    let more : 1 + position_or_len is_zero body ≡ suc (position_or_len is_zero body) = omega arith in
    subst (λ (m : ℕ). IsText (take m (byte ∷ body))) (sym more)
    ((λ none. let wrong : true ≡ false = subst (λ (b : ℕ). nat_eq b 0 ≡ false) none is in cc), rest)

text_clean : (body : List ℕ) → IsText (text_of body)
text_clean [] = tt
text_clean (byte ∷ body) = text_case (is_zero byte) byte body refl (text_clean body)

pub note_clean : (file : List ℕ) (at : ℕ) (note : Note) → IsNote file at note → IsWritable note
note_clean file at notes.Nothing is = tt
note_clean file at (notes.Plain bytes) is = subst (λ (text : List ℕ). IsText text) (sym is.2) (text_clean (body_at file at))
note_clean file at (notes.Xml bytes) is = subst (λ (text : List ℕ). IsText text) (sym is.2) (text_clean (body_at file at))

source_clean : (file : List ℕ) (at : ℕ) (found : Option SourceInfo) → IsSourceLink file at found → IsSourcePart found
source_clean file at None is = tt
source_clean file at (Some source) is = record {
  name = note_clean file _ source.name is.1.name;
  path = note_clean file _ source.path is.1.path;
  comment = note_clean file _ source.comment is.1.comment;
}

-- a reference to a text is there
words_clean : (file : List ℕ) (at : ℕ) (note : Note) → at ≢ 0 → IsNote file at note → IsWordsWritable note
words_clean file at notes.Nothing some is = absurd (some is)
words_clean file at (notes.Plain bytes) some is = note_clean file at (notes.Plain bytes) is
words_clean file at (notes.Xml bytes) some is = note_clean file at (notes.Xml bytes) is

module _ (file : List ℕ) (IsConv : ℕ → Conversion → Type 0) (IsInner : Conversion → Type 0)
    (clean : (at : ℕ) (conv : Conversion) → IsConv at conv → IsInner conv) where
  ref_clean : (at : ℕ) (found : Ref) → IsRefBy IsConv file at found → IsLayerWritable IsInner (out-Ref found)
  ref_clean at found is =
      elim is [
        | inl nothing ↦ subst (λ (layer : Layer). IsLayerWritable IsInner layer) (sym (ap out-Ref nothing.1 ∙ outs-Nothing)) tt
        | inr (inl words) ↦
            subst (λ (layer : Layer). IsLayerWritable IsInner layer) (sym (ap out-Ref words.1.1 ∙ outs-Words words.1.0))
            (words_clean file at words.1.0 words.0 words.1.2)
        | inr (inr conv) ↦
            subst (λ (layer : Layer). IsLayerWritable IsInner layer) (sym (ap out-Ref conv.1.1 ∙ outs-Conv conv.1.0)) (clean at conv.1.0 conv.1.2)
      ]

  refs_clean : (at k : ℕ) (rows : List Ref) → AreRefsBy IsConv file at k rows
      → AllByRecursion (λ found. IsLayerWritable IsInner (out-Ref found)) rows
  refs_clean at k [] are = tt
  refs_clean at k (first ∷ rest) are = (ref_clean (link_at file at k) first are.0, refs_clean at (k + 1) rest are.1)

conv_clean : (levels : ℕ) (file : List ℕ) → AreBytes file → (at : ℕ) (conv : Conversion) → IsConversion levels file at conv
    → IsConvWritable levels conv
unfolding IsConversion IsConvWritable
conv_clean zero file are at conv is = absurd is
conv_clean (suc levels) file are at conv is =
    let body = body_at file at in
    let bytes = body_bytes file at are in
    subst (λ (c : Conversion). IsConvWritableBy (IsConvWritable levels) c) (sym is.fields) (record {
      flags = below16 body 2 bytes;
      count = subst (λ (n : ℕ). n < 2 ^ 16) (sym (numbers_long body 24 (le_number (bytes_at 2 body 6)))) (below16 body 6 bytes);
      low = below64 body 8 bytes;
      high = below64 body 16 bytes;
      numbers = numbers_below body 24 (le_number (bytes_at 2 body 6)) bytes;
      name = note_clean file _ is.texts.name is.name;
      unit = note_clean file _ is.texts.unit is.unit;
      comment = note_clean file _ is.texts.comment is.comment;
      refs = refs_clean file (IsConversion levels file) (IsConvWritable levels) (conv_clean levels file are) at 4 is.references is.each;
    })

conv_part_clean : (file : List ℕ) → AreBytes file → (at : ℕ) (found : Option Conversion) → IsConvLink file at found → IsConvPart found
conv_part_clean file are at None is = tt
conv_part_clean file are at (Some conv) is = conv_clean 4 file are at conv is.1

channel_clean : (file : List ℕ) → AreBytes file → (row : ChannelRow) → IsChannel file row → IsChannelWritable row
channel_clean file are row is =
    let body = body_at file row.at in
    let bytes = body_bytes file row.at are in
    subst (λ (r : ChannelRow). IsChannelWritable r) (sym is.fields) (record {
      sized = record {
        byte = below32 body 4 bytes;
        bits = below32 body 8 bytes;
        flags = below32 body 12 bytes;
        inval = below32 body 16 bytes;
        six = numbers_long body 24 6;
        ranges = numbers_below body 24 6 bytes;
      };
      kind = subst (λ (r : ChannelRow). is_refused_kind r.kind ≡ false) is.fields is.kind;
      data_type = subst (λ (r : ChannelRow). r.data_type ≤ 14) is.fields is.data_type;
      name = note_clean file _ is.links.name is.name;
      source = source_clean file _ is.links.source is.source;
      conv = conv_part_clean file are _ is.links.conv is.conv;
      unit = note_clean file _ is.links.unit is.unit;
      comment = note_clean file _ is.links.comment is.comment;
    })

channels_clean : (file : List ℕ) → AreBytes file → (rows : List ChannelRow) → AllByRecursion (IsChannel file) rows
    → AllByRecursion IsChannelWritable rows
channels_clean file are [] each = tt
channels_clean file are (row ∷ rows) each = (channel_clean file are row each.0, channels_clean file are rows each.1)

pub row_clean : (file : List ℕ) → AreBytes file → (row : GroupRow) → IsGroup file row → IsGroupWritable row
row_clean file are row is =
    let body = body_at file row.at in
    let bytes = body_bytes file row.at are in
    subst (λ (r : GroupRow). IsGroupWritable r) (sym is.fields) (record {
      sized = record {
        id = below64 body 0 bytes;
        cycles = below64 body 8 bytes;
        flags = below16 body 16 bytes;
        separator = below16 body 18 bytes;
        data_bytes = below32 body 24 bytes;
        inval_bytes = below32 body 28 bytes;
      };
      name = note_clean file _ is.links.name is.name;
      source = source_clean file _ is.links.source is.source;
      comment = note_clean file _ is.links.comment is.comment;
      channels = channels_clean file are row.channels is.channels.each;
    })

either_below : (first : Bool) (m n most : ℕ) → m < most → n < most → (if first then m else n) < most
either_below true m n most one other = one
either_below false m n most one other = other

group_clean : (file : List ℕ) → AreBytes file → (count total : ℕ) (row : GroupRow) → count < 2 ^ 64 → IsGroup file row
    → IsGroupWritable (counted_group count total row)
group_clean file are count total row fits is =
    let own = row_clean file are row is in record {
      sized = record {
        id = own.sized.id;
        cycles = fits;
        flags = own.sized.flags;
        separator = own.sized.separator;
        data_bytes = either_below _ (total % 2 ^ 32) _ (2 ^ 32) (omega arith) own.sized.data_bytes;
        inval_bytes = either_below _ (total / 2 ^ 32 % 2 ^ 32) _ (2 ^ 32) (omega arith) own.sized.inval_bytes;
      };
      name = own.name;
      source = own.source;
      comment = own.comment;
      channels = own.channels;
    }

groups_clean : (file : List ℕ) → AreBytes file → (counts totals : List ℕ) (rows : List GroupRow) → AllByRecursion (λ n. n < 2 ^ 64) counts
    → AllByRecursion (IsGroup file) rows → AllByRecursion IsGroupWritable (counted_groups counts totals rows)
unfolding counted_groups
groups_clean file are counts totals [] fit each = tt
groups_clean file are [] totals (row ∷ rows) fit each = tt
groups_clean file are (count ∷ counts) [] (row ∷ rows) fit each = tt
groups_clean file are (count ∷ counts) (total ∷ totals) (row ∷ rows) fit each =
    (group_clean file are count total row fit.0 each.0, groups_clean file are counts totals rows fit.1 each.1)

data_clean : (file : List ℕ) → AreBytes file → (counts totals : List ℕ) (row : DataRow) → AllByRecursion (λ n. n < 2 ^ 64) counts
    → IsDataGroup file row → IsDataGroupWritable (counted_data counts totals row)
data_clean file are counts totals row fit is = record {
  comment = note_clean file _ row.comment is.comment;
  groups = groups_clean file are counts totals row.groups fit is.groups.each;
}

entry_clean : (file : List ℕ) → AreBytes file → (entry : History) → IsHistory file entry → IsEntryWritable entry
entry_clean file are entry is =
    let body = body_at file entry.at in
    let bytes = body_bytes file entry.at are in
    subst (λ (e : History). IsEntryWritable e) (sym is.fields) (record {
      time = below64 body 0 bytes;
      zone = signed_below (le_number (bytes_at 2 body 8)) (below16 body 8 bytes);
      daylight = signed_below (le_number (bytes_at 2 body 10)) (below16 body 10 bytes);
      comment = note_clean file _ entry.comment is.comment;
    })

pub history_clean : (file : List ℕ) → AreBytes file → (entries : List History) → AllByRecursion (IsHistory file) entries
    → AllByRecursion IsEntryWritable entries
history_clean file are [] each = tt
history_clean file are (entry ∷ entries) each = (entry_clean file are entry each.0, history_clean file are entries each.1)

pub head_clean : (file : List ℕ) → AreBytes file → (head : Head) (entries : List History) → IsHead file head entries → IsHeadWritable head
head_clean file are head entries is =
    let body = body_at file 64 in
    let bytes = body_bytes file 64 are in
    subst (λ (h : Head). IsHeadWritable h) (sym is.fields) (record {
      start = below64 body 0 bytes;
      zone = signed_below (le_number (bytes_at 2 body 8)) (below16 body 8 bytes);
      daylight = signed_below (le_number (bytes_at 2 body 10)) (below16 body 10 bytes);
      angle = below64 body 16 bytes;
      distance = below64 body 24 bytes;
      comment = note_clean file _ head.comment is.comment;
    })

pub recovered_clean : (file : List ℕ) (recovered : Recovered) → AllByRecursion (λ n. n < 2 ^ 64) recovered.counts.now → IsRecoveredOf file recovered
    → IsRecoveredWritable recovered
recovered_clean file recovered fit is = record {
  head = head_clean file is.bytes recovered.head.now recovered.history.now is.head;
  history = history_clean file is.bytes recovered.history.now is.head.entries;
  row = data_clean file is.bytes recovered.counts.now recovered.totals.now recovered.row.now fit is.row;
}
