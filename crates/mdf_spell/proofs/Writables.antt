-- The rows of a recording are read back as they are written.
use Rattle.std.proofs.Common.{◌≡◌, ◌+◌, ◌^◌, ◌<◌, ◌≤◌, ℕ, zero, suc, false, List, [], ◌∷◌, length, Option, refl, sym, subst, arith}
use Rattle.std.specs.List.{AllByRecursion}
use Rattle.mdf_block.specs.declared.note.Note.{Note}
use Rattle.mdf_block.specs.declared.note.Note.TheVariants as notes
use Rattle.mdf_conv.specs.declared.row.SourceInfo.{SourceInfo}
use Rattle.mdf_conv.specs.declared.row.Conversion.{Conversion}
use Rattle.mdf_group.specs.declared.row.ChannelRow.{ChannelRow}
use Rattle.mdf_group.specs.declared.row.GroupRow.{GroupRow}
use Rattle.mdf_group.specs.Channel.{is_refused_kind}
use Rattle.mdf_group.specs.Recordable.{IsName, IsUnitName, IsRecordableChannel, IsRecordableGroup, AreRecordable}
use Rattle.mdf_tree.specs.Text.{IsWritable}
use Rattle.mdf_tree.specs.Group.{IsSourcePart, IsConvPart, IsChannelSized, IsChannelWritable, IsGroupWritable, IsDataGroupWritable}
use Rattle.mdf_tree.proofs.Placing.{all_append}
use Rattle.mdf_spell.specs.Recording.{numbered, values_rows, variable_count, recording_row}
use Rattle.mdf_tree.specs.Sized.{IsWholeSized}

read_kind : (kind : ℕ) → kind ≤ 2 → is_refused_kind kind ≡ false
read_kind zero few = refl
read_kind (suc zero) few = refl
read_kind (suc (suc zero)) few = refl
read_kind (suc (suc (suc kind))) few = absurd (omega (arith, few))

name_writable : (note : Note) → IsName note → IsWritable note
name_writable notes.Nothing is = absurd is
name_writable (notes.Plain bytes) is = is.whole
name_writable (notes.Xml bytes) is = absurd is

unit_writable : (note : Note) → IsUnitName note → IsWritable note
unit_writable notes.Nothing is = tt
unit_writable (notes.Plain bytes) is = is.whole
unit_writable (notes.Xml bytes) is = absurd is

channel_writable : (row : ChannelRow) → IsRecordableChannel row → IsChannelSized row → IsChannelWritable row
channel_writable row is sized = record {
  sized = sized;
  kind = read_kind row.kind is.kind;
  data_type = omega (arith, is.data_type);
  name = name_writable row.name is.name;
  source = subst (λ (source : Option SourceInfo). IsSourcePart source) (sym is.source) tt;
  conv = subst (λ (conv : Option Conversion). IsConvPart conv) (sym is.conv) tt;
  unit = unit_writable row.unit is.unit;
  comment = subst (λ (note : Note). IsWritable note) (sym is.comment) tt;
}

channels_writable : (rows : List ChannelRow) → AllByRecursion IsRecordableChannel rows → AllByRecursion IsChannelSized rows
    → AllByRecursion IsChannelWritable rows
channels_writable [] are sized = tt
channels_writable (row ∷ rows) are sized = (channel_writable row are.0 sized.0, channels_writable rows are.1 sized.1)

numbered_writable : (id : ℕ) (rows : List GroupRow) → AllByRecursion IsRecordableGroup rows → AllByRecursion IsWholeSized rows
    → id + length rows < 2 ^ 64 → AllByRecursion IsGroupWritable (numbered id rows)
unfolding numbered
numbered_writable id [] are sized few = tt
numbered_writable id (row ∷ rows) are sized few = (
  record {
    sized = record {
      id = omega (arith, few);
      cycles = omega arith;
      flags = sized.0.own.flags;
      separator = sized.0.own.separator;
      data_bytes = sized.0.own.data_bytes;
      inval_bytes = sized.0.own.inval_bytes;
    };
    name = name_writable row.name are.0.name;
    source = subst (λ (source : Option SourceInfo). IsSourcePart source) (sym are.0.source) tt;
    comment = subst (λ (note : Note). IsWritable note) (sym are.0.comment) tt;
    channels = channels_writable row.channels are.0.each sized.0.channels;
  },
  numbered_writable (id + 1) rows are.1 sized.1 (omega (arith, few)),
)

values_writable : (id count : ℕ) → id + count < 2 ^ 64 → AllByRecursion IsGroupWritable (values_rows id count)
unfolding values_rows
values_writable id zero few = tt
values_writable id (suc count) few = (
  record {
    sized = record {
      id = omega (arith, few);
      cycles = omega arith;
      flags = omega arith;
      separator = omega arith;
      data_bytes = omega arith;
      inval_bytes = omega arith;
    };
    name = tt;
    source = tt;
    comment = tt;
    channels = tt;
  },
  values_writable (id + 1) count (omega (arith, few)),
)

pub recording_writable : (rows : List GroupRow) → AreRecordable rows → AllByRecursion IsWholeSized rows → IsDataGroupWritable (recording_row rows)
recording_writable rows are sized = record {
  comment = tt;
  groups = all_append IsGroupWritable (numbered 1 rows) (values_rows (length rows + 1) (variable_count rows))
      (numbered_writable 1 rows are.each sized (omega (arith, are.few)))
      (values_writable (length rows + 1) (variable_count rows) (omega (arith, are.few, are.variable)));
}
