-- What the numbers of a channel's row (CNBLOCK) say of its field.
use Rattle.std.specs.Prelude.{◌/◌, ◌%◌, nat_eq, if◌then◌else◌, Some, None}
use Rattle.mdf_format.specs.Row as forms
use Rattle.mdf_format.specs.Row.{RowNumbers, Form, form_of, is_big}
use Rattle.mdf_layout.specs.declared.field.FieldKind.{FieldKind}
use Rattle.mdf_layout.specs.declared.field.FieldKind.TheVariants.{Unsigned, Signed, Fixed, Variable, Virtual}
use Rattle.mdf_layout.specs.declared.field.FieldRow.{FieldRow}
use Rattle.mdf_layout.specs.declared.row.ChannelNumbers.{ChannelNumbers}

-- the numbers as the words on rows speak of them
abbrev pub numbers_of : ChannelNumbers → RowNumbers
numbers_of channel = record {
  kind = channel.kind;
  data_type = channel.data_type;
  byte = channel.byte;
  bit = channel.bit;
  bits = channel.bits;
  flags = channel.flags;
  inval = channel.inval;
}

-- the kind of a field of this form
abbrev pub kind_in : Form → FieldKind
kind_in forms.Unsigned = Unsigned
kind_in forms.Signed = Signed
kind_in forms.Fixed = Fixed
kind_in forms.Variable = Variable
kind_in forms.Virtual = Virtual

-- the field: bit 0 of the flags says that all values are invalid, bit 1 that the position is used
abbrev pub field_row : RowNumbers → FieldRow
field_row row = record {
  kind = kind_in (form_of row);
  big = is_big row;
  byte = row.byte;
  bit = row.bit;
  bits = row.bits;
  inval = if nat_eq (row.flags / 2 % 2) 1 then Some row.inval else None;
  all_invalid = nat_eq (row.flags % 2) 1;
}
