-- The rows of a recording that the tests write: a group `g` with one master `t` of 64 bits.
use Rattle.std.specs.Prelude.{[], ◌∷◌, replicate, None}
use Rattle.mdf_block.specs.declared.note.Note.TheVariants as notes
use Rattle.mdf_group.specs.declared.row.ChannelRow.{ChannelRow}
use Rattle.mdf_group.specs.declared.row.GroupRow.{GroupRow}

abbrev pub master : ChannelRow
master = record {
  at = 0;
  kind = 2;
  sync = 1;
  data_type = 0;
  bit = 0;
  byte = 0;
  bits = 64;
  flags = 0;
  inval = 0;
  precision = 0;
  ranges = replicate 6 0;
  name = notes.Plain (116 ∷ []);
  source = None;
  conv = None;
  unit = notes.Nothing;
  comment = notes.Nothing;
  values = 0;
  extra = 0;
}

abbrev pub group : GroupRow
group = record {
  at = 0;
  id = 0;
  cycles = 0;
  flags = 0;
  separator = 0;
  data_bytes = 8;
  inval_bytes = 0;
  name = notes.Plain (103 ∷ []);
  source = None;
  comment = notes.Nothing;
  channels = master ∷ [];
}
