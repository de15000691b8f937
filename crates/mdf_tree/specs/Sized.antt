-- Numbers of rows that fit their fields, as they do in the code.
use Rattle.std.specs.Prelude.{◌^◌, ◌<◌}
use Rattle.std.specs.List.{AllByRecursion}
use Rattle.mdf_group.specs.declared.row.GroupRow.{GroupRow}
use Rattle.mdf_tree.specs.Group.{IsChannelSized}

-- the numbers of a channel group that every file keeps
pub record IsRowSized (row : GroupRow) : Type 0 where
  pub flags : row.flags < 2 ^ 16
  pub separator : row.separator < 2 ^ 16
  pub data_bytes : row.data_bytes < 2 ^ 32
  pub inval_bytes : row.inval_bytes < 2 ^ 32

-- the numbers of a group and of its channels
pub record IsWholeSized (row : GroupRow) : Type 0 where
  pub own : IsRowSized row
  pub channels : AllByRecursion IsChannelSized row.channels
