-- What stands with conversions of one sort stands with those of a wider one.
use Rattle.std.proofs.Common.{ℕ, List, [], ◌∷◌, Option, Some, None}
use Rattle.std.specs.List.{AllByRecursion}
use Rattle.mdf_conv.specs.declared.row.Conversion.{Conversion}
use Rattle.mdf_conv.specs.Standing.{IsConversionAt}
use Rattle.mdf_group.specs.declared.row.ChannelRow.{ChannelRow}
use Rattle.mdf_group.specs.declared.row.GroupRow.{GroupRow}
use Rattle.mdf_group.specs.declared.row.DataRow.{DataRow}
use Rattle.mdf_group.specs.Standing.{IsConvLinkBy, IsChannelBy, AreChannelsBy, IsGroupBy, AreGroupsBy, IsDataGroupBy, AreDataGroupsBy, AreDataGroups, StandDataGroups}

-- what holds of each item, in other words
each_turned : {A : Type 0} (P Q : A → Type 0) → ((x : A) → P x → Q x) → (xs : List A) → AllByRecursion P xs → AllByRecursion Q xs
each_turned P Q turn [] all = tt
each_turned P Q turn (x ∷ xs) all = (turn x all.0, each_turned P Q turn xs all.1)

module _ (f : List ℕ) (IsOne IsOther : ℕ → Conversion → Type 0) (wider : (at : ℕ) (conversion : Conversion) → IsOne at conversion → IsOther at conversion) where
  link_wider : (at : ℕ) (found : Option Conversion) → IsConvLinkBy IsOne at found → IsConvLinkBy IsOther at found
  link_wider at None is = is
  link_wider at (Some conversion) is = (is.0, wider at conversion is.1)

  channel_wider : (row : ChannelRow) → IsChannelBy IsOne f row → IsChannelBy IsOther f row
  channel_wider row is = record {
    links = is.links;
    fields = is.fields;
    kind = is.kind;
    data_type = is.data_type;
    name = is.name;
    source = is.source;
    conv = link_wider _ is.links.conv is.conv;
    unit = is.unit;
    comment = is.comment;
  }

  group_wider : (row : GroupRow) → IsGroupBy IsOne f row → IsGroupBy IsOther f row
  group_wider row is = record {
    links = is.links;
    fields = is.fields;
    name = is.name;
    source = is.source;
    comment = is.comment;
    channels = record {
      chain = is.channels.chain;
      once = is.channels.once;
      each = each_turned (IsChannelBy IsOne f) (IsChannelBy IsOther f) channel_wider row.channels is.channels.each;
    };
  }

  data_group_wider : (row : DataRow) → IsDataGroupBy IsOne f row → IsDataGroupBy IsOther f row
  data_group_wider row is = record {
    fields = is.fields;
    comment = is.comment;
    groups = record {
      chain = is.groups.chain;
      once = is.groups.once;
      each = each_turned (IsGroupBy IsOne f) (IsGroupBy IsOther f) group_wider row.groups is.groups.each;
    };
  }

-- what is read stands in the standard's words
pub without_limit : (f : List ℕ) (at : ℕ) (rows : List DataRow) → AreDataGroups f at rows → StandDataGroups f at rows
without_limit f at rows are = record {
  chain = are.chain;
  once = are.once;
  each = each_turned _ _ (data_group_wider f _ (IsConversionAt f) (λ place conversion is. (4, is))) rows are.each;
}
