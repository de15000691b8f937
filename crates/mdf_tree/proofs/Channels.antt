-- Channels that are written stand as they were given, at their addresses and with their links to values.
use Rattle.std.proofs.Common.{◌≡◌, ◌≢◌, ◌+◌, ◌-◌, ◌%◌, ◌^◌, ◌<◌, ℕ, Bool, true, false, List, [], ◌∷◌, ◌++◌, length, map, Option, Some, None, refl, sym, ◌∙◌, ap, subst, arith, length-append}
use Rattle.std.specs.Prelude.{nat_eq, if◌then◌else◌}
use Rattle.std.specs.List.{AllByRecursion}
use Rattle.std.specs.Int.{to_le_bytes, w32}
use Rattle.mdf_format.specs.Block.{link_at, links_at, body_at, IsBlock, IsChain}
use Rattle.mdf_format.specs.declared.kind.Kind.TheVariants.{Cn}
use Rattle.mdf_block.specs.declared.link.Link.{Link}
use Rattle.mdf_block.specs.Draft.{Placed, address_of, link_number, AllStand}
use Rattle.mdf_conv.specs.declared.row.SourceInfo.{SourceInfo}
use Rattle.mdf_conv.specs.declared.row.Conversion.{Conversion}
use Rattle.mdf_conv.specs.Conv.{numbers_at}
use Rattle.mdf_group.specs.declared.row.ChannelRow.{ChannelRow}
use Rattle.mdf_group.specs.Link.{links_named}
use Rattle.mdf_group.specs.Channel.{the_channel}
use Rattle.mdf_group.specs.Standing.{IsSourceLink, IsConvLink, IsChannel}
use Rattle.mdf_tree.specs.Text.{note_blocks}
use Rattle.mdf_tree.specs.Group.{source_part, source_link, conv_part, conv_link, next_link, channel_source, channel_conv, channel_unit, channel_comment, past_channel, written_flags, channel_body, channel_own, channel_parts, channel_blocks, value_link, values_behind, past_channels, channels_blocks, placed_channel, placed_channels, IsSourcePart, IsConvPart, IsChannelSized, IsChannelWritable}
use Rattle.mdf_tree.proofs.Has.{Has, has_left, has_right, has_more, here, address_some}
use Rattle.mdf_tree.proofs.Texts.{linked_note, source_stands}
use Rattle.mdf_tree.proofs.Convs.{conv_stands}
use Rattle.mdf_tree.proofs.Numbers.{back32, length-words, last_back}

-- cut flags are not greater
flags_small : (whole : Bool) (flags : ℕ) → flags < 2 ^ 32 → (if whole then flags else flags % 2 ^ 12) < 2 ^ 32
flags_small true flags small = small
flags_small false flags small = omega (arith, small)

-- the body reads back as the channel
channel_back : (at values : ℕ) (row : ChannelRow) → IsChannelSized row
    → the_channel at (channel_body row)
    (record { name = row.name; source = row.source; conv = row.conv; unit = row.unit; comment = row.comment }) values 0
    ≡ record row { at = at; flags = written_flags row; values = values; extra = 0 }
channel_back at values row fits =
    let byte = back32 row.byte fits.byte in
    let bits = back32 row.bits fits.bits in
    let flags = back32 (written_flags row) (flags_small (nat_eq row.extra 0) row.flags fits.flags) in
    let inval = back32 row.inval fits.inval in
    let pre = row.kind ∷ row.sync ∷ row.data_type ∷ row.bit ∷ (to_le_bytes w32 row.byte ++ (to_le_bytes w32 row.bits
    ++ (to_le_bytes w32 (written_flags row) ++ (to_le_bytes w32 row.inval ++ (row.precision ∷ 0 ∷ 0 ∷ 0 ∷ []))))) in
    let ranges : numbers_at (channel_body row) 24 6 ≡ row.ranges = last_back pre row.ranges 24 6 refl fits.six fits.ranges in
    rw (byte, bits, flags, inval, ranges) refl

module _ (file : List ℕ) (blocks : List Placed) (all : AllStand file blocks) where
  pub source_link_stands : (n : ℕ) (source : Option SourceInfo) → IsSourcePart source → Has blocks n (source_part n source)
      → IsSourceLink file (link_number blocks (source_link n source)) source
  unfolding source_part source_link
  source_link_stands n None is has = refl
  source_link_stands n (Some source) is has = (address_some blocks n, source_stands file blocks all n source is has)

  pub conv_link_stands : (n : ℕ) (conv : Option Conversion) → IsConvPart conv → Has blocks n (conv_part n conv)
      → IsConvLink file (link_number blocks (conv_link n conv)) conv
  unfolding conv_part conv_link
  conv_link_stands n None is has = refl
  conv_link_stands n (Some conv) is has = (address_some blocks n, conv_stands file blocks all 4 n conv is has)

  pub channel_stands : (n : ℕ) (next values : Link) (row : ChannelRow) → IsChannelWritable row → Has blocks n (channel_blocks n next values row)
      → IsBlock file (address_of blocks n) Cn × (link_at file (address_of blocks n) 0 ≡ link_number blocks next)
      × IsChannel file (placed_channel blocks n values row)
  unfolding channel_blocks channel_parts links_named
  channel_stands n next values row is has =
      let at = address_of blocks n in
      let s = here file blocks n (channel_own n next values row) (channel_parts n row) all has in
      let source = source_part (channel_source n row) row.source in
      let conv = conv_part (channel_conv n row) row.conv in
      let unit = note_blocks row.unit in
      let comment = note_blocks row.comment in
      let one = has_more blocks n (channel_own n next values row) (channel_parts n row) has in
      let two = has_right blocks (n + 1) (note_blocks row.name) (source ++ (conv ++ (unit ++ comment))) one in
      let three = has_right blocks (channel_source n row) source (conv ++ (unit ++ comment)) two in
      let four = has_right blocks (channel_conv n row) conv (unit ++ comment) three in
      let five = has_right blocks (channel_unit n row) unit comment four in
      let body_is = ap (λ (body : List ℕ). the_channel at body
      (record { name = row.name; source = row.source; conv = row.conv; unit = row.unit; comment = row.comment }) (link_number blocks values) 0) (sym s.body) in
      let values_is = sym (s.link 5 (omega arith)) in
      let extra_is : 0 ≡ links_named file at 8 (links_at file at - 8) = ap (λ (count : ℕ). links_named file at 8 (count - 8)) (sym s.count) in (
        s.whole (record { linked = omega arith; filled = omega (arith, length-words row.ranges, is.sized.six) }),
        s.link 0 (omega arith),
        record {
          links = record { name = row.name; source = row.source; conv = row.conv; unit = row.unit; comment = row.comment };
          fields = sym (channel_back at (link_number blocks values) row is.sized)
              ∙ body_is
              ∙ ap (λ (number : ℕ). the_channel at (body_at file at)
              (record { name = row.name; source = row.source; conv = row.conv; unit = row.unit; comment = row.comment }) number 0) values_is
              ∙ ap (the_channel at (body_at file at) (record { name = row.name; source = row.source; conv = row.conv; unit = row.unit; comment = row.comment }) (link_at file at 5)) extra_is;
          kind = is.kind;
          data_type = is.data_type;
          name = linked_note file blocks all (n + 1) row.name at 2 (s.link 2 (omega arith)) is.name
              (has_left blocks (n + 1) (note_blocks row.name) (source ++ (conv ++ (unit ++ comment))) one);
          source = subst (λ (place : ℕ). IsSourceLink file place row.source) (sym (s.link 3 (omega arith)))
              (source_link_stands (channel_source n row) row.source is.source
              (has_left blocks (channel_source n row) source (conv ++ (unit ++ comment)) two));
          conv = subst (λ (place : ℕ). IsConvLink file place row.conv) (sym (s.link 4 (omega arith)))
              (conv_link_stands (channel_conv n row) row.conv is.conv (has_left blocks (channel_conv n row) conv (unit ++ comment) three));
          unit = linked_note file blocks all (channel_unit n row) row.unit at 6 (s.link 6 (omega arith)) is.unit
              (has_left blocks (channel_unit n row) unit comment four);
          comment = linked_note file blocks all (channel_comment n row) row.comment at 7 (s.link 7 (omega arith)) is.comment five;
        },
      )

-- behind a channel the next one stands
pub channel_long : (n : ℕ) (next values : Link) (row : ChannelRow) → n + length (channel_blocks n next values row) ≡ past_channel n row
unfolding channel_blocks channel_parts
channel_long n next values row =
    let source = source_part (channel_source n row) row.source in
    let conv = conv_part (channel_conv n row) row.conv in
    let unit = note_blocks row.unit in
    let comment = note_blocks row.comment in
    omega (
      arith,
      length-append (note_blocks row.name) (source ++ (conv ++ (unit ++ comment))),
      length-append source (conv ++ (unit ++ comment)),
      length-append conv (unit ++ comment),
      length-append unit comment,
    )

pub channels_long : (n : ℕ) (values : List Link) (rows : List ChannelRow) → n + length (channels_blocks n values rows) ≡ past_channels n rows
unfolding channels_blocks past_channels
channels_long n values [] = omega arith
channels_long n values (row ∷ rows) =
    let next = past_channel n row in
    let own = channel_blocks n (next_link next rows) (value_link values row) row in
    omega (
      arith,
      length-append own (channels_blocks next (values_behind values row) rows),
      channel_long n (next_link next rows) (value_link values row) row,
      channels_long next (values_behind values row) rows,
    )

-- a chain of rows, none at 0, each as it is
pub record AreAlongChain (file : List ℕ) (at : ℕ) (rows : List ChannelRow) : Type 0 where
  pub chain : IsChain file at Cn (map (λ row. row.at) rows)
  pub some : AllByRecursion (λ place. place ≢ 0) (map (λ row. row.at) rows)
  pub each : AllByRecursion (IsChannel file) rows

pub channels_chain : (file : List ℕ) (blocks : List Placed) → AllStand file blocks → (n : ℕ) (values : List Link) (rows : List ChannelRow)
    → AllByRecursion IsChannelWritable rows → Has blocks n (channels_blocks n values rows)
    → AreAlongChain file (link_number blocks (next_link n rows)) (placed_channels blocks n values rows)
unfolding channels_blocks placed_channels IsChain
channels_chain file blocks all n values [] is has = record { chain = refl; some = tt; each = tt }
channels_chain file blocks all n values (row ∷ rows) is has =
    let next = past_channel n row in
    let own = channel_blocks n (next_link next rows) (value_link values row) row in
    let rest = channels_blocks next (values_behind values row) rows in
    let first = channel_stands file blocks all n (next_link next rows) (value_link values row) row is.0 (has_left blocks n own rest has) in
    let behind = channels_chain file blocks all next (values_behind values row) rows is.1
    (subst (λ (m : ℕ). Has blocks m rest) (channel_long n (next_link next rows) (value_link values row) row) (has_right blocks n own rest has)) in record {
      chain = (
        refl,
        first.0,
        subst (λ (place : ℕ). IsChain file place Cn (map (λ (r : ChannelRow). r.at) (placed_channels blocks next (values_behind values row) rows)))
            (sym first.1) behind.chain,
      );
      some = (address_some blocks n, behind.some);
      each = (first.2, behind.each);
    }
