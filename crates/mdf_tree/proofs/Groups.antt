-- Channel groups and data groups that are written stand as they were given.
use Rattle.std.proofs.Common.{◌≡◌, ◌≢◌, ◌+◌, ℕ, List, [], ◌∷◌, ◌++◌, length, map, refl, sym, ◌∙◌, ap, subst, arith, length-append}
use Rattle.std.specs.List.{AllByRecursion}
use Rattle.mdf_format.specs.Block.{link_at, body_at, IsBlock, IsChain}
use Rattle.mdf_format.specs.declared.kind.Kind.TheVariants.{Dg, Cg, Cn}
use Rattle.mdf_block.specs.declared.link.Link.{Link}
use Rattle.mdf_block.specs.Draft.{Placed, address_of, link_number, AllStand}
use Rattle.mdf_group.specs.declared.row.ChannelRow.{ChannelRow}
use Rattle.mdf_group.specs.declared.row.GroupRow.{GroupRow}
use Rattle.mdf_group.specs.declared.row.DataRow.{DataRow}
use Rattle.mdf_group.specs.Group.{the_group, the_data_group}
use Rattle.mdf_group.specs.Standing.{IsSourceLink, AreChannels, IsGroup, AreGroups, IsDataGroup}
use Rattle.mdf_tree.specs.Text.{note_blocks}
use Rattle.mdf_tree.specs.Group.{source_part, next_link, channels_blocks, placed_channels, group_source, group_comment, group_channels, past_group, group_body, group_values, group_values_behind, group_own, group_blocks, past_groups, groups_blocks, placed_group, placed_groups, data_groups, data_group_blocks, placed_data_group, IsChannelWritable, IsGroupSized, IsGroupWritable, IsDataGroupWritable}
use Rattle.mdf_tree.proofs.Has.{Has, has_left, has_right, has_more, here, address_some}
use Rattle.mdf_tree.proofs.Texts.{linked_note}
use Rattle.mdf_tree.proofs.Numbers.{back16, back32, back64}
use Rattle.mdf_tree.proofs.Channels.{source_link_stands, channels_long, channels_chain}
use Rattle.mdf_group.proofs.Onces.{chain_once}

-- the body reads back as the channel group
group_back : (at : ℕ) (row : GroupRow) (channels : List ChannelRow) → IsGroupSized row
    → the_group at (group_body row) (record { name = row.name; source = row.source; comment = row.comment }) channels
    ≡ record row { at = at; channels = channels }
group_back at row channels fits =
    let id = back64 row.id fits.id in
    let cycles = back64 row.cycles fits.cycles in
    let flags = back16 row.flags fits.flags in
    let separator = back16 row.separator fits.separator in
    let data_bytes = back32 row.data_bytes fits.data_bytes in
    let inval_bytes = back32 row.inval_bytes fits.inval_bytes in
    rw (id, cycles, flags, separator, data_bytes, inval_bytes) refl

pub group_long : (n : ℕ) (next : Link) (values : List Link) (row : GroupRow) → n + length (group_blocks n next values row) ≡ past_group n row
unfolding group_blocks
group_long n next values row =
    let source = source_part (group_source n row) row.source in
    let channels = channels_blocks (group_channels n row) (group_values values row) row.channels in
    omega (
      arith,
      length-append (note_blocks row.name) (source ++ (note_blocks row.comment ++ channels)),
      length-append source (note_blocks row.comment ++ channels),
      length-append (note_blocks row.comment) channels,
      channels_long (group_channels n row) (group_values values row) row.channels,
    )

pub groups_long : (n : ℕ) (values : List Link) (rows : List GroupRow) → n + length (groups_blocks n values rows) ≡ past_groups n rows
unfolding groups_blocks past_groups
groups_long n values [] = omega arith
groups_long n values (row ∷ rows) =
    let next = past_group n row in
    omega (
      arith,
      length-append (group_blocks n (next_link next rows) values row) (groups_blocks next (group_values_behind values row) rows),
      group_long n (next_link next rows) values row,
      groups_long next (group_values_behind values row) rows,
    )

module _ (file : List ℕ) (blocks : List Placed) (all : AllStand file blocks) where
  pub channels_stand : (n : ℕ) (values : List Link) (rows : List ChannelRow) → AllByRecursion IsChannelWritable rows
      → Has blocks n (channels_blocks n values rows)
      → AreChannels file (link_number blocks (next_link n rows)) (placed_channels blocks n values rows)
  channels_stand n values rows is has =
      let along = channels_chain file blocks all n values rows is has in record {
        chain = along.chain;
        once = chain_once file Cn _ _ along.chain along.some;
        each = along.each;
      }

  pub group_stands : (n : ℕ) (next : Link) (values : List Link) (row : GroupRow) → IsGroupWritable row → Has blocks n (group_blocks n next values row)
      → IsBlock file (address_of blocks n) Cg × (link_at file (address_of blocks n) 0 ≡ link_number blocks next)
      × IsGroup file (placed_group blocks n values row)
  unfolding group_blocks
  group_stands n next values row is has =
      let at = address_of blocks n in
      let source = source_part (group_source n row) row.source in
      let comment = note_blocks row.comment in
      let channels = channels_blocks (group_channels n row) (group_values values row) row.channels in
      let parts = note_blocks row.name ++ (source ++ (comment ++ channels)) in
      let s = here file blocks n (group_own n next row) parts all has in
      let one = has_more blocks n (group_own n next row) parts has in
      let two = has_right blocks (n + 1) (note_blocks row.name) (source ++ (comment ++ channels)) one in
      let three = has_right blocks (group_source n row) source (comment ++ channels) two in
      let four = has_right blocks (group_comment n row) comment channels three in
      let rows = placed_channels blocks (group_channels n row) (group_values values row) row.channels in (
        s.whole (record { linked = omega arith; filled = omega arith }),
        s.link 0 (omega arith),
        record {
          links = record { name = row.name; source = row.source; comment = row.comment };
          fields = sym (group_back at row rows is.sized)
              ∙ ap (λ (body : List ℕ). the_group at body (record { name = row.name; source = row.source; comment = row.comment }) rows) (sym s.body);
          name = linked_note file blocks all (n + 1) row.name at 2 (s.link 2 (omega arith)) is.name
              (has_left blocks (n + 1) (note_blocks row.name) (source ++ (comment ++ channels)) one);
          source = subst (λ (place : ℕ). IsSourceLink file place row.source) (sym (s.link 3 (omega arith)))
              (source_link_stands file blocks all (group_source n row) row.source is.source
              (has_left blocks (group_source n row) source (comment ++ channels) two));
          comment = linked_note file blocks all (group_comment n row) row.comment at 5 (s.link 5 (omega arith)) is.comment
              (has_left blocks (group_comment n row) comment channels three);
          channels = subst (λ (place : ℕ). AreChannels file place rows) (sym (s.link 1 (omega arith)))
              (channels_stand (group_channels n row) (group_values values row) row.channels is.channels four);
        },
      )

  -- a chain of groups, none at 0, each as it is
  record AreAlongGroups (at : ℕ) (rows : List GroupRow) : Type 0 where
    chain : IsChain file at Cg (map (λ row. row.at) rows)
    some : AllByRecursion (λ place. place ≢ 0) (map (λ row. row.at) rows)
    each : AllByRecursion (IsGroup file) rows

  groups_chain : (n : ℕ) (values : List Link) (rows : List GroupRow) → AllByRecursion IsGroupWritable rows
      → Has blocks n (groups_blocks n values rows)
      → AreAlongGroups (link_number blocks (next_link n rows)) (placed_groups blocks n values rows)
  unfolding groups_blocks placed_groups IsChain
  groups_chain n values [] is has = record { chain = refl; some = tt; each = tt }
  groups_chain n values (row ∷ rows) is has =
      let next = past_group n row in
      let own = group_blocks n (next_link next rows) values row in
      let rest = groups_blocks next (group_values_behind values row) rows in
      let first = group_stands n (next_link next rows) values row is.0 (has_left blocks n own rest has) in
      let behind = groups_chain next (group_values_behind values row) rows is.1
      (subst (λ (m : ℕ). Has blocks m rest) (group_long n (next_link next rows) values row) (has_right blocks n own rest has)) in record {
        chain = (
          refl,
          first.0,
          subst (λ (place : ℕ). IsChain file place Cg (map (λ (r : GroupRow). r.at) (placed_groups blocks next (group_values_behind values row) rows)))
              (sym first.1) behind.chain,
        );
        some = (address_some blocks n, behind.some);
        each = (first.2, behind.each);
      }

  pub groups_stand : (n : ℕ) (values : List Link) (rows : List GroupRow) → AllByRecursion IsGroupWritable rows → Has blocks n (groups_blocks n values rows)
      → AreGroups file (link_number blocks (next_link n rows)) (placed_groups blocks n values rows)
  groups_stand n values rows is has =
      let along = groups_chain n values rows is has in record {
        chain = along.chain;
        once = chain_once file Cg _ _ along.chain along.some;
        each = along.each;
      }

  pub data_group_stands : (n : ℕ) (next content : Link) (values : List Link) (row : DataRow) → IsDataGroupWritable row
      → Has blocks n (data_group_blocks n next content values row)
      → IsBlock file (address_of blocks n) Dg × (link_at file (address_of blocks n) 0 ≡ link_number blocks next)
      × IsDataGroup file (placed_data_group blocks n content values row)
  unfolding data_group_blocks
  data_group_stands n next content values row is has =
      let at = address_of blocks n in
      let s = here file blocks n _ _ all has in
      let one = has_more blocks n _ _ has in
      let groups = groups_blocks (data_groups n row) values row.groups in
      let two = has_right blocks (n + 1) (note_blocks row.comment) groups one in
      let rows = placed_groups blocks (data_groups n row) values row.groups in (
        s.whole (record { linked = omega arith; filled = omega arith }),
        s.link 0 (omega arith),
        record {
          fields = ap (λ (body : List ℕ). the_data_group at body row.comment (link_number blocks content) rows) (sym s.body)
              ∙ ap (λ (number : ℕ). the_data_group at (body_at file at) row.comment number rows) (sym (s.link 2 (omega arith)));
          comment = linked_note file blocks all (n + 1) row.comment at 3 (s.link 3 (omega arith)) is.comment
              (has_left blocks (n + 1) (note_blocks row.comment) groups one);
          groups = subst (λ (place : ℕ). AreGroups file place rows) (sym (s.link 1 (omega arith)))
              (groups_stand (data_groups n row) values row.groups is.groups two);
        },
      )
