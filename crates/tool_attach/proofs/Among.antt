-- Links of the blocks of a sorted file name its blocks, or what comes behind them.
use Rattle.std.proofs.Common.{◌≡◌, ◌+◌, ◌≤◌, ℕ, zero, suc, Bool, true, false, List, [], ◌∷◌, ◌++◌, length, map, Option, Some, None, arith, refl, ◌∙◌, length-append}
use Rattle.std.proofs.lemmas.List.{length-map}
use Rattle.std.specs.Prelude.{nat_eq, if◌then◌else◌}
use Rattle.std.specs.List.{AllByRecursion}
use Rattle.mdf_format.specs.declared.kind.Kind.{Kind}
use Rattle.mdf_format.specs.declared.kind.Kind.TheVariants.{Dt, Sd}
use Rattle.mdf_block.specs.declared.link.Link.{Link}
use Rattle.mdf_block.specs.declared.link.Link.TheVariants as links
use Rattle.mdf_block.specs.declared.note.Note.{Note}
use Rattle.mdf_block.specs.declared.note.Note.TheVariants as notes
use Rattle.mdf_block.specs.Draft.{Placed}
use Rattle.mdf_head.specs.declared.entry.Head.{Head}
use Rattle.mdf_head.specs.declared.entry.History.{History}
use Rattle.mdf_conv.specs.declared.row.SourceInfo.{SourceInfo}
use Rattle.mdf_conv.specs.declared.row.Conversion.{Conversion}
use Rattle.mdf_conv.specs.declared.row.Ref.{Ref}
use Rattle.mdf_conv.specs.declared.row.Ref.TheOpen as layers
use Rattle.mdf_conv.specs.declared.row.Ref.TheViews.{out-Ref}
use Rattle.mdf_group.specs.declared.row.ChannelRow.{ChannelRow}
use Rattle.mdf_group.specs.declared.row.GroupRow.{GroupRow}
use Rattle.mdf_group.specs.declared.row.DataRow.{DataRow}
use Rattle.mdf_group.specs.Group.{is_variable}
use Rattle.mdf_tree.specs.Text.{note_blocks, note_link}
use Rattle.mdf_tree.specs.Conv.{Layer, layer_blocks, layer_link, ref_blocks, ref_link, refs_blocks, refs_links, source_path, source_comment, source_blocks, conv_unit, conv_comment, conv_first, conv_head_links, conv_blocks_by, conv_blocks}
use Rattle.mdf_tree.specs.Group.{source_part, source_link, conv_part, conv_link, next_link, channel_source, channel_conv, channel_unit, channel_comment, channel_parts, channel_blocks, first_or_none, behind_first, value_link, values_behind, values_past, past_channel, channels_blocks, group_source, group_comment, group_channels, group_values, group_values_behind, past_group, past_groups, group_blocks, groups_blocks, data_groups, data_group_blocks}
use Rattle.mdf_tree.specs.Head.{past_entry, history_blocks, head_blocks, head_groups, past_history}
use Rattle.mdf_tree.proofs.Groups.{group_long}
use Rattle.mdf_tree.proofs.Channels.{channel_long}
use Rattle.mdf_tree.proofs.Heads.{history_long}
use Rattle.mdf_spell.specs.Recording.{block_links}
use Rattle.mdf_spell.specs.Session.{data_block}
use Rattle.mdf_spell.proofs.SessionTrees.{data_long, head_long}
use Rattle.mdf_model.specs.declared.part.GroupPart.{GroupPart}
use Rattle.mdf_model.specs.declared.part.Measure.{Measure}
use Rattle.mdf_model.specs.Measurement.{Measured}
use Rattle.tool_sort.specs.Sorted.{sorted_group, group_number, records_number, values_number, values_links, sorted_row, past_part, tree_blocks, part_blocks, measures_blocks, sorted_history, first_measure, sorted_blocks}

-- a link names nothing, or a block of so many, or what comes behind them
abbrev pub IsAmong : ℕ → Link → Type 0
IsAmong most links.Nothing = Unit {0}
IsAmong most (links.Block n) = n ≤ most
IsAmong most links.End = ⊥

abbrev pub AreLinksAmong : ℕ → List Link → Type 0
AreLinksAmong most names = AllByRecursion (IsAmong most) names

abbrev pub AreAmong : ℕ → List Placed → Type 0
AreAmong most blocks = AllByRecursion (λ (b : Placed). AreLinksAmong most b.links) blocks

-- where the data of a group begins, and what comes behind it
one_past : (n : ℕ) (row : GroupRow) → past_groups n (row ∷ []) ≡ past_group n row
unfolding past_groups
one_past n row = refl

tree_long : (n : ℕ) (next : Link) (part : GroupPart) (count : ℕ) → n + length (tree_blocks n next part count) ≡ records_number n part
tree_long n next part count =
    data_long n next (links.Block (records_number n part)) (values_links n part) (sorted_row part count)
    ∙ one_past (group_number n part) (sorted_group part count)

part_long : (n : ℕ) (next : Link) (part : GroupPart) (count : ℕ) → n + length (part_blocks n next part count) ≡ past_part n part
unfolding part_blocks
part_long n next part count =
    omega (
      arith,
      tree_long n next part count,
      length-append (tree_blocks n next part count) (data_block Dt part.content ∷ map (data_block Sd) part.streams),
      length-map part.streams (data_block Sd),
    )

module _ (most : ℕ) where
  both : (a b : List Placed) → AreAmong most a → AreAmong most b → AreAmong most (a ++ b)
  both [] b first second = second
  both (x ∷ a) b first second = (first.0, both a b first.1 second)

  both_links : (a b : List Link) → AreLinksAmong most a → AreLinksAmong most b → AreLinksAmong most (a ++ b)
  both_links [] b first second = second
  both_links (x ∷ a) b first second = (first.0, both_links a b first.1 second)

  -- the next one of a chain
  next_among : {A : Type 0} (n : ℕ) (rows : List A) → n ≤ most → IsAmong most (next_link n rows)
  next_among n [] within = tt
  next_among n (row ∷ rows) within = within

  -- texts
  note_among : (note : Note) → AreAmong most (note_blocks note)
  unfolding note_blocks
  note_among notes.Nothing = tt
  note_among (notes.Plain bytes) = (tt, tt)
  note_among (notes.Xml bytes) = (tt, tt)

  note_named : (n : ℕ) (note : Note) → n ≤ most → IsAmong most (note_link n note)
  unfolding note_link
  note_named n notes.Nothing within = tt
  note_named n (notes.Plain bytes) within = within
  note_named n (notes.Xml bytes) within = within

  -- sources
  source_among : (n : ℕ) (source : SourceInfo) → n + length (source_blocks n source) ≤ most → AreAmong most (source_blocks n source)
  unfolding source_blocks
  source_among n source within =
      let name = note_blocks source.name in
      let path = note_blocks source.path in
      let comment = note_blocks source.comment in
      let first = length-append name (path ++ comment) in
      let second = length-append path comment in (
        (note_named (n + 1) source.name (omega (arith, within, first, second)), (note_named (source_path n source) source.path (omega (arith, within, first, second)), (note_named (source_comment n source) source.comment (omega (arith, within, first, second)), tt))),
        both name (path ++ comment) (note_among source.name) (both path comment (note_among source.path) (note_among source.comment)),
      )

  source_part_among : (n : ℕ) (found : Option SourceInfo) → n + length (source_part n found) ≤ most
      → AreAmong most (source_part n found) × IsAmong most (source_link n found)
  unfolding source_part source_link
  source_part_among n None within = (tt, tt)
  source_part_among n (Some source) within = (source_among n source within, omega (arith, within))

  -- conversions, and what they refer to
  module _ (inner : ℕ → Conversion → List Placed) (all : (n : ℕ) (conv : Conversion) → n + length (inner n conv) ≤ most → AreAmong most (inner n conv)) where
    layer_among : (n : ℕ) (layer : Layer) → n + length (layer_blocks inner n layer) ≤ most
        → AreAmong most (layer_blocks inner n layer) × IsAmong most (layer_link n layer)
    layer_among n layers.Nothing within = (tt, tt)
    layer_among n (layers.Words note) within = (note_among note, note_named n note (omega (arith, within)))
    layer_among n (layers.Conv conv) within = (all n conv within, omega (arith, within))

    ref_among : (n : ℕ) (found : Ref) → n + length (ref_blocks inner n found) ≤ most
        → AreAmong most (ref_blocks inner n found) × IsAmong most (ref_link n found)
    unfolding ref_blocks ref_link
    ref_among n found within = layer_among n (out-Ref found) within

    refs_among : (n : ℕ) (rows : List Ref) → n + length (refs_blocks inner n rows) ≤ most
        → AreAmong most (refs_blocks inner n rows) × AreLinksAmong most (refs_links inner n rows)
    unfolding refs_blocks refs_links
    refs_among n [] within = (tt, tt)
    refs_among n (first ∷ rest) within =
        let own = ref_blocks inner n first in
        let behind = refs_blocks inner (n + length own) rest in
        let long = length-append own behind in
        let here = ref_among n first (omega (arith, within, long)) in
        let more = refs_among (n + length own) rest (omega (arith, within, long)) in
        (both own behind here.0 more.0, (here.1, more.1))

    conv_by_among : (n : ℕ) (conv : Conversion) → n + length (conv_blocks_by inner n conv) ≤ most → AreAmong most (conv_blocks_by inner n conv)
    unfolding conv_blocks_by
    conv_by_among n conv within =
        let name = note_blocks conv.name in
        let unit = note_blocks conv.unit in
        let comment = note_blocks conv.comment in
        let refs = refs_blocks inner (conv_first n conv) conv.refs in
        let first = length-append name (unit ++ (comment ++ refs)) in
        let second = length-append unit (comment ++ refs) in
        let third = length-append comment refs in
        let named = refs_among (conv_first n conv) conv.refs (omega (arith, within, first, second, third)) in
        let own : AreLinksAmong most (conv_head_links n conv) = (
          note_named (n + 1) conv.name (omega (arith, within)),
          (note_named (conv_unit n conv) conv.unit (omega (arith, within, first)), (note_named (conv_comment n conv) conv.comment (omega (arith, within, first, second)), (tt, tt))),
        ) in (
          both_links (conv_head_links n conv) (refs_links inner (conv_first n conv) conv.refs) own named.1,
          both name _ (note_among conv.name) (both unit _ (note_among conv.unit) (both comment refs (note_among conv.comment) named.0)),
        )

  conv_among : (levels n : ℕ) (conv : Conversion) → n + length (conv_blocks levels n conv) ≤ most → AreAmong most (conv_blocks levels n conv)
  unfolding conv_blocks
  conv_among zero n conv within = tt
  conv_among (suc levels) n conv within = conv_by_among (conv_blocks levels) (conv_among levels) n conv within

  conv_part_among : (n : ℕ) (found : Option Conversion) → n + length (conv_part n found) ≤ most
      → AreAmong most (conv_part n found) × IsAmong most (conv_link n found)
  unfolding conv_part conv_link
  conv_part_among n None within = (tt, tt)
  conv_part_among n (Some conv) within = (conv_among 4 n conv within, omega (arith, within))

  -- channels
  channel_among : (n : ℕ) (next values : Link) (row : ChannelRow) → IsAmong most next → IsAmong most values → past_channel n row ≤ most
      → AreAmong most (channel_blocks n next values row)
  unfolding channel_blocks channel_parts
  channel_among n next values row is_next is_values within =
      let name = note_blocks row.name in
      let source = source_part (channel_source n row) row.source in
      let conv = conv_part (channel_conv n row) row.conv in
      let unit = note_blocks row.unit in
      let comment = note_blocks row.comment in
      let is_source = source_part_among (channel_source n row) row.source (omega (arith, within)) in
      let is_conv = conv_part_among (channel_conv n row) row.conv (omega (arith, within)) in (
        (is_next, (tt, (note_named (n + 1) row.name (omega (arith, within)), (is_source.1, (is_conv.1, (is_values, (note_named (channel_unit n row) row.unit (omega (arith, within)), (note_named (channel_comment n row) row.comment (omega (arith, within)), tt)))))))),
        both name _ (note_among row.name)
            (both source _ is_source.0 (both conv _ is_conv.0 (both unit comment (note_among row.unit) (note_among row.comment)))),
      )

  first_among : (values : List Link) → AreLinksAmong most values → IsAmong most (first_or_none values)
  first_among [] all = tt
  first_among (first ∷ rest) all = all.0

  rest_among : (values : List Link) → AreLinksAmong most values → AreLinksAmong most (behind_first values)
  rest_among [] all = tt
  rest_among (first ∷ rest) all = all.1

  chosen_link : (variable : Bool) (first second : Link) → IsAmong most first → IsAmong most second → IsAmong most (if variable then first else second)
  chosen_link true first second one other = one
  chosen_link false first second one other = other

  chosen_links : (variable : Bool) (first second : List Link) → AreLinksAmong most first → AreLinksAmong most second
      → AreLinksAmong most (if variable then first else second)
  chosen_links true first second one other = one
  chosen_links false first second one other = other

  value_among : (values : List Link) (row : ChannelRow) → AreLinksAmong most values → IsAmong most (value_link values row)
  value_among values row all = chosen_link (nat_eq row.kind 1) _ _ (first_among values all) tt

  behind_among : (values : List Link) (row : ChannelRow) → AreLinksAmong most values → AreLinksAmong most (values_behind values row)
  behind_among values row all = chosen_links (nat_eq row.kind 1) _ _ (rest_among values all) all

  past_among : (values : List Link) (rows : List ChannelRow) → AreLinksAmong most values → AreLinksAmong most (values_past values rows)
  unfolding values_past
  past_among values [] all = all
  past_among values (row ∷ rows) all = past_among (values_behind values row) rows (behind_among values row all)

  channels_among : (n : ℕ) (values : List Link) (rows : List ChannelRow) → AreLinksAmong most values → n + length (channels_blocks n values rows) ≤ most
      → AreAmong most (channels_blocks n values rows)
  unfolding channels_blocks
  channels_among n values [] all within = tt
  channels_among n values (row ∷ rows) all within =
      let past = past_channel n row in
      let own = channel_blocks n (next_link past rows) (value_link values row) row in
      let rest = channels_blocks past (values_behind values row) rows in
      let long = length-append own rest in
      let here = channel_long n (next_link past rows) (value_link values row) row in
      both own rest
      (channel_among n (next_link past rows) (value_link values row) row (next_among past rows (omega (arith, within, long, here))) (value_among values row all) (omega (arith, within, long, here)))
      (channels_among past (values_behind values row) rows (behind_among values row all) (omega (arith, within, long, here)))

  -- channel groups
  group_among : (n : ℕ) (next : Link) (values : List Link) (row : GroupRow) → IsAmong most next → AreLinksAmong most values
      → n + length (group_blocks n next values row) ≤ most → AreAmong most (group_blocks n next values row)
  unfolding group_blocks
  group_among n next values row is_next all within =
      let name = note_blocks row.name in
      let source = source_part (group_source n row) row.source in
      let comment = note_blocks row.comment in
      let channels = channels_blocks (group_channels n row) (group_values values row) row.channels in
      let first = length-append name (source ++ (comment ++ channels)) in
      let second = length-append source (comment ++ channels) in
      let third = length-append comment channels in
      let is_source = source_part_among (group_source n row) row.source (omega (arith, within, first, second, third)) in (
        (is_next, (next_among (group_channels n row) row.channels (omega (arith, within, first, second, third)), (note_named (n + 1) row.name (omega (arith, within)), (is_source.1, (tt, (note_named (group_comment n row) row.comment (omega (arith, within, first, second)), tt)))))),
        both name _ (note_among row.name) (both source _ is_source.0 (both comment channels (note_among row.comment)
            (channels_among (group_channels n row) (group_values values row) row.channels (chosen_links (is_variable row) [] values tt all)
            (omega (arith, within, first, second, third))))),
      )

  groups_among : (n : ℕ) (values : List Link) (rows : List GroupRow) → AreLinksAmong most values → n + length (groups_blocks n values rows) ≤ most
      → AreAmong most (groups_blocks n values rows)
  unfolding groups_blocks
  groups_among n values [] all within = tt
  groups_among n values (row ∷ rows) all within =
      let past = past_group n row in
      let own = group_blocks n (next_link past rows) values row in
      let rest = groups_blocks past (group_values_behind values row) rows in
      let long = length-append own rest in
      let here = group_long n (next_link past rows) values row in
      both own rest
      (group_among n (next_link past rows) values row (next_among past rows (omega (arith, within, long, here))) all (omega (arith, within, long)))
      (groups_among past (group_values_behind values row) rows (chosen_links (is_variable row) values _ all (past_among values row.channels all))
      (omega (arith, within, long, here)))

  -- data groups, with their data behind them
  data_group_among : (n : ℕ) (next content : Link) (values : List Link) (row : DataRow) → IsAmong most next → IsAmong most content
      → AreLinksAmong most values → n + length (data_group_blocks n next content values row) ≤ most
      → AreAmong most (data_group_blocks n next content values row)
  unfolding data_group_blocks
  data_group_among n next content values row is_next is_content all within =
      let comment = note_blocks row.comment in
      let groups = groups_blocks (data_groups n row) values row.groups in
      let long = length-append comment groups in (
        (is_next, (next_among (data_groups n row) row.groups (omega (arith, within, long)), (is_content, (note_named (n + 1) row.comment (omega (arith, within)), tt)))),
        both comment groups (note_among row.comment) (groups_among (data_groups n row) values row.groups all (omega (arith, within, long))),
      )

  links_among : (n count : ℕ) → n + count ≤ most → AreLinksAmong most (block_links n count)
  unfolding block_links
  links_among n zero within = tt
  links_among n (suc count) within = (omega (arith, within), links_among (n + 1) count (omega (arith, within)))

  data_among : (kind : Kind) (contents : List (List ℕ)) → AreAmong most (map (data_block kind) contents)
  data_among kind [] = tt
  data_among kind (content ∷ contents) = (tt, data_among kind contents)

  part_among : (n : ℕ) (next : Link) (part : GroupPart) (count : ℕ) → IsAmong most next → past_part n part ≤ most
      → AreAmong most (part_blocks n next part count)
  unfolding part_blocks
  part_among n next part count is_next within =
      let tree = tree_long n next part count in
      both (tree_blocks n next part count) _
      (data_group_among n next (links.Block (records_number n part)) (values_links n part) (sorted_row part count) is_next (omega (arith, within))
      (links_among (values_number n part) (length part.streams) (omega (arith, within))) (omega (arith, within, tree)))
      (tt, data_among Sd part.streams)

  measures_among : (n : ℕ) (measures : List Measure) → n + length (measures_blocks n measures) ≤ most → AreAmong most (measures_blocks n measures)
  unfolding measures_blocks
  measures_among n [] within = tt
  measures_among n (m ∷ rest) within =
      let past = past_part n m.part in
      let own = part_blocks n (next_link past rest) m.part m.count in
      let behind = measures_blocks past rest in
      let long = length-append own behind in
      let here = part_long n (next_link past rest) m.part m.count in
      both own behind
      (part_among n (next_link past rest) m.part m.count (next_among past rest (omega (arith, within, long, here))) (omega (arith, within, long, here)))
      (measures_among past rest (omega (arith, within, long, here)))

  -- the head
  history_among : (n : ℕ) (entries : List History) → n + length (history_blocks n entries) ≤ most → AreAmong most (history_blocks n entries)
  unfolding history_blocks
  history_among n [] within = tt
  history_among n (entry ∷ entries) within =
      let past = past_entry n entry in
      let comment = note_blocks entry.comment in
      let rest = history_blocks past entries in
      let long = length-append comment rest in (
        (next_among past entries (omega (arith, within, long)), (note_named (n + 1) entry.comment (omega (arith, within)), tt)),
        both comment rest (note_among entry.comment) (history_among past entries (omega (arith, within, long))),
      )

  head_among : (head : Head) (entries : List History) (groups : Link) → IsAmong most groups → head_groups head entries ≤ most
      → AreAmong most (head_blocks head entries groups)
  unfolding head_blocks
  head_among head entries groups is_groups within =
      let history = history_long 1 entries in (
        (is_groups, (next_among 1 entries (omega (arith, within, history)), (tt, (tt, (tt, (note_named (past_history 1 entries) head.comment (omega (arith, within)), tt)))))),
        both (history_blocks 1 entries) (note_blocks head.comment) (history_among 1 entries (omega (arith, within, history))) (note_among head.comment),
      )

-- all of them
pub sorted_among : (m : Measured) (title : List ℕ) (now : ℕ) → AreAmong (length (sorted_blocks m title now)) (sorted_blocks m title now)
unfolding sorted_blocks
sorted_among m title now =
    let n = first_measure m title now in
    let entries = sorted_history m title now in
    let head = head_blocks m.head entries (next_link n m.groups) in
    let measures = measures_blocks n m.groups in
    let long = length-append head measures in
    let here = head_long m.head entries (next_link n m.groups) in
    let most = length (head ++ measures) in
    both most head measures
    (head_among most m.head entries (next_link n m.groups) (next_among most n m.groups (omega (arith, long, here))) (omega (arith, long, here)))
    (measures_among most n m.groups (omega (arith, long, here)))
