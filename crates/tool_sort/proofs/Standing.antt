-- The groups of a sorted file stand in every file in which its blocks do.
use Rattle.std.proofs.Common.{◌≡◌, ◌≢◌, ◌+◌, ◌^◌, ◌<◌, ℕ, List, [], ◌∷◌, map, refl, sym, subst, arith}
use Rattle.std.specs.List.{AllByRecursion}
use Rattle.mdf_format.specs.Block.{link_at, IsBlock, IsChain}
use Rattle.mdf_format.specs.declared.kind.Kind.TheVariants.{Dg, Dt, Sd}
use Rattle.mdf_block.specs.declared.link.Link.{Link}
use Rattle.mdf_block.specs.declared.link.Link.TheVariants as links
use Rattle.mdf_block.specs.Draft.{Placed, address_of, link_number, AllStand}
use Rattle.mdf_group.specs.declared.row.GroupRow.{GroupRow}
use Rattle.mdf_group.specs.declared.row.DataRow.{DataRow}
use Rattle.mdf_group.specs.Standing.{IsDataGroup, AreDataGroups}
use Rattle.mdf_group.proofs.Onces.{chain_once}
use Rattle.mdf_tree.specs.Group.{next_link, placed_group, placed_groups, placed_data_group, IsGroupWritable, IsDataGroupWritable}
use Rattle.mdf_tree.proofs.Has.{Has, has_left, has_right, has_more, address_some}
use Rattle.mdf_tree.proofs.Groups.{data_group_stands}
use Rattle.mdf_spell.specs.Session.{data_block}
use Rattle.mdf_spell.specs.Standing.{AreBytes, HoldsData, HoldStreams}
use Rattle.mdf_spell.proofs.Cleans.{note_clean, row_clean}
use Rattle.mdf_spell.proofs.SessionTrees.{data_stands, streams_stand}
use Rattle.mdf_model.specs.declared.part.GroupPart.{GroupPart}
use Rattle.mdf_model.specs.declared.part.Measure.{Measure}
use Rattle.tool_sort.specs.Kept.{IsMeasureIn}
use Rattle.tool_sort.specs.Sorted.{sorted_group, sorted_row, group_number, records_number, values_number, past_part, values_links, tree_blocks, part_blocks, measures_blocks}
use Rattle.tool_sort.proofs.Parts.{tree_long, part_long}

-- the channel group and the data group as they stand then
abbrev pub placed_one : List Placed → ℕ → GroupPart → ℕ → GroupRow
placed_one blocks n part count = placed_group blocks (group_number n part) (values_links n part) (sorted_group part count)

abbrev pub placed_row : List Placed → ℕ → GroupPart → ℕ → DataRow
placed_row blocks n part count = record {
  at = address_of blocks n;
  id_size = 0;
  comment = part.comment;
  content = address_of blocks (records_number n part);
  groups = placed_one blocks n part count ∷ [];
}

abbrev pub placed_rows : List Placed → ℕ → List Measure → List DataRow
placed_rows blocks n [] = []
placed_rows blocks n (m ∷ rest) = placed_row blocks n m.part m.count ∷ placed_rows blocks (past_part n m.part) rest

row_is : (blocks : List Placed) (n : ℕ) (part : GroupPart) (count : ℕ)
    → placed_data_group blocks n (links.Block (records_number n part)) (values_links n part) (sorted_row part count) ≡ placed_row blocks n part count
unfolding placed_groups
row_is blocks n part count = refl

-- what is read can be written, with as many records as there are
pub part_writable : (file : List ℕ) (m : Measure) → AreBytes file → IsMeasureIn file m → m.count < 2 ^ 64 → IsDataGroupWritable (sorted_row m.part m.count)
part_writable file m bytes is fits =
    let own = row_clean file bytes m.part.row is.row in
    let group : IsGroupWritable (sorted_group m.part m.count) = record {
      sized = record {
        id = omega arith;
        cycles = fits;
        flags = own.sized.flags;
        separator = own.sized.separator;
        data_bytes = own.sized.data_bytes;
        inval_bytes = own.sized.inval_bytes;
      };
      name = own.name;
      source = own.source;
      comment = own.comment;
      channels = own.channels;
    } in
    record { comment = note_clean file is.place m.part.comment is.comment; groups = (group, tt) }

-- a data group, its records and its values
pub record PartStands (file : List ℕ) (blocks : List Placed) (n : ℕ) (part : GroupPart) (count : ℕ) : Type 0 where
  pub row : IsDataGroup file (placed_row blocks n part count)
  pub records : HoldsData file (address_of blocks (records_number n part)) Dt part.content
  pub streams : HoldStreams file blocks (values_number n part) part.streams

-- all of them
abbrev pub AllPartsStand : List ℕ → List Placed → ℕ → List Measure → Type 0
AllPartsStand file blocks n [] = Unit {0}
AllPartsStand file blocks n (m ∷ rest) = PartStands file blocks n m.part m.count × AllPartsStand file blocks (past_part n m.part) rest

module _ (file : List ℕ) (blocks : List Placed) (all : AllStand file blocks) where
  part_stands : (n : ℕ) (next : Link) (part : GroupPart) (count : ℕ) → IsDataGroupWritable (sorted_row part count)
      → Has blocks n (part_blocks n next part count)
      → IsBlock file (address_of blocks n) Dg × (link_at file (address_of blocks n) 0 ≡ link_number blocks next)
      × PartStands file blocks n part count
  unfolding part_blocks
  part_stands n next part count is has =
      let tree = tree_blocks n next part count in
      let dt = data_block Dt part.content in
      let sds = map (data_block Sd) part.streams in
      let records = records_number n part in
      let own = data_group_stands file blocks all n next (links.Block records) (values_links n part) (sorted_row part count) is
      (has_left blocks n tree (dt ∷ sds) has) in
      let behind = subst (λ (m : ℕ). Has blocks m (dt ∷ sds)) (tree_long n next part count) (has_right blocks n tree (dt ∷ sds) has) in (
        own.0,
        own.1,
        record {
          row = subst (IsDataGroup file) (row_is blocks n part count) own.2;
          records = data_stands file blocks all records part.content sds behind;
          streams = streams_stand file blocks all (records + 1) part.streams (has_more blocks records dt sds behind);
        },
      )

  -- a chain of data groups, none at 0, each as it is
  record AreAlong (at n : ℕ) (groups : List Measure) : Type 0 where
    chain : IsChain file at Dg (map (λ row. row.at) (placed_rows blocks n groups))
    some : AllByRecursion (λ place. place ≢ 0) (map (λ row. row.at) (placed_rows blocks n groups))
    each : AllByRecursion (IsDataGroup file) (placed_rows blocks n groups)
    parts : AllPartsStand file blocks n groups

  measures_chain : (n : ℕ) (groups : List Measure) → AllByRecursion (λ (m : Measure). IsDataGroupWritable (sorted_row m.part m.count)) groups
      → Has blocks n (measures_blocks n groups) → AreAlong (link_number blocks (next_link n groups)) n groups
  unfolding measures_blocks IsChain
  measures_chain n [] is has = record { chain = refl; some = tt; each = tt; parts = tt }
  measures_chain n (m ∷ rest) is has =
      let next = past_part n m.part in
      let own = part_blocks n (next_link next rest) m.part m.count in
      let more = measures_blocks next rest in
      let first = part_stands n (next_link next rest) m.part m.count is.0 (has_left blocks n own more has) in
      let behind = measures_chain next rest is.1
      (subst (λ (k : ℕ). Has blocks k more) (part_long n (next_link next rest) m.part m.count) (has_right blocks n own more has)) in record {
        chain = (
          refl,
          first.0,
          subst (λ (place : ℕ). IsChain file place Dg (map (λ (r : DataRow). r.at) (placed_rows blocks next rest))) (sym first.1) behind.chain,
        );
        some = (address_some blocks n, behind.some);
        each = (first.2.row, behind.each);
        parts = (first.2, behind.parts);
      }

  -- the data groups stand, each once, with their data
  pub measures_stand : (n : ℕ) (groups : List Measure) → AllByRecursion (λ (m : Measure). IsDataGroupWritable (sorted_row m.part m.count)) groups
      → Has blocks n (measures_blocks n groups)
      → AreDataGroups file (link_number blocks (next_link n groups)) (placed_rows blocks n groups) × AllPartsStand file blocks n groups
  measures_stand n groups is has =
      let along = measures_chain n groups is has in
      (record { chain = along.chain; once = chain_once file Dg _ _ along.chain along.some; each = along.each }, along.parts)
