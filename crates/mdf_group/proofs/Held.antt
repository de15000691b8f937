-- How many channels hang in a channel group, and how many channel groups and channels in a data group.
use Rattle.std.proofs.Common.{ℕ, List, [], ◌∷◌, length, map, refl, subst, arith}
use Rattle.std.specs.Prelude.{sum_by}
use Rattle.std.specs.List.{AllByRecursion}
use Rattle.std.proofs.lemmas.List.{length-map}
use Rattle.std.proofs.lemmas.List.Sums.{sum_by-cons}
use Rattle.mdf_format.specs.declared.kind.Kind.TheVariants.{Cg, Cn}
use Rattle.mdf_block.specs.Limit.{HoldInAll, HoldsMany}
use Rattle.mdf_block.proofs.Limits.{ones_in_all}
use Rattle.mdf_group.specs.declared.row.ChannelRow.{ChannelRow}
use Rattle.mdf_group.specs.declared.row.GroupRow.{GroupRow}
use Rattle.mdf_group.specs.declared.row.DataRow.{DataRow}
use Rattle.mdf_group.specs.Cost.{channels_of}
use Rattle.mdf_group.specs.Standing.{IsGroup, IsDataGroup}
use Rattle.mdf_group.proofs.Costs.{channel_count}

-- as many blocks that count themselves as rows
rows_hold : {X : Type 0} (f : List ℕ) (place : X → ℕ) (rows : List X) → HoldInAll (HoldsMany f []) (map place rows) (length rows)
rows_hold f place rows =
    subst (λ (count : ℕ). HoldInAll (HoldsMany f []) (map place rows) count) (length-map rows place) (ones_in_all f (map place rows))

pub group_holds : (f : List ℕ) (row : GroupRow) → IsGroup f row → HoldsMany f (Cn ∷ []) row.at (length row.channels)
unfolding HoldsMany
group_holds f row is =
    let place : ChannelRow → ℕ = λ channel. channel.at in (map place row.channels, is.channels.chain, rows_hold f place row.channels)

groups_hold : (f : List ℕ) (rows : List GroupRow) → AllByRecursion (IsGroup f) rows
    → HoldInAll (HoldsMany f (Cn ∷ [])) (map (λ (row : GroupRow). row.at) rows) (sum_by channel_count rows)
unfolding HoldInAll
groups_hold f [] all = refl
groups_hold f (row ∷ rows) all =
    (length row.channels, sum_by channel_count rows, group_holds f row all.0, groups_hold f rows all.1, omega (arith, sum_by-cons channel_count row rows))

pub data_holds_groups : (f : List ℕ) (row : DataRow) → IsDataGroup f row → HoldsMany f (Cg ∷ []) row.at (length row.groups)
unfolding HoldsMany
data_holds_groups f row is =
    let place : GroupRow → ℕ = λ group. group.at in (map place row.groups, is.groups.chain, rows_hold f place row.groups)

pub data_holds_channels : (f : List ℕ) (row : DataRow) → IsDataGroup f row → HoldsMany f (Cg ∷ Cn ∷ []) row.at (channels_of row)
unfolding HoldsMany
data_holds_channels f row is =
    (map (λ (group : GroupRow). group.at) row.groups, is.groups.chain, groups_hold f row.groups is.groups.each)
