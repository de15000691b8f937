-- The tree and the data of a finalized file as they stand in it: the head, the history with one entry more, and the data group
-- that were read, but for addresses, for links to data and for what is counted.
use Rattle.std.specs.Prelude.{ℕ, ◌≡◌, ◌+◌, ◌<◌, List, [], ◌∷◌}
use Rattle.std.specs.List.{AllByRecursion}
use Rattle.mdf_format.specs.Block.{body_at, IsBlock}
use Rattle.mdf_format.specs.declared.kind.Kind.{Kind}
use Rattle.mdf_format.specs.declared.kind.Kind.TheVariants.{Dt, Sd}
use Rattle.mdf_block.specs.declared.link.Link.TheVariants as links
use Rattle.mdf_block.specs.Draft.{Placed, address_of}
use Rattle.mdf_head.specs.Head.{IsHead}
use Rattle.mdf_group.specs.declared.row.DataRow.{DataRow}
use Rattle.mdf_group.specs.Standing.{IsDataGroup, AreDataGroups}
use Rattle.mdf_tree.specs.Group.{past_data_group, placed_data_group, IsDataGroupWritable}
use Rattle.mdf_tree.specs.Head.{head_groups, placed_history, IsHeadWritable, IsEntryWritable}
use Rattle.mdf_spell.specs.declared.recovered.Recovered.{Recovered}
use Rattle.mdf_spell.specs.Values.{with_streams, own_streams}
use Rattle.mdf_spell.specs.Counts.{counted_data}
use Rattle.mdf_spell.specs.Session.{session_names, session_history, session_blocks}

-- a block of this kind stands whole at the address, and holds these bytes
abbrev pub HoldsData : List ℕ → ℕ → Kind → List ℕ → Type 0
HoldsData file at kind content = IsBlock file at kind × (body_at file at ≡ content)

-- the streams are held by the blocks from block n on, one behind the other
abbrev pub HoldStreams : List ℕ → List Placed → ℕ → List (List ℕ) → Type 0
HoldStreams file blocks n [] = Unit {0}
HoldStreams file blocks n (stream ∷ streams) = HoldsData file (address_of blocks n) Sd stream × HoldStreams file blocks (n + 1) streams

-- where the data group stands among the blocks of the file, and the block of its records
abbrev pub data_number : Recovered → ℕ → ℕ
data_number recovered now = head_groups recovered.head.now (session_history recovered.history.now now)

abbrev pub records_number : Recovered → ℕ → ℕ
records_number recovered now = past_data_group (data_number recovered now) recovered.row.now

-- the data group as it stands there
abbrev pub finalized_row : Recovered → ℕ → DataRow
finalized_row recovered now =
    placed_data_group (session_blocks recovered now) (data_number recovered now) (links.Block (records_number recovered now))
    (with_streams (records_number recovered now + 1) (session_names (data_number recovered now) recovered.row.now))
    (counted_data recovered.counts.now recovered.totals.now recovered.row.now)

-- each is a byte
abbrev pub AreBytes : List ℕ → Type 0
AreBytes bytes = AllByRecursion (λ byte. byte < 256) bytes

-- what was read is read back as it is written: texts without zero bytes, numbers that fit their fields, kinds that are read
pub record IsRecoveredWritable (recovered : Recovered) : Type 0 where
  pub head : IsHeadWritable recovered.head.now
  pub history : AllByRecursion IsEntryWritable recovered.history.now
  pub row : IsDataGroupWritable (counted_data recovered.counts.now recovered.totals.now recovered.row.now)

-- the head, the history and the data group stand in a file, from which they were read
pub record IsRecoveredOf (file : List ℕ) (recovered : Recovered) : Type 0 where
  pub bytes : AreBytes file
  pub head : IsHead file recovered.head.now recovered.history.now
  pub row : IsDataGroup file recovered.row.now

-- the head, the history, the data group, its records and its values stand in the file
pub record IsSessionTree (file : List ℕ) (recovered : Recovered) (now : ℕ) : Type 0 where
  pub head : IsHead file (record recovered.head.now { first_dg = address_of (session_blocks recovered now) (data_number recovered now) })
      (placed_history (session_blocks recovered now) 1 (session_history recovered.history.now now))
  pub groups : AreDataGroups file (address_of (session_blocks recovered now) (data_number recovered now)) (finalized_row recovered now ∷ [])
  pub records : HoldsData file (finalized_row recovered now).content Dt recovered.content.now
  pub streams : HoldStreams file (session_blocks recovered now) (records_number recovered now + 1)
      (own_streams (session_names (data_number recovered now) recovered.row.now) recovered.streams.now)
