-- The completed file: the ended file whose last DTBLOCK holds whole records alone, and whose cycle counts are true.
use Rattle.std.specs.Prelude.{ℕ, ◌≡◌, ◌+◌, ◌-◌, ◌≤◌, Bool, nat_eq, if◌then◌else◌, List, [], ◌∷◌, ◌++◌, Option, Some, None, IfSome, Ok, Err}
use Rattle.std.specs.List.{flat_map}
use Rattle.mdf_format.specs.Identification.{standard_flags}
use Rattle.mdf_format.specs.declared.kind.Kind.TheVariants.{Cg, Dt}
use Rattle.mdf_block.specs.declared.place.BlockAt.{BlockAt}
use Rattle.mdf_block.specs.Refusal.{Read, ◌>>=◌}
use Rattle.mdf_block.specs.Block.{block}
use Rattle.mdf_stream.specs.declared.part.Part.{Part}
use Rattle.mdf_stream.specs.Link.{data_parts}
use Rattle.mdf_stream.specs.Parts.{stream_of, stream_size}
use Rattle.mdf_data.specs.declared.known.Piece.{Piece}
use Rattle.mdf_group.specs.declared.row.GroupRow.{GroupRow}
use Rattle.mdf_group.specs.declared.row.DataRow.{DataRow}
use Rattle.mdf_content.specs.Layouts.{has_id_size}
use Rattle.mdf_model.specs.declared.tree.Tree.{Tree}
use Rattle.mdf_model.specs.Contents.{sample_groups}
use Rattle.mdf_model.specs.Measurement.{Measured, measurement}
use Rattle.mdf_model.specs.Tree.{tree}
use Rattle.tool_complete.specs.declared.setting.Setting.{Setting}
use Rattle.tool_complete.specs.declared.cut.Cut.{Cut}
use Rattle.tool_complete.specs.declared.mended.Mended.{Mended}
use Rattle.tool_complete.specs.declared.split.Counted.{Counted}
use Rattle.tool_complete.specs.Ended.{ended_file, last_block}
use Rattle.tool_complete.specs.Flags.{has_bit, unfinished}
use Rattle.tool_complete.specs.Named.{final_name}
use Rattle.tool_complete.specs.Records.{count_of, size_of_all, whole_records, IsTally}
use Rattle.tool_complete.specs.Settings.{IsFieldIn, AreFieldsIn, set_all}

-- the stream of a data group: how many bytes it has, and its whole records
pub record Split : Type 0 where
  pub total : ℕ
  pub records : List Piece

abbrev pub split_by : List ℕ → DataRow → Read (List Part) → Option Split
split_by file row (Ok parts) =
    Some (record { total = stream_size parts; records = whole_records (stream_of file parts) (stream_size parts) row })
split_by file row (Err refusal) = None

-- where its data blocks stand, and its id size is one of the standard's
unfoldable pub split_of : List ℕ → DataRow → Option Split
split_of file row = if has_id_size row then split_by file row (data_parts file Dt row.content) else None

-- what is counted is of the stream of a data group with so many channel groups
pub record IsCounted (groups : ℕ) (split : Split) (counted : Counted) : Type 0 where
  pub total : counted.total ≡ split.total
  pub tally : IsTally groups split.records counted.tally
  pub within : counted.tally.whole ≤ counted.total

abbrev pub IsCountedOf : ℕ → Option Split → Option Counted → Type 0
IsCountedOf groups (Some split) (Some counted) = IsCounted groups split counted
IsCountedOf groups None None = Unit {0}
IsCountedOf groups _ _ = ⊥

-- the cycle count of a channel group, in the second 8 bytes of its body
abbrev pub count_at : ℕ → Read BlockAt → List Setting
count_at count (Ok b) = record { at = b.body_at + 8; value = count } ∷ []
count_at count (Err refusal) = []

-- the cycle count of a channel group with a number is how many records it has
abbrev pub group_count : List ℕ → List Piece → ℕ × GroupRow → List Setting
group_count file records group = count_at (count_of group.0 records) (block file group.1.at Cg)

-- so of all channel groups of a data group that hold no values of variable length
abbrev pub counts_by : List ℕ → DataRow → Option Split → List Setting
counts_by file row (Some split) = flat_map (group_count file split.records) (sample_groups row)
counts_by file row None = []

unfoldable pub row_counts : List ℕ → DataRow → List Setting
row_counts file row = counts_by file row (split_of file row)

-- how many bytes of the body of a block that ends a stream belong to whole records
abbrev pub kept_of : Split → BlockAt → ℕ
kept_of split b = size_of_all split.records - (split.total - b.body_len)

-- the length of the block with these alone, and how many others there are
abbrev pub cut_with : Split → BlockAt → Cut
cut_with split b = record {
  length = record { at = b.at + 8; value = b.body_at - b.at + kept_of split b };
  rest = b.body_len - kept_of split b;
}

-- the block at an address is cut where it is the last of the stream
abbrev pub cut_by : List ℕ → ℕ → DataRow → Read BlockAt → Option Split → Option Cut
cut_by file last row (Ok b) (Some split) = if nat_eq (final_name file row.content) last then Some (cut_with split b) else None
cut_by file last row (Ok b) None = None
cut_by file last row (Err refusal) split = None

unfoldable pub row_cut : List ℕ → ℕ → DataRow → Option Cut
row_cut file last row = cut_by file last row (block file last Dt) (split_of file row)

abbrev pub or_else : Option Cut → Option Cut → Option Cut
or_else (Some cut) other = Some cut
or_else None other = other

-- of the first of these data groups whose stream it ends
unfoldable pub first_cut : List ℕ → ℕ → List DataRow → Option Cut
first_cut file last [] = None
first_cut file last (row ∷ rows) = or_else (row_cut file last row) (first_cut file last rows)

abbrev pub cut_settings : Option Cut → List Setting
cut_settings (Some cut) = cut.length ∷ []
cut_settings None = []

-- the cycle counts of a data group, where they are to be set
abbrev pub counts_if : Bool → List ℕ → DataRow → List Setting
counts_if counted file row = if counted then row_counts file row else []

-- what is mended of an ended file whose tree is found: the last block, where it is cut, and the counts
abbrev pub mended_by : List ℕ → ℕ → Bool → Read Tree → Mended
mended_by file last counted (Ok found) =
    record { cut = first_cut file last found.rows; counts = flat_map (counts_if counted file) found.rows }
mended_by file last counted (Err refusal) = record { cut = None; counts = [] }

unfoldable pub mended : List ℕ → ℕ → Bool → Mended
mended file last counted = mended_by file last counted (tree file)

abbrev pub settings_of : Mended → List Setting
settings_of found = cut_settings found.cut ++ found.counts

-- what is mended of an unfinished file, by its standard flags
abbrev pub mended_file : List ℕ → Mended
mended_file file = mended (ended_file file) (last_block file) (has_bit (standard_flags file) 0)

unfoldable pub completed_file : List ℕ → List ℕ
completed_file file = set_all (settings_of (mended_file file)) (ended_file file)

-- how many bytes of the last block are no whole record
abbrev pub rest_of : Option Cut → ℕ
rest_of None = 0
rest_of (Some cut) = cut.rest

unfoldable pub dropped_rest : List ℕ → ℕ
dropped_rest file = rest_of (mended_file file).cut

-- the measurement of the completed file, with what was dropped; or the first reason to refuse it
unfoldable pub completion : List ℕ → Read (Measured × ℕ)
completion file =
    unfinished file >>= λ _. measurement (completed_file file) >>= λ found. Ok (found, dropped_rest file)

-- the fields that are set lie in a file of so many bytes
pub record AreMendedIn (size : ℕ) (found : Mended) : Type 0 where
  pub cut : IfSome found.cut (λ cut. IsFieldIn size cut.length)
  pub counts : AreFieldsIn size found.counts
