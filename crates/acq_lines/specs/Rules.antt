-- What a source of a plan may hand in.
use Rattle.std.specs.Prelude.{ℕ, ◌≡◌, ◌≤◌, List, Option, slice_index}
use Rattle.mdf_layout.specs.Layout.{Layout}
use Rattle.mdf_layout.specs.Record.{SampleFits, encoded_size}
use Rattle.mdf_layout.specs.declared.sample.Sample.{Sample}
use Rattle.script_line.specs.declared.float.Width.{Width}
use Rattle.acq_run.specs.declared.feed.Fed.{Fed}
use Rattle.acq_run.specs.declared.feed.Fed.TheVariants as fed
use Rattle.acq_lines.specs.declared.rules.LineRules.{LineRules}

-- the layouts of the groups, which of the channels of each are floats, the source of each, and how many bytes the records of a sample have at most
pub record Rules : Type 0 where
  pub shapes : List Layout
  pub floats : List (List (Option Width))
  pub owners : List ℕ
  pub block : ℕ

abbrev pub rules_of : LineRules → Rules
rules_of rules = record { shapes = rules.shapes.now; floats = rules.floats.now; owners = rules.owners.now; block = rules.block }

-- a sample of a group of the source, which has room in an empty block; a flush always may come
pub record MayAppend (rules : Rules) (source : ℕ) (sample : Sample) : Type 0 where
  pub owned : slice_index rules.owners sample.group ≡ source
  pub fits : SampleFits rules.shapes sample
  pub size : encoded_size rules.shapes sample ≤ rules.block

abbrev pub MayCome : Rules → ℕ → Fed → Type 0
MayCome rules source (fed.Sample sample) = MayAppend rules source sample
MayCome rules source fed.Flush = Unit {0}
MayCome rules source fed.End = ⊥
