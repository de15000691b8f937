-- That a number that a source was told is so, wherever it falls in a log of several parts.
use Rattle.std.specs.Prelude.{ℕ, ◌≡◌, List, ◌++◌, length, flat_map, take, All, Contains}
use Rattle.mdf_layout.specs.History.{source_samples}
use Rattle.mdf_layout.specs.declared.sample.Sample.{Sample}
use Rattle.book_owned.specs.Kept.{MarkHolds}
use Rattle.book_owned.specs.declared.mark.Mark.{Mark}
use Rattle.acq_script.specs.declared.script.Plan.{Plan}
use Rattle.mdf_record.specs.Record.{Outcome}

-- So many samples of a part are durable: one of its marks goes through just these, and each crash since that mark's moment leaves a file that
-- begins with the head and carries a beginning of the history with at least so many samples.
pub record AreDurableIn (plan : Plan) (head : List ℕ) (left : Outcome) (through : ℕ) : Type 0 where
  pub mark : Mark
  pub stands : Contains left.marks mark
  pub through_is : mark.through ≡ through
  pub holds : MarkHolds plan.shapes head left.disk.story left.disk.moment left.history mark

-- all samples of a part are
abbrev pub IsDurableWhole : Plan → List ℕ → Outcome → Type 0
IsDurableWhole plan head left = AreDurableIn plan head left (length left.history)

-- the samples of these parts, one part behind the other
abbrev pub history_of : List Outcome → List Sample
history_of lefts = flat_map (λ left. left.history) lefts

-- So many samples of a source are durable, where these parts stand before this one: all samples of each part before are, and of this one just so
-- many that the source has the rest among them.
pub record IsDurable (plan : Plan) (head : List ℕ) (before : List Outcome) (left : Outcome) (source n : ℕ) : Type 0 where
  pub whole : All (IsDurableWhole plan head) before
  pub through : ℕ
  pub durable : AreDurableIn plan head left through
  pub own : length (source_samples plan.owners (history_of before ++ take through left.history) source) ≡ n
