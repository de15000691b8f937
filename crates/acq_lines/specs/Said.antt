-- What the lines of an input say to its source, by the rules of scripts.
use Rattle.std.specs.Prelude.{ℕ, ◌≡◌, ◌+◌, ◌==◌, ◌⊎◌, ◌&&◌, ◌||◌, Bool, true, false, List, [], ◌∷◌, ◌++◌, map, Option, Some, None, is_none, nat_le, slice_index, if◌then◌else◌}
use Rattle.script_line.specs.Line.{line_of}
use Rattle.script_line.specs.Line as line
use Rattle.mdf_layout.specs.Record.{encoded_size}
use Rattle.mdf_layout.specs.declared.sample.Sample.{Sample}
use Rattle.std.specs.List.{slice_index_or}
use Rattle.acq_script.specs.Stage.{sample_of}
use Rattle.acq_run.specs.declared.feed.Fed.{Fed}
use Rattle.acq_run.specs.declared.feed.Fed.TheVariants as fed
use Rattle.acq_lines.specs.Rules.{Rules}
use Rattle.acq_lines.specs.Wants.{is_sample_line}
use Rattle.acq_lines.specs.declared.said.LineFault.{LineFault}
use Rattle.acq_lines.specs.declared.said.LineFault.TheVariants.{Bad, Memory}

-- A sample of a group of this source, whose records are no longer than a block; None, if it is none.
abbrev pub sample_said : Rules → ℕ → Option Sample → Option (Option Fed)
sample_said rules source None = None
sample_said rules source (Some sample) =
    if slice_index rules.owners sample.group == source && nat_le (encoded_size rules.shapes sample) rules.block then Some (Some (fed.Sample sample)) else None

-- the sample of a group whose words are those of a log: a channel of floats has the number, and not its bits
abbrev pub logged_sample : Rules → ℕ → List (List ℕ) → Option Sample
logged_sample rules group words = sample_of rules.shapes (slice_index_or rules.floats group []) group words

abbrev pub line_said : Rules → ℕ → Option line.Line → Option (Option Fed)
line_said rules source (Some line.Passed) = Some None
line_said rules source (Some (line.Sample group words)) = sample_said rules source (logged_sample rules group words)
line_said rules source (Some (line.Flush number)) = if number == source then Some (Some fed.Flush) else None
line_said rules source (Some line.End) = Some (Some fed.End)
line_said rules source _ = None

-- What a line says, which stands without its LF: a sample, a flush, the end, or nothing, if it is empty or a comment. None, if no rule admits it;
-- one that is too long says nothing that can be read.
abbrev pub said_by : Rules → ℕ → Option (List ℕ) → Option (Option Fed)
said_by rules source None = None
said_by rules source (Some text) = line_said rules source (line_of text)

abbrev pub said_in : Rules → ℕ → List (Option (List ℕ)) → List (Option (Option Fed))
said_in rules source lines = map (said_by rules source) lines

-- what the source hands in for it
abbrev pub feds_for : Option (Option Fed) → List Fed
feds_for (Some (Some (fed.Sample sample))) = fed.Sample sample ∷ []
feds_for (Some (Some fed.Flush)) = fed.Flush ∷ []
feds_for _ = []

-- what it hands in for all of these, in order; how many of them are bad; and whether one ends them
abbrev pub feds_in : List (Option (Option Fed)) → List Fed
feds_in [] = []
feds_in (said ∷ all) = feds_for said ++ feds_in all

abbrev pub is_end : Option (Option Fed) → Bool
is_end (Some (Some fed.End)) = true
is_end _ = false

abbrev pub bad_in : List (Option (Option Fed)) → ℕ
bad_in [] = 0
bad_in (said ∷ all) = (if is_none said then 1 else 0) + bad_in all

abbrev pub is_ended : List (Option (Option Fed)) → Bool
is_ended [] = false
is_ended (said ∷ all) = is_end said || is_ended all

-- nothing stands behind an end
abbrev pub EndsLast : List (Option (Option Fed)) → Type 0
EndsLast [] = Unit {0}
EndsLast (said ∷ all) = (is_end said ≡ true → all ≡ []) × EndsLast all

-- These are what was said with more flushes among it, each behind a sample that no flush stands behind yet; whether there is one before the
-- first is said.
abbrev pub AreFlushedMore : Bool → List Fed → List Fed → Type 0
AreFlushedMore pending [] said = said ≡ []
AreFlushedMore pending (fed.Sample sample ∷ feds) said = (later : List Fed) × (said ≡ fed.Sample sample ∷ later) × AreFlushedMore true feds later
AreFlushedMore pending (fed.Flush ∷ feds) said =
    ((later : List Fed) × (said ≡ fed.Flush ∷ later) × AreFlushedMore false feds later) ⊎ ((pending ≡ true) × AreFlushedMore false feds said)
AreFlushedMore pending (fed.End ∷ feds) said = ⊥

-- why a line says nothing: no rule admits it; or memory was wanted, and only for a sample of a group that there is
abbrev pub LineFaultComes : Rules → ℕ → Option (List ℕ) → LineFault → Type 0
LineFaultComes rules source line Bad = said_by rules source line ≡ None
LineFaultComes rules source line Memory = is_sample_line rules line ≡ true
