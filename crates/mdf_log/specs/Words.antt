-- The words that ask for a log.
use Rattle.std.specs.Prelude.{ℕ, ◌≡◌, ◌≤◌, Bool, List, [], ◌∷◌, length, codes, filter}
use Rattle.std.specs.Str.{bytes_eq}
use Rattle.mdf_command.specs.Texts.{line}
use Rattle.mdf_log.specs.declared.words.LogWords.{LogWords}

-- what a log is asked for with: the name of its output, that of the setup, and the word of each input
pub record Request : Type 0 where
  pub output : List ℕ
  pub setup : List ℕ
  pub inputs : List (List ℕ)

-- `OUT SETUP IN..`
abbrev pub words_of : Request → List (List ℕ)
words_of request = request.output ∷ request.setup ∷ request.inputs

-- the word of the standard input
abbrev pub is_standard : List ℕ → Bool
is_standard word = bytes_eq word (codes "-")

-- a setup and 1 to 16 inputs, of which at most one is the standard input
pub record AreRead (names : List (List ℕ)) : Type 0 where
  pub some : 2 ≤ length names
  pub few : length names ≤ 17
  pub once : length (filter is_standard names) ≤ 1

-- the words that ask for it
pub record AsksToLog (words : List (List ℕ)) (request : Request) : Type 0 where
  pub words_are : words ≡ words_of request
  pub read : AreRead (request.setup ∷ request.inputs)

-- other words
abbrev pub AsksNoLog : List (List ℕ) → Type 0
AsksNoLog words = (request : Request) → ¬ AsksToLog words request

abbrev pub request_of : LogWords → Request
request_of words = record { output = words.output.now; setup = words.setup.now; inputs = words.inputs.now }

abbrev pub log_usage_line : List ℕ
log_usage_line = line (codes "usage: mdf4log OUT SETUP IN.." ∷ [])
