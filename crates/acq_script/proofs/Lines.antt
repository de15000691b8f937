-- A script is read line by line as what its lines make of each other.
use Rattle.std.proofs.Common.{◌≡◌, ◌∙◌, ℕ, ◌+◌, Bool, true, false, cond, List, [], ◌∷◌, ◌++◌, Option, Some, None, Ok, refl, ap}
use Rattle.std.specs.Prelude.{◌==◌}
use Rattle.std.specs.Option.{ok_or, option_and_then}
use Rattle.std.specs.List.{slice_split, onto_first}
use Rattle.std.proofs.lemmas.List.Splits.{slice_split_none, slice_split-cons_yes, slice_split-cons_no}
use Rattle.std.proofs.lemmas.List.Elements.{All-nil}
use Rattle.script_line.specs.Text.{is_end, words_of}
use Rattle.script_line.specs.Line as said
use Rattle.script_line.specs.Line.{Line, is_passed, line_of, worded_list, worded_plan}
use Rattle.acq_script.specs.Stage.{first_stage, step}
use Rattle.acq_script.specs.Script.{ended, read_from, script_of}
use Rattle.acq_script.specs.declared.script.Script.{Script}
use Rattle.acq_script.specs.declared.stage.Stage.{Stage}
use Rattle.acq_script.specs.declared.stage.Stage.TheVariants.{Ended}
use Rattle.acq_script.proofs.Steps.{at_end, taken}

-- the parts that a separator cuts, byte by byte
unfoldable pub parts : ℕ → List ℕ → List (List ℕ)
parts separator [] = [] ∷ []
parts separator (b ∷ text) = cond (b == separator) ([] ∷ parts separator text) (onto_first b (parts separator text))

parts_are : (separator : ℕ) (text : List ℕ) → slice_split (λ b. b == separator) text ≡ parts separator text
unfolding parts
parts_are separator [] = slice_split_none (λ b. b == separator) [] (All-nil (λ b. (b == separator) ≡ false))
parts_are separator (b ∷ text) = by_test (b == separator) refl (parts_are separator text) where
  by_test : (t : Bool) → (b == separator) ≡ t → slice_split (λ b. b == separator) text ≡ parts separator text
      → slice_split (λ b. b == separator) (b ∷ text) ≡ cond t ([] ∷ parts separator text) (onto_first b (parts separator text))
  by_test true is rest = slice_split-cons_yes (λ b. b == separator) b text is ∙ ap (λ ps. [] ∷ ps) rest
  by_test false is rest = slice_split-cons_no (λ b. b == separator) b text is ∙ ap (onto_first b) rest

-- what a line of these words says
pub says : (text word : List ℕ) (words : List (List ℕ)) → is_passed text ≡ false → parts 32 text ≡ word ∷ words → line_of text ≡ worded_plan word words
unfolding line_of
says text word words some cut =
    ap (λ b. cond b (Some said.Passed) (worded_list (words_of text))) some ∙ ap worded_list (parts_are 32 text ∙ cut)

-- what lines say, and what they make of a stage
unfoldable pub AreSaid : List (List ℕ) → List Line → Type 0
AreSaid [] [] = Unit {0}
AreSaid (text ∷ texts) (line ∷ lines) = (line_of text ≡ Some line) × AreSaid texts lines
AreSaid _ _ = ⊥

unfoldable pub after_all : Stage → List Line → Option Stage
after_all stage [] = Some stage
after_all stage (line ∷ lines) = option_and_then (λ changed. after_all changed lines) (step stage line)

-- behind lines stands what is behind the last LF
some_left : (texts : List (List ℕ)) (rest : List ℕ) → is_end (texts ++ rest ∷ []) ≡ false
some_left [] rest = refl
some_left (text ∷ texts) rest = refl

all_read : (texts : List (List ℕ)) (lines : List Line) (stage : Stage) (number : ℕ) (script : Script) → AreSaid texts lines
    → after_all stage lines ≡ Some (Ended script) → read_from stage number (texts ++ [] ∷ []) ≡ Ok script
unfolding AreSaid after_all
all_read [] [] stage number script said ends = at_end stage number [] ∙ ended_is stage ends where
  ended_is : (stage : Stage) → Some stage ≡ Some (Ended script) → ended stage number [] ≡ Ok script
  ended_is stage ends = ap (λ s. ended s number []) (same ends) where
    same : Some stage ≡ Some (Ended script) → stage ≡ Ended script
    same ends = cc
all_read [] (_ ∷ _) stage number script said ends = absurd said
all_read (text ∷ texts) [] stage number script said ends = absurd said
all_read (text ∷ texts) (line ∷ lines) stage number script said ends =
    by_step (step stage line) refl ends (λ changed ends. all_read texts lines changed (number + 1) script said.1 ends) where
      by_step : (found : Option Stage) → step stage line ≡ found → option_and_then (λ changed. after_all changed lines) found ≡ Some (Ended script)
          → ((changed : Stage) → after_all changed lines ≡ Some (Ended script) → read_from changed (number + 1) (texts ++ [] ∷ []) ≡ Ok script)
          → read_from stage number (text ∷ texts ++ [] ∷ []) ≡ Ok script
      by_step None is ends follow = absurd (cc)
      by_step (Some changed) is ends follow =
          taken stage number text (texts ++ [] ∷ []) changed (some_left texts [])
          (ap (λ o. ok_or (option_and_then (step stage) o) number) said.0 ∙ ap (λ o. ok_or o number) is)
          ∙ follow changed ends

-- from the beginning these lines make this script
abbrev pub Makes : List Line → Script → Type 0
Makes lines script = after_all first_stage lines ≡ Some (Ended script)

-- a text of lines that say these is read as the script that they make
pub text_read : (text : List ℕ) (texts : List (List ℕ)) (lines : List Line) (script : Script) → parts 10 text ≡ texts ++ [] ∷ [] → AreSaid texts lines
    → Makes lines script → script_of text ≡ Ok script
text_read text texts lines script cut said makes =
    ap (read_from first_stage 1) (parts_are 10 text ∙ cut) ∙ all_read texts lines first_stage 1 script said makes
