-- What is spelled is read back: words, lines, and then the script.
use Rattle.std.proofs.Common.{◌≡◌, ◌∙◌, ap, ℕ, ◌<◌, ◌≤◌, Bool, true, false, cond, Some, List, [], ◌∷◌, ◌++◌, length, refl, arith, tests, rules, append_assoc, All}
use Rattle.std.specs.Prelude.{◌==◌, ◌&&◌, ◌||◌}
use Rattle.std.specs.List.{list_all}
use Rattle.std.specs.Char.{is_ascii_digit, is_ascii_graphic}
use Rattle.std.proofs.lemmas.Bool.{ne_eqb}
use Rattle.std.proofs.lemmas.List.Elements.{All-nil, All-cons, All-head, All-tail, All-append, All-weaker}
use Rattle.std.proofs.lemmas.List.Splits.{slice_split_at, slice_split_none}
use Rattle.script_line.specs.Text.{lines_of, words_of, is_name}
use Rattle.script_line.specs.Line as said
use Rattle.script_line.specs.Line.{line_of, worded_plan, worded_list, is_passed}
use Rattle.acq_script.specs.Spelled.{line_with, text_with}

-- a byte of a word
abbrev pub IsByte : ℕ → Type 0
IsByte b = (33 ≤ b) × (b ≤ 126)

abbrev pub AreWords : List (List ℕ) → Type 0
AreWords words = All (All IsByte) words

-- no byte of a text is this separator
abbrev pub Lacks : ℕ → List ℕ → Type 0
Lacks separator text = All (λ b. (b == separator) ≡ false) text

lacks : (separator : ℕ) → separator < 33 → (word : List ℕ) → All IsByte word → Lacks separator word
lacks separator low word bytes = All-weaker IsByte (λ b. (b == separator) ≡ false) (λ b is. ne_eqb b separator (λ e. absurd (omega (arith, e, is.0)))) word bytes

-- words with blanks between them are cut into just these
words_back : (word : List ℕ) (words : List (List ℕ)) → AreWords (word ∷ words) → words_of (line_with (word ∷ words)) ≡ word ∷ words
words_back word [] are = slice_split_none (λ b. b == 32) word (lacks 32 (omega arith) word (All-head (All IsByte) word [] are))
words_back word (next ∷ words) are =
    slice_split_at (λ b. b == 32) word 32 (line_with (next ∷ words)) (lacks 32 (omega arith) word (All-head (All IsByte) word (next ∷ words) are)) refl
    ∙ ap (λ parts. word ∷ parts) (words_back next words (All-tail (All IsByte) word (next ∷ words) are))

lines_lack : (words : List (List ℕ)) → AreWords words → Lacks 10 (line_with words)
lines_lack [] are = All-nil (λ b. (b == 10) ≡ false)
lines_lack (word ∷ []) are = lacks 10 (omega arith) word (All-head (All IsByte) word [] are)
lines_lack (word ∷ next ∷ words) are =
    All-append (λ b. (b == 10) ≡ false) word (32 ∷ line_with (next ∷ words))
    (lacks 10 (omega arith) word (All-head (All IsByte) word (next ∷ words) are))
    (All-cons (λ b. (b == 10) ≡ false) 32 (line_with (next ∷ words)) refl (lines_lack (next ∷ words) (All-tail (All IsByte) word (next ∷ words) are)))

-- the first line of a text
pub line_back : (words : List (List ℕ)) (lines : List (List (List ℕ))) → AreWords words → lines_of (text_with (words ∷ lines)) ≡ line_with words ∷ lines_of (text_with lines)
line_back words lines are =
    ap lines_of (append_assoc (line_with words) (10 ∷ []) (text_with lines))
    ∙ slice_split_at (λ b. b == 10) (line_with words) 10 (text_with lines) (lines_lack words are) refl

-- a text that begins with no `;` is not passed over
not_passed : (first : ℕ) (rest : List ℕ) → (first == 59) ≡ false → is_passed (first ∷ rest) ≡ false
not_passed first rest e = ap (λ b. b || (first == 59)) (ne_eqb (length (first ∷ rest)) 0 (λ none. absurd (omega (arith, none)))) ∙ e

-- what the words of a line say, which begin with no `;`
pub line_said : (first : ℕ) (word : List ℕ) (words : List (List ℕ)) → (first == 59) ≡ false → AreWords ((first ∷ word) ∷ words) → line_of (line_with ((first ∷ word) ∷ words)) ≡ worded_plan (first ∷ word) words
unfolding line_of
line_said first word [] e are =
    ap (λ b. cond b (Some said.Passed) (worded_list (words_of (first ∷ word)))) (not_passed first word e) ∙ ap worded_list (words_back (first ∷ word) [] are)
line_said first word (next ∷ words) e are =
    ap (λ b. cond b (Some said.Passed) (worded_list (words_of (line_with ((first ∷ word) ∷ next ∷ words))))) (not_passed first (word ++ 32 ∷ line_with (next ∷ words)) e)
    ∙ ap worded_list (words_back (first ∷ word) (next ∷ words) are)

-- one word of a name, one of a number
is_byte : (b : ℕ) → is_ascii_graphic b ≡ true → IsByte b
is_byte b e = search (rules, tests)

is_digit : (b : ℕ) → is_ascii_digit b ≡ true → IsByte b
is_digit b e = search (rules, tests)

both : (a b : Bool) → (a && b) ≡ true → (a ≡ true) × (b ≡ true)
both true b e = (refl, e)
both false b e = absurd (cc)

bytes_of : (test : ℕ → Bool) → ((b : ℕ) → test b ≡ true → IsByte b) → (word : List ℕ) → list_all test word ≡ true → All IsByte word
bytes_of test each [] e = All-nil IsByte
bytes_of test each (b ∷ word) e =
    let parts : (test b ≡ true) × (list_all test word ≡ true) = both (test b) (list_all test word) e in
    All-cons IsByte b word (each b parts.0) (bytes_of test each word parts.1)

pub name_bytes : (name : List ℕ) → is_name name ≡ true → All IsByte name
name_bytes name e =
    bytes_of is_ascii_graphic is_byte name (both _ (list_all is_ascii_graphic name) e).1

pub literal : (word : List ℕ) → list_all is_ascii_graphic word ≡ true → All IsByte word
literal word e = bytes_of is_ascii_graphic is_byte word e

pub digit_bytes : (word : List ℕ) → list_all is_ascii_digit word ≡ true → All IsByte word
digit_bytes word e = bytes_of is_ascii_digit is_digit word e
