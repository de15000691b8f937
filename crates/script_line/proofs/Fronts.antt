-- Numbers in front of a text.
use Rattle.std.proofs.Common.{◌≡◌, ◌∙◌, sym, ap, ℕ, suc, ◌+◌, ◌-◌, ◌^◌, ◌<◌, ◌≤◌, Bool, true, false, cond, Some, None, List, [], ◌∷◌, length, get_or, take, drop, refl, arith}
use Rattle.std.specs.Prelude.{◌==◌, ◌&&◌, ◌||◌, nat_lt, is_some, codes}
use Rattle.std.specs.Option.{option_map, option_and_then}
use Rattle.std.specs.List.{list_all, onto_first}
use Rattle.std.specs.Char.{is_ascii_digit}
use Rattle.std.specs.Str.{bytes_eq}
use Rattle.std.specs.Str.Parse.{digits_value}
use Rattle.std.proofs.lemmas.Bool.{lt-ltb, ne_eqb, eq-eqb}
use Rattle.std.proofs.lemmas.List.{length-take-le, get_or-take, take_all}
use Rattle.std.proofs.lemmas.Str.Parse.{digits_value_short}
use Rattle.mdf_layout.specs.declared.field.FieldKind.TheVariants.{Unsigned, Signed}
use Rattle.mdf_layout.specs.declared.field.FieldRow.{FieldRow}
use Rattle.mdf_layout.specs.declared.sample.Value.{Value}
use Rattle.mdf_layout.specs.declared.sample.Value.TheVariants as value
use Rattle.script_line.specs.Text.{parts_of, words_of, begins_with, is_marked, Begins}
use Rattle.script_line.specs.Number.{number_of}
use Rattle.script_line.specs.Value.{held_in, unsigned_value, negative_in, positive_in, signed_value, value_as, value_of, entry_with, entry_of}
use Rattle.script_line.specs.Line as said
use Rattle.script_line.specs.Line.{line_of, is_passed, worded, worded_plan, worded_list}
use Rattle.script_line.proofs.Parts.{first_part, only_part}
use Rattle.script_line.proofs.Numerals.{IsDigits, digits_of_number, numeral_of, digits_model, its_value, small_enough, digit_at}

-- digits of which there are at most 18 are a number below 10 ^ 18
pub few_digits : (text : List ℕ) (i value : ℕ) → i ≤ 18 → i ≤ length text → list_all is_ascii_digit (take i text) ≡ true → value ≡ digits_value 10 (take i text) → value < 10 ^ 18
few_digits text i value few within digits is =
    let less = digits_value_short digits_model (take i text) 18 digits (omega (arith, few, length-take-le i text within)) in
    omega (arith, less, is)

-- the digits in front of a text are a word, which is their number
pub front_number : (text : List ℕ) (i value : ℕ) → 0 < i → i ≤ length text → list_all is_ascii_digit (take i text) ≡ true → value ≡ digits_value 10 (take i text) → value < 2 ^ 64 → (get_or text 0 0 ≡ 48 → i ≡ 1) → number_of (take i text) ≡ Some value
front_number text i value some within digits is small front =
    let long : length (take i text) ≡ i = length-take-le i text within in
    its_value (take i text) (numeral_of (take i text) (record {
      some = omega (arith, some, long);
      front = λ zero. long ∙ front (sym (get_or-take i text 0 0 some) ∙ zero);
      all = digits;
    }))
    ∙ small_enough (take i text) value is small

-- none of them is a blank
no_blank : (text : List ℕ) (i k : ℕ) → i ≤ length text → list_all is_ascii_digit (take i text) ≡ true → k < i → (get_or text k 0 == 32) ≡ false
no_blank text i k within digits below =
    let digit = digit_at (take i text) k digits (omega (arith, below, length-take-le i text within)) in
    ne_eqb (get_or text k 0) 32 (λ is. absurd (omega (arith, is, digit.0, get_or-take i text k 0 below)))

-- they are all of the text, or a blank stands behind them
pub whole_number : (text : List ℕ) (i value : ℕ) → 0 < i → i ≡ length text → list_all is_ascii_digit (take i text) ≡ true → value ≡ digits_value 10 (take i text) → value < 2 ^ 64 → (get_or text 0 0 ≡ 48 → i ≡ 1) → Begins number_of text value []
whole_number text i value some all digits is small front =
    let whole : take i text ≡ text = take_all i text (omega (arith, all)) in record {
      word = text;
      first = only_part 32 text (λ k below. no_blank text i k (omega (arith, all)) digits (omega (arith, below, all)));
      is = ap number_of (sym whole) ∙ front_number text i value some (omega (arith, all)) digits is small front;
    }

pub blank_number : (text : List ℕ) (i value : ℕ) → 0 < i → i < length text → get_or text i 0 ≡ 32 → list_all is_ascii_digit (take i text) ≡ true → value ≡ digits_value 10 (take i text) → value < 2 ^ 64 → (get_or text 0 0 ≡ 48 → i ≡ 1) → Begins number_of text value (parts_of 32 (take (length text - (i + 1)) (drop (i + 1) text)))
blank_number text i value some within blank digits is small front = record {
  word = take i text;
  first = first_part 32 text i within (λ k below. no_blank text i k (omega (arith, within)) digits below) (eq-eqb (get_or text i 0) 32 blank);
  is = front_number text i value some (omega (arith, within)) digits is small front;
}

-- a number's last byte is no `?`
no_mark : (a b : Bool) → b ≡ false → (a && b) ≡ false
no_mark true b e = e
no_mark false b e = refl

pub not_marked : (word : List ℕ) → list_all is_ascii_digit word ≡ true → is_marked word ≡ false
not_marked [] e = refl
not_marked (first ∷ word) e =
    let k = length (first ∷ word) - 1 in
    let digit = digit_at (first ∷ word) k e (omega arith) in
    no_mark (nat_lt 0 (length (first ∷ word))) (get_or (first ∷ word) k 0 == 63) (ne_eqb (get_or (first ∷ word) k 0) 63 (λ is. absurd (omega (arith, is, digit.1))))

-- the entry that a number is for a channel of unsigned numbers
pub number_entry_is : (row : FieldRow) (word : List ℕ) (n : ℕ) → row.kind ≡ Unsigned → n < 2 ^ row.bits → number_of word ≡ Some n → entry_of None row word ≡ Some (record { value = value.Unsigned n; valid = true })
unfolding entry_of value_of unsigned_value
number_entry_is row word n kind held is =
    ap (λ b. cond b (cond (is_some row.inval) (option_map (entry_with false) (value_of row (take (length word - 1) word))) None) (option_map (entry_with true) (value_of row word))) (not_marked word (digits_of_number word n is).all)
    ∙ ap (λ k. option_map (entry_with true) (value_as k row.bits word)) kind
    ∙ ap (λ o. option_map (entry_with true) (option_and_then (held_in row.bits) o)) is
    ∙ ap (λ b. option_map (entry_with true) (cond b (Some (value.Unsigned n)) None)) (lt-ltb n (2 ^ row.bits) held)

pub begins_entry : (row : FieldRow) (text : List ℕ) (n : ℕ) (words : List (List ℕ)) → row.kind ≡ Unsigned → n < 2 ^ row.bits → Begins number_of text n words → Begins (entry_of None row) text (record { value = value.Unsigned n; valid = true }) words
begins_entry row text n words kind held begins = record {
  word = begins.word;
  first = begins.first;
  is = number_entry_is row begins.word n kind held begins.is;
}

-- and the entry that one is, with or without a `-`, for a channel of signed numbers
no_sign : (word : List ℕ) → IsDigits word → begins_with 45 word ≡ false
no_sign word digits =
    let digit = digit_at word 0 digits.all digits.some in
    no_mark (nat_lt 0 (length word)) (get_or word 0 0 == 45) (ne_eqb (get_or word 0 0) 45 (λ is. absurd (omega (arith, is, digit.0))))

positive_entry_is : (row : FieldRow) (word : List ℕ) (n : ℕ) (v : Value) → row.kind ≡ Signed → positive_in row.bits n ≡ Some v → number_of word ≡ Some n → entry_of None row word ≡ Some (record { value = v; valid = true })
unfolding entry_of value_of signed_value
positive_entry_is row word n v kind is number =
    let digits = digits_of_number word n number in
    ap (λ b. cond b (cond (is_some row.inval) (option_map (entry_with false) (value_of row (take (length word - 1) word))) None) (option_map (entry_with true) (value_of row word))) (not_marked word digits.all)
    ∙ ap (λ k. option_map (entry_with true) (value_as k row.bits word)) kind
    ∙ ap (λ b. option_map (entry_with true) (cond b (option_and_then (negative_in row.bits) (number_of (drop 1 word))) (option_and_then (positive_in row.bits) (number_of word)))) (no_sign word digits)
    ∙ ap (λ o. option_map (entry_with true) (option_and_then (positive_in row.bits) o)) number
    ∙ ap (option_map (entry_with true)) is

pub begins_positive : (row : FieldRow) (text : List ℕ) (n : ℕ) (v : Value) (words : List (List ℕ)) → row.kind ≡ Signed → positive_in row.bits n ≡ Some v → Begins number_of text n words → Begins (entry_of None row) text (record { value = v; valid = true }) words
begins_positive row text n v words kind is begins = record {
  word = begins.word;
  first = begins.first;
  is = positive_entry_is row begins.word n v kind is begins.is;
}

sign_not_marked : (word : List ℕ) → IsDigits word → is_marked (45 ∷ word) ≡ false
sign_not_marked [] digits = absurd (omega (arith, digits.some))
sign_not_marked (first ∷ word) digits =
    let k = length (first ∷ word) - 1 in
    let digit = digit_at (first ∷ word) k digits.all (omega arith) in
    let at : length (45 ∷ first ∷ word) - 1 ≡ suc k = omega arith in
    let last : get_or (45 ∷ first ∷ word) (length (45 ∷ first ∷ word) - 1) 0 ≡ get_or (first ∷ word) k 0 = ap (λ i. get_or (45 ∷ first ∷ word) i 0) at in
    no_mark (nat_lt 0 (length (45 ∷ first ∷ word))) (get_or (45 ∷ first ∷ word) (length (45 ∷ first ∷ word) - 1) 0 == 63)
    (ne_eqb (get_or (45 ∷ first ∷ word) (length (45 ∷ first ∷ word) - 1) 0) 63 (λ is. absurd (omega (arith, is, last, digit.1))))

negative_entry_is : (row : FieldRow) (word : List ℕ) (n : ℕ) (v : Value) → row.kind ≡ Signed → negative_in row.bits n ≡ Some v → number_of word ≡ Some n → entry_of None row (45 ∷ word) ≡ Some (record { value = v; valid = true })
unfolding entry_of value_of signed_value
negative_entry_is row word n v kind is number =
    let digits = digits_of_number word n number in
    ap (λ b. cond b (cond (is_some row.inval) (option_map (entry_with false) (value_of row (take (length (45 ∷ word) - 1) (45 ∷ word)))) None) (option_map (entry_with true) (value_of row (45 ∷ word)))) (sign_not_marked word digits)
    ∙ ap (λ k. option_map (entry_with true) (value_as k row.bits (45 ∷ word))) kind
    ∙ ap (λ b. option_map (entry_with true) (cond (b && true) (option_and_then (negative_in row.bits) (number_of word)) (option_and_then (positive_in row.bits) (number_of (45 ∷ word))))) (lt-ltb 0 (length (45 ∷ word)) (omega arith))
    ∙ ap (λ o. option_map (entry_with true) (option_and_then (negative_in row.bits) o)) number
    ∙ ap (option_map (entry_with true)) is

pub begins_negative : (row : FieldRow) (text : List ℕ) (n : ℕ) (v : Value) (words : List (List ℕ)) → row.kind ≡ Signed → get_or text 0 0 ≡ 45 → negative_in row.bits n ≡ Some v → Begins number_of (take (length text - 1) (drop 1 text)) n words → Begins (entry_of None row) text (record { value = v; valid = true }) words
begins_negative row [] n v words kind sign is begins = absurd (omega (arith, sign))
begins_negative row (b ∷ text) n v words kind sign is begins =
    let whole : take (length (b ∷ text) - 1) text ≡ text = take_all _ text (omega arith) in
    let first : words_of text ≡ begins.word ∷ words = ap words_of (sym whole) ∙ begins.first in
    record {
      word = 45 ∷ begins.word;
      first = ap (λ c. words_of (c ∷ text)) sign ∙ ap (onto_first 45) first;
      is = negative_entry_is row begins.word n v kind is begins.is;
    }

-- the first byte of a text is that of its first word
first_byte : (b : ℕ) (parts : List (List ℕ)) (word : List ℕ) (words : List (List ℕ)) → onto_first b parts ≡ word ∷ words → get_or word 0 0 ≡ b
first_byte b [] word words e = let is : b ∷ [] ≡ word = cc in ap (λ w. get_or w 0 0) (sym is)
first_byte b (part ∷ parts) word words e = let is : b ∷ part ≡ word = cc in ap (λ w. get_or w 0 0) (sym is)

starts : (b : ℕ) (test : Bool) (parts : List (List ℕ)) (word : List ℕ) (words : List (List ℕ)) → 0 < length word → cond test ([] ∷ parts) (onto_first b parts) ≡ word ∷ words → get_or word 0 0 ≡ b
starts b true parts word words some e =
    let is : [] ≡ word = cc in
    absurd (omega (arith, some, ap length is))
starts b false parts word words some e = first_byte b parts word words e

-- a text whose first word is a number is neither empty nor a comment
no_comment : (text word : List ℕ) (words : List (List ℕ)) → 0 < length word → 48 ≤ get_or word 0 0 → get_or word 0 0 ≤ 57 → words_of text ≡ word ∷ words → is_passed text ≡ false
no_comment [] word words some low high e =
    let is : [] ≡ word = cc in
    absurd (omega (arith, some, ap length is))
no_comment (b ∷ text) word words some low high e =
    let first : get_or word 0 0 ≡ b = starts b (b == 32) (words_of text) word words some e in
    ap (λ c. c || (b == 59)) (ne_eqb (length (b ∷ text)) 0 (λ none. absurd (omega (arith, none))))
    ∙ ne_eqb b 59 (λ is. absurd (omega (arith, is, first, high)))

-- a word that begins with a digit is no other word of a line
other_word : (b first : ℕ) (word letters : List ℕ) → (b ≡ first → ⊥) → bytes_eq (b ∷ word) (first ∷ letters) ≡ false
other_word b first word letters other = ap (λ t. t && bytes_eq word letters) (ne_eqb b first (λ is. absurd (other is)))

otherwise : {A : Type 0} (test : Bool) (x y : A) → test ≡ false → cond test x y ≡ y
otherwise test x y e = rw e

number_worded : (b : ℕ) (word : List ℕ) (words : List (List ℕ)) (n : ℕ) → 48 ≤ b → b ≤ 57 → number_of (b ∷ word) ≡ Some n → worded_plan (b ∷ word) words ≡ Some (said.Sample n words)
unfolding worded_plan worded
number_worded b word words n low high is =
    otherwise (bytes_eq (b ∷ word) (codes "block")) _ _ (other_word b 98 word (codes "lock") (λ e. omega (arith, e, high)))
    ∙ otherwise (bytes_eq (b ∷ word) (codes "session")) _ _ (other_word b 115 word (codes "ession") (λ e. omega (arith, e, high)))
    ∙ otherwise (bytes_eq (b ∷ word) (codes "form")) _ _ (other_word b 102 word (codes "orm") (λ e. omega (arith, e, high)))
    ∙ otherwise (bytes_eq (b ∷ word) (codes "live")) _ _ (other_word b 108 word (codes "ive") (λ e. omega (arith, e, high)))
    ∙ otherwise (bytes_eq (b ∷ word) (codes "group")) _ _ (other_word b 103 word (codes "roup") (λ e. omega (arith, e, high)))
    ∙ otherwise (bytes_eq (b ∷ word) (codes "channel")) _ _ (other_word b 99 word (codes "hannel") (λ e. omega (arith, e, high)))
    ∙ otherwise (bytes_eq (b ∷ word) (codes "unit")) _ _ (other_word b 117 word (codes "nit") (λ e. omega (arith, e, high)))
    ∙ otherwise (bytes_eq (b ∷ word) (codes "begin")) _ _ (other_word b 98 word (codes "egin") (λ e. omega (arith, e, high)))
    ∙ otherwise (bytes_eq (b ∷ word) (codes "!")) _ _ (other_word b 33 word [] (λ e. omega (arith, e, low)))
    ∙ otherwise (bytes_eq (b ∷ word) (codes "end")) _ _ (other_word b 101 word (codes "nd") (λ e. omega (arith, e, high)))
    ∙ ap (option_map (λ group. said.Sample group words)) is

worded_sample : (word : List ℕ) (words : List (List ℕ)) (n : ℕ) → 0 < length word → 48 ≤ get_or word 0 0 → get_or word 0 0 ≤ 57 → number_of word ≡ Some n → worded_plan word words ≡ Some (said.Sample n words)
worded_sample [] words n some low high is = absurd (omega (arith, some))
worded_sample (b ∷ word) words n some low high is = number_worded b word words n low high is

-- a line whose first word is a number is a sample
pub line_is_sample : (text : List ℕ) (n : ℕ) (words : List (List ℕ)) → Begins number_of text n words → line_of text ≡ Some (said.Sample n words)
unfolding line_of
line_is_sample text n words begins =
    let digits = digits_of_number begins.word n begins.is in
    let digit = digit_at begins.word 0 digits.all digits.some in
    otherwise (is_passed text) (Some said.Passed) (worded_list (words_of text)) (no_comment text begins.word words digits.some digit.0 digit.1 begins.first)
    ∙ ap worded_list begins.first
    ∙ worded_sample begins.word words n digits.some digit.0 digit.1 begins.is
