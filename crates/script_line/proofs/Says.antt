-- What holds of the types and the lines of a script.
use Rattle.std.proofs.Common.{◌≡◌, sym, subst, ℕ, ◌*◌, ◌≤◌, ◌⊎◌, inl, inr, Bool, true, false, cond, Option, Some, None, List, [], ◌∷◌, refl, arith}
use Rattle.std.specs.Prelude.{nat_le, ◌&&◌, not, codes, IfSome}
use Rattle.std.specs.Option.{option_map, option_and_then}
use Rattle.std.specs.Str.{bytes_eq}
use Rattle.std.proofs.lemmas.Bool.{leb-true, and_parts, false≢true}
use Rattle.script_line.specs.Text.{words_of, is_end, is_name}
use Rattle.script_line.specs.Number.{number_of}
use Rattle.script_line.specs.Kind.{packed, at_byte, long, behind, up_to, count_behind, or_else, number_type, named_type, type_of, is_number, IsType}
use Rattle.script_line.specs.Line as said
use Rattle.script_line.specs.Line.{is_passed, IsSaid, group_of, marks_of, form_with, channel_with, channel_of, unit_of, one_number, block_of, session_of, form_of, flush_of, alone, worded, worded_plan, worded_list, line_of}
use Rattle.script_line.specs.declared.kind.ValueType.{ValueType}
use Rattle.script_line.specs.declared.line.Marks.{Marks}

either : (a b : Option ValueType) → IfSome a IsType → IfSome b IsType → IfSome (or_else a b) IsType
either None b one two = two
either (Some kind) b one two = one

within : (make : ℕ → ValueType) (most n : ℕ) (b : Bool) → (nat_le 1 n && nat_le n most) ≡ b → ((n : ℕ) → 1 ≤ n → n ≤ most → IsType (make n))
    → IfSome (option_map make (cond b (Some n) None)) IsType
within make most n true is each =
    let both = and_parts (nat_le 1 n) (nat_le n most) is in each n (leb-true _ _ both.0) (leb-true _ _ both.1)
within make most n false is each = tt

counted : (make : ℕ → ValueType) (most : ℕ) (o : Option ℕ) → ((n : ℕ) → 1 ≤ n → n ≤ most → IsType (make n)) → IfSome (option_map make (option_and_then (up_to most) o)) IsType
counted make most None each = tt
counted make most (Some n) each = within make most n (nat_le 1 n && nat_le n most) refl each

number_packed : (t n : ℕ) → (t ≡ 0) ⊎ (t ≡ 2) → t ≤ 2 → 1 ≤ n → n ≤ 64 → IsType (packed t n)
number_packed t n little low some few = record {
  some = some;
  few = omega (arith, few);
  data_type = omega (arith, low);
  number = λ _. few;
  whole = λ wrong. absurd (omega (arith, low, wrong));
  long = λ wrong. absurd (false≢true wrong);
  little = λ _. little;
}

number_at_byte : (t n : ℕ) → t ≤ 5 → 1 ≤ n → n ≤ 64 → IsType (at_byte t n)
number_at_byte t n low some few = record {
  some = some;
  few = omega (arith, few);
  data_type = omega (arith, low);
  number = λ _. few;
  whole = λ wrong. absurd (omega (arith, low, wrong));
  long = λ wrong. absurd (false≢true wrong);
  little = λ wrong. absurd (false≢true wrong);
}

bytes_number : (t n : ℕ) → 6 ≤ t → (t ≤ 5) ⊎ (false ≡ true) → 8 * n ≤ 64
bytes_number t n high (inl low) = absurd (omega (arith, high, low))
bytes_number t n high (inr wrong) = absurd (false≢true wrong)

bytes_at : (t n : ℕ) → 6 ≤ t → t ≤ 10 → 1 ≤ n → n ≤ 255 → IsType (at_byte t (8 * n))
bytes_at t n high low some few = record {
  some = omega (arith, some);
  few = omega (arith, few);
  data_type = low;
  number = bytes_number t n high;
  whole = λ _. (omega arith, refl);
  long = λ wrong. absurd (false≢true wrong);
  little = λ wrong. absurd (false≢true wrong);
}

long_is : (t : ℕ) → 6 ≤ t → t ≤ 10 → IsType (long t)
long_is t high low = record {
  some = omega arith;
  few = omega arith;
  data_type = low;
  number = λ _. omega arith;
  whole = λ _. (omega arith, refl);
  long = λ _. (refl, refl);
  little = λ wrong. absurd (false≢true wrong);
}

if_both : {A : Type 0} (P : A → Type 0) (b : Bool) (x y : A) → P x → P y → P (cond b x y)
if_both P true x y first second = first
if_both P false x y first second = second

-- a type of the number behind letters
abbrev counted_in : (ℕ → ValueType) → List ℕ → ℕ → List ℕ → Option ValueType
counted_in make letters most word = option_map make (count_behind letters most word)

counted_type : (make : ℕ → ValueType) (letters : List ℕ) (most : ℕ) (word : List ℕ) → ((n : ℕ) → 1 ≤ n → n ≤ most → IsType (make n)) → IfSome (counted_in make letters most word) IsType
unfolding count_behind
counted_type make letters most word each = counted make most (option_and_then number_of (behind letters word)) each

number_types : (word : List ℕ) → IfSome (number_type word) IsType
unfolding number_type
number_types word =
    let u = counted_in (packed 0) (codes "u") 64 word in
    let s = counted_in (packed 2) (codes "s") 64 word in
    let ub = counted_in (at_byte 1) (codes "ub") 64 word in
    let sb = counted_in (at_byte 3) (codes "sb") 64 word in
    either u (or_else s (or_else ub sb)) (counted_type (packed 0) (codes "u") 64 word (λ n some few. number_packed 0 n (inl refl) (omega arith) some few))
    (either s (or_else ub sb) (counted_type (packed 2) (codes "s") 64 word (λ n some few. number_packed 2 n (inr refl) (omega arith) some few))
    (either ub sb (counted_type (at_byte 1) (codes "ub") 64 word (λ n some few. number_at_byte 1 n (omega arith) some few))
    (counted_type (at_byte 3) (codes "sb") 64 word (λ n some few. number_at_byte 3 n (omega arith) some few))))

abbrev bytes_type : ℕ → ℕ → ValueType
bytes_type t n = at_byte t (8 * n)

named_types : (word : List ℕ) → IfSome (named_type word) IsType
unfolding named_type
named_types word =
    let bytes = counted_in (bytes_type 10) (codes "bytes") 255 word in
    let text = counted_in (bytes_type 7) (codes "text") 255 word in
    if_both (λ o. IfSome o IsType) (bytes_eq word (codes "f32")) (Some (at_byte 4 32)) _ (number_at_byte 4 32 (omega arith) (omega arith) (omega arith))
    (if_both (λ o. IfSome o IsType) (bytes_eq word (codes "f64")) (Some (at_byte 4 64)) _ (number_at_byte 4 64 (omega arith) (omega arith) (omega arith))
    (if_both (λ o. IfSome o IsType) (bytes_eq word (codes "var")) (Some (long 10)) _ (long_is 10 (omega arith) (omega arith))
    (if_both (λ o. IfSome o IsType) (bytes_eq word (codes "vartext")) (Some (long 7)) (or_else bytes text) (long_is 7 (omega arith) (omega arith))
    (either bytes text (counted_type (bytes_type 10) (codes "bytes") 255 word (λ n some few. bytes_at 10 n (omega arith) (omega arith) some few))
    (counted_type (bytes_type 7) (codes "text") 255 word (λ n some few. bytes_at 7 n (omega arith) (omega arith) some few))))))

types : (word : List ℕ) → IfSome (type_of word) IsType
unfolding type_of
types word = either (number_type word) (named_type word) (number_types word) (named_types word)

-- what is said only where a test is true
if_true : {A : Type 0} (P : A → Type 0) (b : Bool) (o : Option A) → (b ≡ true → IfSome o P) → IfSome (cond b o None) P
if_true P true o holds = holds refl
if_true P false o holds = tt

numbers : (m n : Bool) → (m && not n) ≡ false → m ≡ true → n ≡ true
numbers true true is m = refl
numbers true false is m = absurd (false≢true (sym is))
numbers false n is m = absurd (false≢true m)

form_said : (name : List ℕ) (kind : ValueType) (marks : Marks) (b : Bool) → is_name name ≡ true → IsType kind → (marks.master && not (is_number kind)) ≡ b
    → IfSome (cond b None (Some (said.Channel name (form_with kind marks)))) IsSaid
form_said name kind marks true ok is test = tt
form_said name kind marks false ok is test = (ok, record { kind = is; master = λ m. numbers marks.master (is_number kind) test m })

channel_said : (name : List ℕ) (o : Option ValueType) (m : Option Marks) → is_name name ≡ true → IfSome o IsType
    → IfSome (option_and_then (λ k. option_and_then (channel_with name k) m) o) IsSaid
channel_said name None m ok is = tt
channel_said name (Some kind) None ok is = tt
channel_said name (Some kind) (Some marks) ok is = form_said name kind marks (marks.master && not (is_number kind)) ok is refl

channels_said : (words : List (List ℕ)) → IfSome (channel_of words) IsSaid
unfolding channel_of
channels_said [] = tt
channels_said (name ∷ []) = tt
channels_said (name ∷ kind ∷ words) =
    if_true IsSaid (is_name name) _ (λ ok. channel_said name (type_of kind) (marks_of words) ok (types kind))

group_said : (name : List ℕ) (o : Option ℕ) → is_name name ≡ true → IfSome (option_map (λ s. said.Group s name) o) IsSaid
group_said name None ok = tt
group_said name (Some s) ok = ok

groups_said : (words : List (List ℕ)) → IfSome (group_of words) IsSaid
unfolding group_of
groups_said [] = tt
groups_said (source ∷ []) = tt
groups_said (source ∷ name ∷ words) =
    if_true IsSaid (is_name name && is_end words) _ (λ ok. group_said name (number_of source) (and_parts (is_name name) (is_end words) ok).0)

units_said : (words : List (List ℕ)) → IfSome (unit_of words) IsSaid
unfolding unit_of
units_said [] = tt
units_said (name ∷ words) =
    if_true IsSaid (is_name name && is_end words) _ (λ ok. (and_parts (is_name name) (is_end words) ok).0)

-- a number says nothing that has to hold
free_said : {A : Type 0} (make : A → said.Line) (o : Option A) → ((x : A) → IsSaid (make x)) → IfSome (option_map make o) IsSaid
free_said make None each = tt
free_said make (Some x) each = each x

alone_said : (line : said.Line) (words : List (List ℕ)) → IsSaid line → IfSome (alone line words) IsSaid
unfolding alone
alone_said line words is = if_true IsSaid (is_end words) (Some line) (λ _. is)

worded_said : (word : List ℕ) (words : List (List ℕ)) → IfSome (worded word words) IsSaid
unfolding worded flush_of
worded_said word words =
    if_both (λ o. IfSome o IsSaid) (bytes_eq word (codes "begin")) _ _ (alone_said said.Begin words tt)
    (if_both (λ o. IfSome o IsSaid) (bytes_eq word (codes "!")) _ _ (free_said said.Flush (one_number words) (λ _. tt))
    (if_both (λ o. IfSome o IsSaid) (bytes_eq word (codes "end")) _ _ (alone_said said.End words tt)
    (free_said (λ group. said.Sample group words) (number_of word) (λ _. tt))))

plan_said : (word : List ℕ) (words : List (List ℕ)) → IfSome (worded_plan word words) IsSaid
unfolding worded_plan block_of session_of form_of
plan_said word words =
    if_both (λ o. IfSome o IsSaid) (bytes_eq word (codes "block")) _ _ (free_said said.Block (one_number words) (λ _. tt))
    (if_both (λ o. IfSome o IsSaid) (bytes_eq word (codes "session")) _ _ (free_said said.Session (one_number words) (λ _. tt))
    (if_both (λ o. IfSome o IsSaid) (bytes_eq word (codes "form")) _ _ (free_said said.Form (one_number words) (λ _. tt))
    (if_both (λ o. IfSome o IsSaid) (bytes_eq word (codes "live")) _ _ (alone_said said.Live words tt)
    (if_both (λ o. IfSome o IsSaid) (bytes_eq word (codes "group")) _ _ (groups_said words)
    (if_both (λ o. IfSome o IsSaid) (bytes_eq word (codes "channel")) _ _ (channels_said words)
    (if_both (λ o. IfSome o IsSaid) (bytes_eq word (codes "unit")) _ _ (units_said words) (worded_said word words)))))))

list_said : (words : List (List ℕ)) → IfSome (worded_list words) IsSaid
list_said [] = tt
list_said (word ∷ words) = plan_said word words

-- what a line says has a name and a type
pub lines_said : (text : List ℕ) → IfSome (line_of text) IsSaid
unfolding line_of
lines_said text = if_both (λ o. IfSome o IsSaid) (is_passed text) (Some said.Passed) (worded_list (words_of text)) tt (list_said (words_of text))

pub said_so : (o : Option said.Line) (text : List ℕ) → o ≡ line_of text → IfSome o IsSaid
said_so o text is = subst (λ x. IfSome x IsSaid) (sym is) (lines_said text)
