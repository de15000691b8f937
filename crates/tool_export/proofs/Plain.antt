-- Fields that a CSV writer with its defaults writes as they are.
use Rattle.std.proofs.Common.{◌≡◌, ◌≢◌, ◌<◌, ◌/◌, ◌%◌, ◌^◌, ◌&&◌, ◌++◌, ◌+◌, ℕ, zero, suc, Bool, true, false, ℤ, pos, negsuc, Fits, Result, Ok, Err, OnOk, ◌==◌, if◌then◌else◌, List, [], ◌∷◌, length, map, take, get_or, slice_index, nat_lt, decimal, eqb, refl, sym, ◌∙◌, ap, inl, inr, arith, append_assoc, w8, codes}
use Rattle.std.proofs.lemmas.Bool.{and_parts, cases_lt, ltb-true, ne_eqb}
use Rattle.std.proofs.lemmas.List.Elements.{All-append, All-cons, All-nil, All-weaker}
use Rattle.std.proofs.lemmas.List.Folds.{list_any_none}
use Rattle.std.proofs.lemmas.List.{map_more}
use Rattle.std.proofs.lemmas.Fmt.{decimal_nonempty}
use Rattle.std.specs.Fmt.{digit_glyph, digits, digits_onto, signed_decimal}
use Rattle.std.proofs.Math.Facts.{Fits-lt-pow}
use Rattle.csv.specs.Writing.{comma, default_writer, field_text, fields_text, is_blank, needs_byte}
use Rattle.csv.proofs.WriteFacts.{fields-snoc}
use Rattle.hex.specs.Hex.{IsBytes, encode_lower, encode_with, lower_digits}
use Rattle.mdf_layout.specs.declared.sample.Entry.{Entry}
use Rattle.tool_export.specs.Table.{IsPlain, entry_text, line_of, sample_line}

-- a byte behind the comma calls for no quotes
plain_byte : (b : ℕ) → comma < b → needs_byte default_writer b ≡ false
plain_byte b above =
    let comma_not : b ≢ 44 = omega arith in
    let quote_not : b ≢ 34 = omega arith in
    let return_not : b ≢ 13 = omega arith in
    let feed_not : b ≢ 10 = omega arith in
    rw (ne_eqb b 44 comma_not, ne_eqb b 34 quote_not, ne_eqb b 13 return_not, ne_eqb b 10 feed_not) refl

pub plain_field : (field : List ℕ) → IsPlain field → field_text default_writer field ≡ field
plain_field field plain =
    rw (list_any_none (needs_byte default_writer) field
    (All-weaker (λ b. comma < b) (λ b. needs_byte default_writer b ≡ false) plain_byte field plain)) refl

pub plain_behind : (xs ys : List ℕ) → IsPlain xs → IsPlain ys → IsPlain (xs ++ ys)
plain_behind xs ys first second = All-append (λ b. comma < b) xs ys first second

plain_more : (b : ℕ) (rest : List ℕ) → comma < b → IsPlain rest → IsPlain (b ∷ rest)
plain_more b rest above plain = All-cons (λ b. comma < b) b rest above plain

-- the digits of a number, with its sign
glyph_behind : (d : ℕ) → comma < digit_glyph false d
glyph_behind d = by (nat_lt d 10)
  where
    by : (low : Bool) → comma < (if low then 48 + d else 87 + d)
    by true = omega arith
    by false = omega arith

plain_choice : (last : Bool) (xs ys : List ℕ) → IsPlain xs → IsPlain ys → IsPlain (if last then xs else ys)
plain_choice true xs ys first second = first
plain_choice false xs ys first second = second

plain_onto : (k n : ℕ) (behind : List ℕ) → IsPlain behind → IsPlain (digits_onto k 10 false n behind)
plain_onto zero n behind plain = plain
plain_onto (suc k) n behind plain =
    let longer = digit_glyph false (n % 10) ∷ behind in
    let more = plain_more (digit_glyph false (n % 10)) behind (glyph_behind (n % 10)) plain in
    plain_choice (n / 10 == 0) longer (digits_onto k 10 false (n / 10) longer) more (plain_onto k (n / 10) longer more)

pub plain_decimal : (n : ℕ) → IsPlain (decimal n)
unfolding digits
plain_decimal n = plain_onto 64 n [] (All-nil (λ b. comma < b))

pub plain_signed : (z : ℤ) → IsPlain (signed_decimal z)
plain_signed (pos n) = plain_decimal n
plain_signed (negsuc n) = plain_more 45 (decimal (suc n)) (omega arith) (plain_decimal (suc n))

-- the digits of bytes
abbrev are_behind : ℕ → Bool
are_behind zero = true
are_behind (suc n) = nat_lt 44 (slice_index lower_digits n) && are_behind n

digit_behind : (n d : ℕ) → are_behind n ≡ true → d < n → comma < slice_index lower_digits d
digit_behind zero d all within = absurd (omega arith)
digit_behind (suc n) d all within =
    let parts = and_parts (nat_lt 44 (slice_index lower_digits n)) (are_behind n) all in
    elim (cases_lt d n) [
      | inl below ↦ digit_behind n d parts.1 below
      | inr top ↦
          let here : d ≡ n = omega arith in
          rw here (ltb-true 44 (slice_index lower_digits n) parts.0)
    ]

plain_digits : (bytes : List ℕ) → IsBytes bytes → IsPlain (encode_lower bytes)
unfolding encode_with
plain_digits [] are = All-nil (λ b. comma < b)
plain_digits (b ∷ rest) are =
    let small : b < 256 = are 0 in
    let high : b / 16 < 16 = omega arith in
    let low : b % 16 < 16 = omega arith in
    plain_more (slice_index lower_digits (b / 16)) (slice_index lower_digits (b % 16) ∷ encode_lower rest) (digit_behind 16 (b / 16) refl high)
    (plain_more (slice_index lower_digits (b % 16)) (encode_lower rest) (digit_behind 16 (b % 16) refl low) (plain_digits rest (λ k. are (suc k))))

pub plain_bytes : (bytes : List ℕ) → ((i : ℕ) → Fits w8 (get_or bytes i 0)) → IsPlain (codes "x" ++ encode_lower bytes)
plain_bytes bytes are = plain_more 120 (encode_lower bytes) (omega arith) (plain_digits bytes (λ i. Fits-lt-pow (are i)))

-- a fact holds where a call succeeds too
pub also_ok : {X E : Type 0} (result : Result X E) {P : Type 0} → P → OnOk result P
also_ok (Ok x) holds = holds
also_ok (Err e) holds = tt

-- a line that begins with a number shows a byte
shows : (n : ℕ) (rest : List (List ℕ)) → n < 2 ^ 64 → is_blank default_writer (decimal n ∷ rest) ≡ false
unfolding is_blank
shows n [] small =
    let some : length (decimal n) ≢ 0 = omega (arith, decimal_nonempty n small) in
    ap (λ (field : List ℕ). eqb (length field) 0) (plain_field (decimal n) (plain_decimal n)) ∙ ne_eqb (length (decimal n)) 0 some
shows n (next ∷ rest) small = refl

-- the line of a number and further fields
pub numbered_line : (n : ℕ) (rest : List (List ℕ)) → n < 2 ^ 64 → decimal n ++ (fields_text default_writer rest ++ codes "\n") ≡ line_of (decimal n ∷ rest)
unfolding line_of
numbered_line n rest small =
    rw (shows n rest small, plain_field (decimal n) (plain_decimal n)) (sym (append_assoc (decimal n) (fields_text default_writer rest) (codes "\n")))

-- one more field behind a first one and others
pub entries_more : (entries : List Entry) (i : ℕ) (entry : Entry) (before out mid new : List ℕ) → i < length entries → entry ≡ get_or entries i entry
    → IsPlain (entry_text entry) → out ≡ before ++ fields_text default_writer (map entry_text (take i entries)) → mid ≡ out ++ (comma ∷ [])
    → new ≡ mid ++ entry_text entry → new ≡ before ++ fields_text default_writer (map entry_text (take (i + 1) entries))
entries_more entries i entry before out mid new within is plain are comma_is last =
    let fields = map entry_text (take i entries) in
    let so_far = fields_text default_writer fields in
    let text = entry_text entry in
    let more : map entry_text (take (i + 1) entries) ≡ fields ++ (text ∷ []) =
    map_more entry_text entries i entry within ∙ ap (λ (e : Entry). fields ++ (entry_text e ∷ [])) (sym is) in
    let step : fields_text default_writer (map entry_text (take (i + 1) entries)) ≡ so_far ++ (comma ∷ text) =
    ap (fields_text default_writer) more ∙ fields-snoc default_writer fields text
    ∙ ap (λ (shown : List ℕ). so_far ++ (comma ∷ shown)) (plain_field text plain) in
    last ∙ ap (λ (front : List ℕ). front ++ text) (comma_is ∙ ap (λ (front : List ℕ). front ++ (comma ∷ [])) are)
    ∙ append_assoc (before ++ so_far) (comma ∷ []) text ∙ append_assoc before so_far (comma ∷ text)
    ∙ ap (λ (rest : List ℕ). before ++ rest) (sym step)

-- the line of a sample, part by part
pub line_made : (index : ℕ) (entries : List Entry) (old first mid new : List ℕ) → index < 2 ^ 64 → first ≡ old ++ decimal index
    → mid ≡ first ++ fields_text default_writer (map entry_text entries) → new ≡ mid ++ codes "\n" → new ≡ old ++ sample_line index entries
line_made index entries old first mid new small is middle last =
    let fields = fields_text default_writer (map entry_text entries) in
    last ∙ ap (λ (front : List ℕ). front ++ codes "\n") (middle ∙ ap (λ (front : List ℕ). front ++ fields) is)
    ∙ append_assoc (old ++ decimal index) fields (codes "\n") ∙ append_assoc old (decimal index) (fields ++ codes "\n")
    ∙ ap (λ (line : List ℕ). old ++ line) (numbered_line index (map entry_text entries) small)
