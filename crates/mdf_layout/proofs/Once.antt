-- Bytes are the records of one list of samples.
use Rattle.std.proofs.Common.{◌≡◌, ◌≤◌, ◌<◌, ◌+◌, ◌^◌, ℕ, zero, suc, List, [], ◌∷◌, ◌++◌, length, get_or, take, drop, map, refl, sym, ◌∙◌, ap, subst, arith, inl, inr, length-append}
use Rattle.std.proofs.Math.Seq.{take-append_seam}
use Rattle.std.proofs.lemmas.List.{append_assoc, append_cancel_left, take-take}
use Rattle.std.proofs.lemmas.List.Sums.{sum_by_more, sum_by-take-le}
use Rattle.std.proofs.lemmas.Bool.{cases_order}
use Rattle.std.proofs.lemmas.Option.{slice_get_within, get_or_from_slice_get, same_Some}
use Rattle.std.specs.Prelude.{slice_get, sum_by, All, Some}
use Rattle.std.specs.Int.{to_le_bytes, w32}
use Rattle.mdf_format.specs.Number.{le_number}
use Rattle.mdf_vlsd.specs.Value.{value_bytes}
use Rattle.mdf_layout.specs.History.{group_samples}
use Rattle.mdf_layout.specs.Layout.{Layout}
use Rattle.mdf_layout.specs.Values.{sample_by}
use Rattle.mdf_layout.specs.Behind.{variables, first_id, value_records, always, IsRecordBehind, AreEncodingsBehind}
use Rattle.mdf_layout.specs.declared.sample.Sample.{Sample}

-- two parts of one length at the front of the same bytes, and what is behind them
pub part_once : (xs ys more more' : List ℕ) → length xs ≡ length ys → xs ++ more ≡ ys ++ more' → (xs ≡ ys) × (more ≡ more')
part_once xs ys more more' long same =
    let first : xs ≡ ys = sym (take-append_seam xs more) ∙ ap (take (length xs)) same ∙ ap (λ n. take n (ys ++ more')) long ∙ take-append_seam ys more' in
    (first, append_cancel_left xs more more' (same ∙ ap (λ zs. zs ++ more') (sym first)))

-- two values at the front of the same bytes
size_is : (v : List ℕ) → length v < 2 ^ 32 → le_number (to_le_bytes w32 (length v)) ≡ length v
size_is v short = omega (arith, short)

pub value_once : (v w more more' : List ℕ) → length v < 2 ^ 32 → length w < 2 ^ 32 → value_bytes v ++ more ≡ value_bytes w ++ more' → (v ≡ w) × (more ≡ more')
value_once v w more more' short short' same =
    let both = part_once (to_le_bytes w32 (length v)) (to_le_bytes w32 (length w)) (v ++ more) (w ++ more') refl
    (sym (append_assoc (to_le_bytes w32 (length v)) v more) ∙ same ∙ append_assoc (to_le_bytes w32 (length w)) w more') in
    let long : length v ≡ length w = sym (size_is v short) ∙ ap le_number both.0 ∙ size_is w short' in
    part_once v w more more' long both.1

-- their records
shorter : (v : List ℕ) (vs : List (List ℕ)) → All (λ v. length v < 2 ^ 32) (v ∷ vs) → All (λ v. length v < 2 ^ 32) vs
shorter v vs short k d within = short (suc k) d (omega arith)

values_once : (id : ℕ) (vs ws : List (List ℕ)) (more more' : List ℕ) → length vs ≡ length ws → All (λ v. length v < 2 ^ 32) vs → All (λ v. length v < 2 ^ 32) ws
    → value_records id vs ++ more ≡ value_records id ws ++ more' → (vs ≡ ws) × (more ≡ more')
unfolding value_records
values_once id [] [] more more' count short short' same = (refl, same)
values_once id [] (w ∷ ws) more more' count short short' same = absurd (omega (arith, count))
values_once id (v ∷ vs) [] more more' count short short' same = absurd (omega (arith, count))
values_once id (v ∷ vs) (w ∷ ws) more more' count short short' same =
    let behind : value_bytes v ++ (value_records (id + 1) vs ++ more) ≡ value_bytes w ++ (value_records (id + 1) ws ++ more') =
    sym (append_assoc (value_bytes v) (value_records (id + 1) vs) more) ∙ ap (drop 1) same ∙ append_assoc (value_bytes w) (value_records (id + 1) ws) more' in
    let one = value_once v w (value_records (id + 1) vs ++ more) (value_records (id + 1) ws ++ more') (short 0 [] (omega arith)) (short' 0 [] (omega arith)) behind in
    let rest = values_once (id + 1) vs ws more more' (omega (arith, count)) (shorter v vs short) (shorter w ws short') one.1 in
    (ap (λ x. x ∷ vs) one.0 ∙ ap (λ xs. w ∷ xs) rest.0, rest.1)

-- the ids of the values of a group come before those of a later one
abbrev values_in : Layout → ℕ
values_in layout = length (variables layout.rows)

pub ids_rise : (layouts : List Layout) (g h : ℕ) (layout : Layout) → slice_get layouts g ≡ Some layout → g < h
    → first_id layouts g + length (variables layout.rows) ≤ first_id layouts h
ids_rise layouts g h layout known less =
    let next = sum_by_more values_in layouts g layout (slice_get_within layouts g layout known) in
    let here = ap values_in (get_or_from_slice_get layouts g layout layout known) in
    let least = sum_by-take-le values_in (take h layouts) (g + 1) in
    let front = ap (sum_by values_in) (take-take (g + 1) h layouts (omega arith)) in
    omega (arith, next, here, least, front)

-- the first byte of a sample's records
first_byte : (id : ℕ) (vs : List (List ℕ)) (x : ℕ) (more : List ℕ) → length vs ≡ 0 → get_or (value_records id vs ++ x ∷ more) 0 0 ≡ x
unfolding value_records
first_byte id [] x more none = refl
first_byte id (v ∷ vs) x more none = absurd (omega (arith, none))

first_value : (id : ℕ) (vs : List (List ℕ)) (x : ℕ) (more : List ℕ) → 1 ≤ length vs → get_or (value_records id vs ++ x ∷ more) 0 0 ≡ id
unfolding value_records
first_value id [] x more some = absurd (omega (arith, some))
first_value id (v ∷ vs) x more some = refl

-- tells groups apart by the first byte
which_group : (layouts : List Layout) (g h n m first : ℕ) → g < length layouts → h < length layouts
    → (n ≡ 0 → first ≡ g + 1) → (1 ≤ n → first ≡ first_id layouts g) → (m ≡ 0 → first ≡ h + 1) → (1 ≤ m → first ≡ first_id layouts h)
    → (g < h → first_id layouts g + n ≤ first_id layouts h) → (h < g → first_id layouts h + m ≤ first_id layouts g) → g ≡ h
which_group layouts g h zero zero first in_g in_h alone valued alone' valued' rise rise' = omega (arith, alone refl, alone' refl)
which_group layouts g h zero (suc m) first in_g in_h alone valued alone' valued' rise rise' = absurd (omega (arith, alone refl, valued' (omega arith)))
which_group layouts g h (suc n) zero first in_g in_h alone valued alone' valued' rise rise' = absurd (omega (arith, valued (omega arith), alone' refl))
which_group layouts g h (suc n) (suc m) first in_g in_h alone valued alone' valued' rise rise' =
    let one = valued (omega arith) in
    let two = valued' (omega arith) in
    elim (cases_order g h) [
      | inl same ↦ same
      | inr (inl less) ↦ absurd (omega (arith, one, two, rise less))
      | inr (inr more) ↦ absurd (omega (arith, one, two, rise' more))
    ]

-- the records of a sample at the front of the same bytes as those of another
module _ (layouts : List Layout) (before : List Sample) (first rest first' rest' : List ℕ) (sample other : Sample)
    (whole : first ++ rest ≡ first' ++ rest') (one : IsRecordBehind layouts before first sample) (two : IsRecordBehind layouts before first' other) where
  -- what is behind the values
  abbrev tail : List ℕ
  tail = (sample.group + 1) ∷ ((one.data_bytes ++ one.inval_bytes) ++ rest)

  abbrev tail' : List ℕ
  tail' = (other.group + 1) ∷ ((two.data_bytes ++ two.inval_bytes) ++ rest')

  both : value_records (first_id layouts sample.group) one.values ++ tail ≡ value_records (first_id layouts other.group) two.values ++ tail'
  both =
      sym (append_assoc (value_records (first_id layouts sample.group) one.values) ((sample.group + 1) ∷ (one.data_bytes ++ one.inval_bytes)) rest)
      ∙ sym (ap (λ xs. xs ++ rest) one.bytes_are) ∙ whole ∙ ap (λ xs. xs ++ rest') two.bytes_are
      ∙ append_assoc (value_records (first_id layouts other.group) two.values) ((other.group + 1) ∷ (two.data_bytes ++ two.inval_bytes)) rest'

  same_group : sample.group ≡ other.group
  same_group =
      let byte = get_or (value_records (first_id layouts sample.group) one.values ++ tail) 0 0 in
      let byte_is : byte ≡ get_or (value_records (first_id layouts other.group) two.values ++ tail') 0 0 = ap (λ xs. get_or xs 0 0) both in
      which_group layouts sample.group other.group (length one.values) (length two.values) byte
      (slice_get_within layouts sample.group one.layout one.known) (slice_get_within layouts other.group two.layout two.known)
      (λ none. first_byte (first_id layouts sample.group) one.values (sample.group + 1) ((one.data_bytes ++ one.inval_bytes) ++ rest) none)
      (λ some. first_value (first_id layouts sample.group) one.values (sample.group + 1) ((one.data_bytes ++ one.inval_bytes) ++ rest) some)
      (λ none. byte_is ∙ first_byte (first_id layouts other.group) two.values (other.group + 1) ((two.data_bytes ++ two.inval_bytes) ++ rest') none)
      (λ some. byte_is ∙ first_value (first_id layouts other.group) two.values (other.group + 1) ((two.data_bytes ++ two.inval_bytes) ++ rest') some)
      (λ less. omega (arith, one.count, ids_rise layouts sample.group other.group one.layout one.known less))
      (λ more. omega (arith, two.count, ids_rise layouts other.group sample.group two.layout two.known more))

  same_layout : one.layout ≡ two.layout
  same_layout = same_Some one.layout two.layout (sym one.known ∙ ap (slice_get layouts) same_group ∙ two.known)

  values_and_tail : (one.values ≡ two.values) × (tail ≡ tail')
  values_and_tail =
      let count : length one.values ≡ length two.values = one.count ∙ ap values_in same_layout ∙ sym two.count in
      values_once (first_id layouts sample.group) one.values two.values tail tail' count one.short two.short
      (both ∙ ap (λ g. value_records (first_id layouts g) two.values ++ tail') (sym same_group))

  data_and_more : (one.data_bytes ≡ two.data_bytes) × (one.inval_bytes ++ rest ≡ two.inval_bytes ++ rest')
  data_and_more =
      part_once one.data_bytes two.data_bytes (one.inval_bytes ++ rest) (two.inval_bytes ++ rest')
      (one.data_long ∙ ap (λ layout. layout.data_bytes) same_layout ∙ sym two.data_long)
      (sym (append_assoc one.data_bytes one.inval_bytes rest) ∙ ap (drop 1) (values_and_tail.1) ∙ append_assoc two.data_bytes two.inval_bytes rest')

  inval_and_rest : (one.inval_bytes ≡ two.inval_bytes) × (rest ≡ rest')
  inval_and_rest =
      part_once one.inval_bytes two.inval_bytes rest rest' (one.inval_long ∙ ap (λ layout. layout.inval_bytes) same_layout ∙ sym two.inval_long) data_and_more.1

  pub same_rest : rest ≡ rest'
  same_rest = inval_and_rest.1

  same_values : sample.values ≡ other.values
  same_values =
      let index = ap (λ g. length (group_samples before g)) same_group in
      same_Some sample.values other.values
      (sym one.entries
      ∙ ap (λ layout. sample_by layout.rows one.data_bytes one.inval_bytes (map always one.values) (length (group_samples before sample.group))) same_layout
      ∙ ap (λ bytes. sample_by two.layout.rows bytes one.inval_bytes (map always one.values) (length (group_samples before sample.group))) data_and_more.0
      ∙ ap (λ bytes. sample_by two.layout.rows two.data_bytes bytes (map always one.values) (length (group_samples before sample.group))) inval_and_rest.0
      ∙ ap (λ vs. sample_by two.layout.rows two.data_bytes two.inval_bytes (map always vs) (length (group_samples before sample.group))) values_and_tail.0
      ∙ ap (λ n. sample_by two.layout.rows two.data_bytes two.inval_bytes (map always two.values) n) index
      ∙ two.entries)

  pub same_sample : sample ≡ other
  same_sample = ap (λ group. record { group = group; values = sample.values }) same_group
      ∙ ap (λ values. record { group = other.group; values = values }) same_values

-- no bytes are the records of a sample
not_empty : (layouts : List Layout) (before : List Sample) (bytes rest : List ℕ) (sample : Sample) → IsRecordBehind layouts before bytes sample → [] ≡ bytes ++ rest → ⊥
not_empty layouts before bytes rest sample one none =
    let long = ap length none in
    let size = ap length one.bytes_are in
    omega (arith, long, size, length-append bytes rest, length-append (value_records (first_id layouts sample.group) one.values) ((sample.group + 1) ∷ (one.data_bytes ++ one.inval_bytes)))

pub no_bytes_behind : (layouts : List Layout) (before : List Sample) (samples : List Sample) → AreEncodingsBehind layouts before [] samples → samples ≡ []
unfolding AreEncodingsBehind
no_bytes_behind layouts before [] none = refl
no_bytes_behind layouts before (sample ∷ samples) (first, rest, whole, one, behind) = absurd (not_empty layouts before first rest sample one.is whole)

pub encodings_once : (layouts : List Layout) (before : List Sample) (bytes : List ℕ) (samples others : List Sample)
    → AreEncodingsBehind layouts before bytes samples → AreEncodingsBehind layouts before bytes others → samples ≡ others
unfolding AreEncodingsBehind
encodings_once layouts before bytes [] others none more =
    sym (no_bytes_behind layouts before others (subst (λ xs. AreEncodingsBehind layouts before xs others) none more))
encodings_once layouts before bytes (sample ∷ samples) [] more none =
    no_bytes_behind layouts before (sample ∷ samples) (subst (λ xs. AreEncodingsBehind layouts before xs (sample ∷ samples)) none more)
encodings_once layouts before bytes (sample ∷ samples) (other ∷ others) (first, rest, whole, one, behind) (first', rest', whole', two, behind') =
    let both = sym whole ∙ whole' in
    let same = same_sample layouts before first rest first' rest' sample other both one.is two.is in
    let rest_is = same_rest layouts before first rest first' rest' sample other both one.is two.is in
    let moved = subst (λ s. AreEncodingsBehind layouts (before ++ s ∷ []) rest others) (sym same) (subst (λ xs. AreEncodingsBehind layouts (before ++ other ∷ []) xs others) (sym rest_is) behind') in
    ap (λ x. x ∷ samples) same ∙ ap (λ xs. other ∷ xs) (encodings_once layouts (before ++ sample ∷ []) rest samples others behind moved)
