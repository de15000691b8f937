-- Values of variable length are found in the streams of all records.
use Rattle.std.proofs.Common.{◌≡◌, ◌<◌, ◌+◌, ◌^◌, ℕ, suc, Bool, true, false, List, [], ◌∷◌, ◌++◌, length, take, drop, map, refl, sym, ◌∙◌, ap, arith, Option, Some, length-append}
use Rattle.std.specs.Prelude.{All, nat_le, ◌&&◌, if◌then◌else◌}
use Rattle.std.specs.Option.{option_map, option_and_then}
use Rattle.std.specs.Int.{to_le_bytes, w32}
use Rattle.std.proofs.lemmas.Bool.{le-leb, and_from, cond-true}
use Rattle.std.proofs.lemmas.List.{append_assoc, drop_at, take_at}
use Rattle.mdf_format.specs.Number.{le_number, bytes_at}
use Rattle.mdf_format.specs.Field.{field_number}
use Rattle.mdf_vlsd.specs.Value.{value_bytes, value_at, size_there}
use Rattle.mdf_layout.specs.Rule.{spot_in, is_variable}
use Rattle.mdf_layout.specs.Values.{Finder, value_in, is_valid, entry_of, first_finder, sample_by}
use Rattle.mdf_layout.specs.Behind.{variables, always}
use Rattle.mdf_layout.specs.Next.{added}
use Rattle.mdf_layout.specs.declared.field.FieldKind.{FieldKind}
use Rattle.mdf_layout.specs.declared.field.FieldKind.TheVariants.{Unsigned, Signed, Fixed, Variable, Virtual}
use Rattle.mdf_layout.specs.declared.field.FieldRow.{FieldRow}
use Rattle.mdf_layout.specs.declared.sample.Value.TheVariants as value
use Rattle.mdf_layout.specs.declared.sample.Entry.{Entry}

-- a value stands behind a front
size_is : (v rest : List ℕ) → length v < 2 ^ 32 → le_number (take 4 (value_bytes v ++ rest)) ≡ length v
size_is v rest short = omega (arith, short)

value_there : (front v rest : List ℕ) → length v < 2 ^ 32 → value_at (front ++ (value_bytes v ++ rest)) (length front) ≡ Some v
value_there front v rest short =
    let stream = front ++ (value_bytes v ++ rest) in
    let at = length front in
    let here : drop at stream ≡ value_bytes v ++ rest = drop_at front (value_bytes v ++ rest) at refl in
    let size : size_there stream at ≡ length v = ap (λ bytes. le_number (take 4 bytes)) here ∙ size_is v rest short in
    let long : length stream ≡ at + (4 + length v + length rest) = omega (arith, length-append front (value_bytes v ++ rest), length-append v rest) in
    let behind : drop (at + 4) stream ≡ v ++ rest =
    ap (λ xs. drop (at + 4) xs) (sym (append_assoc front (to_le_bytes w32 (length v)) (v ++ rest)))
    ∙ drop_at (front ++ to_le_bytes w32 (length v)) (v ++ rest) (at + 4) (length-append front (to_le_bytes w32 (length v))) in
    let bytes : bytes_at (size_there stream at) stream (at + 4) ≡ v =
    ap (λ n. take n (drop (at + 4) stream)) size ∙ ap (take (length v)) behind ∙ take_at v rest (length v) refl in
    cond-true (nat_le (at + 4) (length stream) && nat_le (at + 4 + size_there stream at) (length stream)) _ _
    (and_from (nat_le (at + 4) (length stream)) (nat_le (at + 4 + size_there stream at) (length stream)) (le-leb _ _ (omega (arith, long))) (le-leb _ _ (omega (arith, long, size))))
    ∙ ap Some bytes

-- each of these values is found in its stream at its offset
abbrev pub AreFoundIn : List (List ℕ) → List ℕ → List (List ℕ) → Type 0
AreFoundIn [] [] [] = Unit {0}
AreFoundIn (stream ∷ streams) (offset ∷ offsets) (v ∷ vs) = (value_at stream offset ≡ Some v) × AreFoundIn streams offsets vs
AreFoundIn _ _ _ = ⊥

-- streams with more behind each
abbrev pub joined : List (List ℕ) → List (List ℕ) → List (List ℕ)
joined [] ys = []
joined (x ∷ xs) [] = x ∷ xs
joined (x ∷ xs) (y ∷ ys) = (x ++ y) ∷ joined xs ys

pub joined-lengths : (xs ys : List (List ℕ)) → map length (joined xs ys) ≡ added (map length xs) (map length ys)
joined-lengths [] ys = refl
joined-lengths (x ∷ xs) [] = refl
joined-lengths (x ∷ xs) (y ∷ ys) =
    ap (λ n. n ∷ map length (joined xs ys)) (length-append x y) ∙ ap (λ ns. (length x + length y) ∷ ns) (joined-lengths xs ys)

-- values behind fronts are found where the fronts end
pub found_behind : (fronts rests : List (List ℕ)) (vs : List (List ℕ)) → length fronts ≡ length vs → length rests ≡ length vs → All (λ v. length v < 2 ^ 32) vs
    → AreFoundIn (joined fronts (joined (map value_bytes vs) rests)) (map length fronts) vs
found_behind [] [] [] count count' short = tt
found_behind [] rests (v ∷ vs) count count' short = absurd (omega (arith, count))
found_behind [] (rest ∷ rests) [] count count' short = absurd (omega (arith, count'))
found_behind (front ∷ fronts) rests [] count count' short = absurd (omega (arith, count))
found_behind (front ∷ fronts) [] (v ∷ vs) count count' short = absurd (omega (arith, count'))
found_behind (front ∷ fronts) (rest ∷ rests) (v ∷ vs) count count' short = (
  value_there front v rest (short 0 [] (omega arith)),
  found_behind fronts rests vs (omega (arith, count)) (omega (arith, count')) (λ k d within. short (suc k) d (omega arith)),
)

-- the entry of a channel that is not of variable length asks for no value
entry_alike : (kind : FieldKind) (row : FieldRow) (bytes inval : List ℕ) (find other : Finder) (index : ℕ) → row.kind ≡ kind → is_variable row ≡ false
    → entry_of row bytes inval find index ≡ entry_of row bytes inval other index
entry_alike Unsigned row bytes inval find other index is no_value = rw is refl
entry_alike Signed row bytes inval find other index is no_value = rw is refl
entry_alike Fixed row bytes inval find other index is no_value = rw is refl
entry_alike Variable row bytes inval find other index is no_value = let wrong : true ≡ false = rw is at no_value in cc
entry_alike Virtual row bytes inval find other index is no_value = rw is refl

-- the entry of one that is asks at its offset alone
offset_alike : (kind : FieldKind) (row : FieldRow) (bytes inval : List ℕ) (find other : Finder) (index : ℕ) → row.kind ≡ kind → is_variable row ≡ true
    → find (field_number (spot_in row) bytes) ≡ other (field_number (spot_in row) bytes) → entry_of row bytes inval find index ≡ entry_of row bytes inval other index
offset_alike Unsigned row bytes inval find other index is has same = let wrong : false ≡ true = rw is at has in cc
offset_alike Signed row bytes inval find other index is has same = let wrong : false ≡ true = rw is at has in cc
offset_alike Fixed row bytes inval find other index is has same = let wrong : false ≡ true = rw is at has in cc
offset_alike Variable row bytes inval find other index is has same =
    ap (λ (k : FieldKind). option_map (λ v. record { value = v; valid = is_valid row inval }) (value_in k (spot_in row) bytes find index)) is
    ∙ ap (λ (found : Option (List ℕ)). option_map (λ v. record { value = v; valid = is_valid row inval }) (option_map value.Bytes found)) same
    ∙ ap (λ (k : FieldKind). option_map (λ v. record { value = v; valid = is_valid row inval }) (value_in k (spot_in row) bytes other index)) (sym is)
offset_alike Virtual row bytes inval find other index is has same = let wrong : false ≡ true = rw is at has in cc

abbrev pub offset_in : List ℕ → FieldRow → ℕ
offset_in bytes row = field_number (spot_in row) bytes

-- the entries of a channel and of those behind it, by the finders of each
abbrev entries_with : FieldRow → List FieldRow → List ℕ → List ℕ → Finder → List Finder → ℕ → Option (List Entry)
entries_with row rows bytes inval find finders index =
    option_and_then (λ entry. option_map (λ entries. entry ∷ entries) (sample_by rows bytes inval finders index)) (entry_of row bytes inval find index)

with_row : (b : Bool) (row : FieldRow) (rows : List FieldRow) (bytes inval : List ℕ) (finders : List Finder) (index : ℕ) → is_variable row ≡ b
    → sample_by (row ∷ rows) bytes inval finders index ≡ entries_with row rows bytes inval (first_finder finders) (if b then drop 1 finders else finders) index
unfolding sample_by
with_row b row rows bytes inval finders index is =
    ap (λ (c : Bool). entries_with row rows bytes inval (first_finder finders) (if c then drop 1 finders else finders) index) is

entries_alike : (row : FieldRow) (rows : List FieldRow) (bytes inval : List ℕ) (find other : Finder) (finders others : List Finder) (index : ℕ)
    → entry_of row bytes inval find index ≡ entry_of row bytes inval other index → sample_by rows bytes inval finders index ≡ sample_by rows bytes inval others index
    → entries_with row rows bytes inval find finders index ≡ entries_with row rows bytes inval other others index
entries_alike row rows bytes inval find other finders others index entry rest =
    ap (λ (found : Option Entry). option_and_then (λ entry. option_map (λ entries. entry ∷ entries) (sample_by rows bytes inval finders index)) found) entry
    ∙ ap (λ (behind : Option (List Entry)). option_and_then (λ entry. option_map (λ entries. entry ∷ entries) behind) (entry_of row bytes inval other index)) rest

-- one channel more
alike_step : (b : Bool) (row : FieldRow) (rows : List FieldRow) (bytes inval : List ℕ) (streams vs : List (List ℕ)) (index : ℕ) → is_variable row ≡ b
    → AreFoundIn streams (map (offset_in bytes) (if b then row ∷ variables rows else variables rows)) vs
    → ((ss ws : List (List ℕ)) → AreFoundIn ss (map (offset_in bytes) (variables rows)) ws
    → sample_by rows bytes inval (map value_at ss) index ≡ sample_by rows bytes inval (map always ws) index)
    → sample_by (row ∷ rows) bytes inval (map value_at streams) index ≡ sample_by (row ∷ rows) bytes inval (map always vs) index
alike_step false row rows bytes inval streams vs index is found rest =
    with_row false row rows bytes inval (map value_at streams) index is
    ∙ entries_alike row rows bytes inval (first_finder (map value_at streams)) (first_finder (map always vs)) (map value_at streams) (map always vs) index
    (entry_alike row.kind row bytes inval (first_finder (map value_at streams)) (first_finder (map always vs)) index refl is) (rest streams vs found)
    ∙ sym (with_row false row rows bytes inval (map always vs) index is)
alike_step true row rows bytes inval [] [] index is found rest = absurd found
alike_step true row rows bytes inval [] (v ∷ vs) index is found rest = absurd found
alike_step true row rows bytes inval (s ∷ ss) [] index is found rest = absurd found
alike_step true row rows bytes inval (s ∷ ss) (v ∷ vs) index is found rest =
    with_row true row rows bytes inval (map value_at (s ∷ ss)) index is
    ∙ entries_alike row rows bytes inval (value_at s) (always v) (map value_at ss) (map always vs) index
    (offset_alike row.kind row bytes inval (value_at s) (always v) index refl is found.0) (rest ss vs found.1)
    ∙ sym (with_row true row rows bytes inval (map always (v ∷ vs)) index is)

-- a sample whose values are found is the sample of these values
pub sample_alike : (rows : List FieldRow) (bytes inval : List ℕ) (streams vs : List (List ℕ)) (index : ℕ)
    → AreFoundIn streams (map (offset_in bytes) (variables rows)) vs
    → sample_by rows bytes inval (map value_at streams) index ≡ sample_by rows bytes inval (map always vs) index
unfolding sample_by
sample_alike [] bytes inval streams vs index found = refl
sample_alike (row ∷ rows) bytes inval streams vs index found =
    alike_step (is_variable row) row rows bytes inval streams vs index refl found (λ ss ws each. sample_alike rows bytes inval ss ws index each)
