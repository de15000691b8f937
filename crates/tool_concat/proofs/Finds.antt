-- Where each offset of a record meets a value, the moved record meets the same one, and has a sample too.
use Rattle.std.proofs.Common.{◌≡◌, ◌+◌, ◌-◌, ◌<◌, ◌≤◌, ℕ, zero, suc, Bool, true, false, List, [], ◌∷◌, ◌++◌, length, take, map, get_or, Option, Some, None, refl, sym, ◌∙◌, ap, arith, length-append}
use Rattle.std.proofs.lemmas.Bool.{and_from, and_parts, le-leb, leb-true}
use Rattle.std.proofs.lemmas.Option.{option_and_then_some, same_Some}
use Rattle.std.specs.Prelude.{◌&&◌, nat_le, if◌then◌else◌}
use Rattle.std.specs.Option.{option_and_then, option_map}
use Rattle.mdf_format.specs.Field.{Spot, field_number}
use Rattle.mdf_format.specs.Number.{bytes_at, le_number}
use Rattle.mdf_stream.proofs.Joins.{bytes_at-first, bytes_at-second}
use Rattle.mdf_layout.specs.Rule.{is_variable, spot_in}
use Rattle.mdf_layout.specs.Values.{Finder, entry_of, finder_at, finders_behind, first_finder, is_valid, sample_by, streams_before, value_in}
use Rattle.mdf_layout.specs.declared.field.FieldRow.{FieldRow}
use Rattle.mdf_layout.specs.declared.field.FieldKind.{FieldKind}
use Rattle.mdf_layout.specs.declared.field.FieldKind.TheVariants.{Unsigned, Signed, Fixed, Variable, Virtual}
use Rattle.mdf_layout.specs.declared.sample.Value.{Value}
use Rattle.mdf_layout.specs.declared.sample.Value.TheVariants as value
use Rattle.mdf_layout.specs.declared.sample.Entry.{Entry}
use Rattle.mdf_vlsd.specs.Value.{size_there, value_at}
use Rattle.mdf_layout.proofs.Entered.{finder_behind}
use Rattle.tool_sort.proofs.Indexes.{mapped}
use Rattle.tool_concat.specs.Joined.{joined_streams}
use Rattle.tool_concat.specs.Moved.{IsVariableAt, offset_in, shift_of}

-- a value at an offset of a stream
record IsThere (stream : List ℕ) (o : ℕ) (v : List ℕ) : Type 0 where
  pub size : o + 4 ≤ length stream
  pub all : o + 4 + size_there stream o ≤ length stream
  pub is : bytes_at (size_there stream o) stream (o + 4) ≡ v

tested : (b : Bool) (x v : List ℕ) → (if b then Some x else None) ≡ Some v → (b ≡ true) × (x ≡ v)
tested true x v is = (refl, same_Some x v is)
tested false x v is = let wrong : ◌≡◌ {A = Option (List ℕ)} None (Some v) = is in absurd (cc wrong)

value_there : (stream : List ℕ) (o : ℕ) (v : List ℕ) → value_at stream o ≡ Some v → IsThere stream o v
value_there stream o v is =
    let head = nat_le (o + 4) (length stream) in
    let all = nat_le (o + 4 + size_there stream o) (length stream) in
    let found = tested (head && all) (bytes_at (size_there stream o) stream (o + 4)) v is in
    let both = and_parts head all found.0 in
    record {
      size = leb-true (o + 4) (length stream) both.0;
      all = leb-true (o + 4 + size_there stream o) (length stream) both.1;
      is = found.1;
    }

value_from : (stream : List ℕ) (o : ℕ) (v : List ℕ) → IsThere stream o v → value_at stream o ≡ Some v
value_from stream o v there =
    let bytes = bytes_at (size_there stream o) stream (o + 4) in
    ap (λ (b : Bool). if b then Some bytes else None)
    (and_from (nat_le (o + 4) (length stream)) (nat_le (o + 4 + size_there stream o) (length stream))
    (le-leb (o + 4) (length stream) there.size) (le-leb (o + 4 + size_there stream o) (length stream) there.all))
    ∙ ap Some there.is

-- it stays where another stream stands behind, and it moves where one stands before
value_first : (stream other : List ℕ) (o : ℕ) (v : List ℕ) → value_at stream o ≡ Some v → value_at (stream ++ other) o ≡ Some v
value_first stream other o v is =
    let there = value_there stream o v is in
    let size : size_there (stream ++ other) o ≡ size_there stream o = ap le_number (bytes_at-first 4 o stream other there.size) in
    value_from (stream ++ other) o v (record {
      size = omega (arith, there.size, length-append stream other);
      all = omega (arith, there.all, size, length-append stream other);
      is = ap (λ (n : ℕ). bytes_at n (stream ++ other) (o + 4)) size
          ∙ bytes_at-first (size_there stream o) (o + 4) stream other there.all ∙ there.is;
    })

value_second : (stream other : List ℕ) (o : ℕ) (v : List ℕ) → value_at other o ≡ Some v → value_at (stream ++ other) (o + length stream) ≡ Some v
value_second stream other o v is =
    let there = value_there other o v is in
    let back : o + length stream - length stream ≡ o = omega arith in
    let behind : o + length stream + 4 - length stream ≡ o + 4 = omega arith in
    let size : size_there (stream ++ other) (o + length stream) ≡ size_there other o =
    ap le_number (bytes_at-second 4 (o + length stream) stream other (omega arith) ∙ ap (bytes_at 4 other) back) in
    value_from (stream ++ other) (o + length stream) v (record {
      size = omega (arith, there.size, length-append stream other);
      all = omega (arith, there.all, size, length-append stream other);
      is = ap (λ (n : ℕ). bytes_at n (stream ++ other) (o + length stream + 4)) size
          ∙ bytes_at-second (size_there other o) (o + length stream + 4) stream other (omega arith)
          ∙ ap (bytes_at (size_there other o) other) behind ∙ there.is;
    })

-- the stream in which a channel finds its value
found_in : (streams : List (List ℕ)) (n o : ℕ) (v : List ℕ) → finder_at (map value_at streams) n o ≡ Some v
    → (n < length streams) × (value_at (get_or streams n []) o ≡ Some v)
found_in [] zero o v is = let wrong : ◌≡◌ {A = Option (List ℕ)} None (Some v) = is in absurd (cc wrong)
found_in [] (suc n) o v is = let wrong : ◌≡◌ {A = Option (List ℕ)} None (Some v) = is in absurd (cc wrong)
found_in (stream ∷ streams) zero o v is = (omega arith, is)
found_in (stream ∷ streams) (suc n) o v is = let more = found_in streams n o v is in (omega (arith, more.0), more.1)

found_from : (streams : List (List ℕ)) (n o : ℕ) (v : List ℕ) → n < length streams → value_at (get_or streams n []) o ≡ Some v
    → finder_at (map value_at streams) n o ≡ Some v
found_from [] n o v below is = absurd (omega (arith, below))
found_from (stream ∷ streams) zero o v below is = is
found_from (stream ∷ streams) (suc n) o v below is = found_from streams n o v (omega (arith, below)) is

pub joined_length : (streams others : List (List ℕ)) → length streams ≡ length others → length (joined_streams streams others) ≡ length streams
joined_length [] others same = refl
joined_length (stream ∷ streams) [] same = absurd (omega (arith, same))
joined_length (stream ∷ streams) (other ∷ others) same = ap suc (joined_length streams others (omega (arith, same)))

pub joined_at : (streams others : List (List ℕ)) (n : ℕ) → length streams ≡ length others → n < length streams
    → get_or (joined_streams streams others) n [] ≡ get_or streams n [] ++ get_or others n []
joined_at [] others n same below = absurd (omega (arith, below))
joined_at (stream ∷ streams) [] n same below = absurd (omega (arith, same))
joined_at (stream ∷ streams) (other ∷ others) zero same below = refl
joined_at (stream ∷ streams) (other ∷ others) (suc n) same below = joined_at streams others n (omega (arith, same)) (omega (arith, below))

-- the value that a channel of variable length finds by one record's offset, it finds by another's
abbrev pub FindsSame : List FieldRow → List ℕ → List ℕ → List Finder → List Finder → Type 0
FindsSame rows old new finders others = (k : ℕ) (row : FieldRow) (v : List ℕ) → IsVariableAt rows k row
    → finder_at finders (streams_before rows k) (offset_in row old) ≡ Some v
    → finder_at others (streams_before rows k) (offset_in row new) ≡ Some v

value_too : (kind : FieldKind) (spot : Spot) (old new : List ℕ) (find other : Finder) (index next : ℕ) (v : Value)
    → (kind ≡ Variable → (u : List ℕ) → find (field_number spot old) ≡ Some u → other (field_number spot new) ≡ Some u)
    → value_in kind spot old find index ≡ Some v → (w : Value) × (value_in kind spot new other next ≡ Some w)
value_too Unsigned spot old new find other index next v finds is = (_, refl)
value_too Signed spot old new find other index next v finds is = (_, refl)
value_too Fixed spot old new find other index next v finds is = (_, refl)
value_too Variable spot old new find other index next v finds is =
    let one = mapped {A = List ℕ} {B = Value} value.Bytes (find (field_number spot old)) v is in
    (value.Bytes one.0, ap (option_map {T = List ℕ} {U = Value} value.Bytes) (finds refl one.0 one.1))
value_too Virtual spot old new find other index next v finds is = (_, refl)

entry_too : (row : FieldRow) (old new inval later : List ℕ) (find other : Finder) (index next : ℕ) (entry : Entry)
    → (row.kind ≡ Variable → (u : List ℕ) → find (offset_in row old) ≡ Some u → other (offset_in row new) ≡ Some u)
    → entry_of row old inval find index ≡ Some entry → (e : Entry) × (entry_of row new later other next ≡ Some e)
entry_too row old new inval later find other index next entry finds is =
    let make : Value → Entry = λ (v : Value). record { value = v; valid = is_valid row inval } in
    let made : Value → Entry = λ (v : Value). record { value = v; valid = is_valid row later } in
    let one = mapped {A = Value} {B = Entry} make (value_in row.kind (spot_in row) old find index) entry is in
    let another = value_too row.kind (spot_in row) old new find other index next one.0 finds one.1 in
    (made another.0, ap (option_map {T = Value} {U = Entry} made) another.1)

pub finds_behind : (row : FieldRow) (rows : List FieldRow) (old new : List ℕ) (finders others : List Finder) → FindsSame (row ∷ rows) old new finders others
    → FindsSame rows old new (finders_behind row finders) (finders_behind row others)
finds_behind row rows old new finders others finds k other v is found =
    let before = finder_behind (is_variable row) row (take k rows) finders refl in
    let behind = finder_behind (is_variable row) row (take k rows) others refl in
    let there = finds (suc k) other v (record { there = is.there; kind = is.kind }) (ap (λ (find : Finder). find (offset_in other old)) (sym before) ∙ found) in
    ap (λ (find : Finder). find (offset_in other new)) behind ∙ there

pub sample_too : (rows : List FieldRow) (old new inval later : List ℕ) (finders others : List Finder) (index next : ℕ) (entries : List Entry)
    → FindsSame rows old new finders others → sample_by rows old inval finders index ≡ Some entries
    → (found : List Entry) × (sample_by rows new later others next ≡ Some found)
unfolding sample_by
sample_too [] old new inval later finders others index next entries finds is = ([], refl)
sample_too (row ∷ rows) old new inval later finders others index next entries finds is =
    let behind = finders_behind row finders in
    let after = finders_behind row others in
    option_and_then_some (λ (entry : Entry). option_map (λ (rest : List Entry). entry ∷ rest) (sample_by rows old inval behind index))
    (entry_of row old inval (first_finder finders) index) entries is
    (λ entry there rest.
    let one = entry_too row old new inval later (first_finder finders) (first_finder others) index next entry
    (λ kind u found. finds 0 row u (record { there = refl; kind = kind }) found) there in
    let more = mapped (λ (rest : List Entry). entry ∷ rest) (sample_by rows old inval behind index) entries rest in
    let others = sample_too rows old new inval later behind after index next more.0 (finds_behind row rows old new finders others finds) more.1 in (
      one.0 ∷ others.0,
      ap (option_and_then (λ (entry : Entry). option_map (λ (rest : List Entry). entry ∷ rest) (sample_by rows new later after next))) one.1
          ∙ ap (option_map (λ (rest : List Entry). one.0 ∷ rest)) others.1,
    ))

-- the records of the first find their values in the joined streams, and so do those of the second once they are moved
pub first_finds : (rows : List FieldRow) (bytes : List ℕ) (streams others : List (List ℕ)) → length streams ≡ length others
    → FindsSame rows bytes bytes (map value_at streams) (map value_at (joined_streams streams others))
first_finds rows bytes streams others same k row v is found =
    let n = streams_before rows k in
    let o = offset_in row bytes in
    let there = found_in streams n o v found in
    found_from (joined_streams streams others) n o v (omega (arith, there.0, joined_length streams others same))
    (ap (λ (stream : List ℕ). value_at stream o) (joined_at streams others n same there.0)
    ∙ value_first (get_or streams n []) (get_or others n []) o v there.1)

pub second_finds : (rows : List FieldRow) (old new : List ℕ) (streams others : List (List ℕ)) → length streams ≡ length others
    → ((k : ℕ) (row : FieldRow) → IsVariableAt rows k row → offset_in row new ≡ offset_in row old + shift_of rows streams k)
    → FindsSame rows old new (map value_at others) (map value_at (joined_streams streams others))
second_finds rows old new streams others same moved k row v is found =
    let n = streams_before rows k in
    let o = offset_in row old in
    let there = found_in others n o v found in
    let below : n < length streams = omega (arith, there.0, same) in
    let stream = get_or streams n [] in
    ap (finder_at (map value_at (joined_streams streams others)) n) (moved k row is)
    ∙ found_from (joined_streams streams others) n (o + length stream) v (omega (arith, below, joined_length streams others same))
    (ap (λ (s : List ℕ). value_at s (o + length stream)) (joined_at streams others n same below)
    ∙ value_second stream (get_or others n []) o v there.1)
