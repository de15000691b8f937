-- Records of a group behind those of another: they hold the samples of both, by the streams of both.
use Rattle.std.proofs.Common.{◌≡◌, ◌≢◌, ◌+◌, ◌-◌, ◌*◌, ◌<◌, ◌≤◌, ℕ, zero, suc, List, [], ◌∷◌, ◌++◌, length, take, drop, map, Some, refl, sym, ◌∙◌, ap, subst, inl, inr, arith, length-append}
use Rattle.std.proofs.lemmas.Bool.{cases_lt}
use Rattle.std.proofs.lemmas.List.{length-take-le, take-append-le, take_all, get_or_append_left, get_or-append-add, length-drop}
use Rattle.std.proofs.lemmas.Option.{slice_get_within, slice_get-get_or, get_or_from_slice_get, same_Some}
use Rattle.std.proofs.lemmas.Slice.{drop-append-drop}
use Rattle.std.specs.Prelude.{slice_get, filter}
use Rattle.std.specs.List.{AllByRecursion, enumerate_from}
use Rattle.mdf_data.proofs.Pieces.{length-bytes}
use Rattle.mdf_format.specs.Field.{HasBit, bit_of}
use Rattle.mdf_format.specs.Number.{bytes_at}
use Rattle.mdf_stream.proofs.Joins.{bytes_at-first, bytes_at-second}
use Rattle.mdf_vlsd.specs.Value.{value_at}
use Rattle.mdf_layout.specs.Layout.{Layout, record_size}
use Rattle.mdf_layout.specs.Rule.{BreaksRule, is_variable, spot_in}
use Rattle.mdf_layout.specs.Values.{sample_of}
use Rattle.mdf_layout.specs.declared.field.FieldRow.{FieldRow}
use Rattle.mdf_layout.specs.declared.field.FieldKind.TheVariants.{Variable, Virtual}
use Rattle.mdf_layout.specs.declared.sample.Entry.{Entry}
use Rattle.mdf_layout.specs.declared.sample.Sample.{Sample}
use Rattle.mdf_content.specs.Samples.{record_at, sample_at}
use Rattle.mdf_model.specs.Contents.{KeepsRules}
use Rattle.tool_sort.proofs.Behind.{record_inside, one_longer}
use Rattle.tool_concat.specs.Joined.{joined_streams}
use Rattle.tool_concat.specs.Moved.{AreMoved, AreOffsetsMoved, IsMoved}
use Rattle.tool_concat.proofs.Apart.{one_row}
use Rattle.tool_concat.proofs.Finds.{first_finds, joined_length, second_finds}
use Rattle.mdf_schedule.specs.Records.{AreBytes, AreStored, IsStoredIn}
use Rattle.mdf_schedule.proofs.Bits.{bytes_first}
use Rattle.mdf_schedule.proofs.Moving.{IsFieldKept, field_kept, sample_same}
use Rattle.mdf_schedule.proofs.Stored.{left, taken}

-- no channel has the number of its record as its value
abbrev pub AreReal : List FieldRow → Type 0
AreReal rows = AllByRecursion (λ row. row.kind ≢ Virtual) rows

-- so many records of a layout have these samples, by the streams of its channels of variable length
pub record HoldSamples (layout : Layout) (samples : List Sample) (count : ℕ) (content : List ℕ) (streams : List (List ℕ)) : Type 0 where
  pub many : length samples ≡ count
  pub long : length content ≡ count * record_size layout
  pub small : AreBytes content
  pub each_stream : length streams ≡ length (filter is_variable layout.rows)
  pub each : (i : ℕ) (sample : Sample) → slice_get samples i ≡ Some sample → sample_at layout content streams i ≡ Some sample.values

-- samples of two lists
slice_first : (xs ys : List Sample) (i : ℕ) (s : Sample) → i < length xs → slice_get (xs ++ ys) i ≡ Some s → slice_get xs i ≡ Some s
slice_first xs ys i s below is =
    slice_get-get_or xs i s below
    ∙ ap Some (sym (get_or_append_left xs ys s i below) ∙ get_or_from_slice_get (xs ++ ys) i s s is)

slice_behind : (xs ys : List Sample) (j : ℕ) (s : Sample) → slice_get (xs ++ ys) (length xs + j) ≡ Some s → slice_get ys j ≡ Some s
slice_behind xs ys j s is =
    let within = slice_get_within (xs ++ ys) (length xs + j) s is in
    slice_get-get_or ys j s (omega (arith, within, length-append xs ys))
    ∙ ap Some (sym (get_or-append-add xs ys j s) ∙ get_or_from_slice_get (xs ++ ys) (length xs + j) s s is)

numbered_at : {A : Type 0} (P : ℕ × A → Type 0) (from : ℕ) (xs : List A) (k : ℕ) (x : A) → AllByRecursion P (enumerate_from from xs)
    → slice_get xs k ≡ Some x → P (from + k, x)
numbered_at P from [] k x each there = absurd (cc there)
numbered_at P from (y ∷ ys) zero x each there =
    let same : y ≡ x = same_Some y x there in
    let here : from ≡ from + 0 = omega arith in
    subst (λ n. P (n, x)) here (subst (λ z. P (from, z)) same each.0)
numbered_at P from (y ∷ ys) (suc k) x each there =
    let next : from + 1 + k ≡ from + suc k = omega arith in
    subst (λ n. P (n, x)) next (numbered_at P (from + 1) ys k x each.1 there)

-- products of sizes
none_of : (size : ℕ) → 0 ≡ 0 * size
none_of size = grind arith

both_of : (n j size : ℕ) → (n + j) * size ≡ n * size + j * size
both_of n j size = grind arith

self_kept : (rows : List FieldRow) (bytes : List ℕ) → AreReal rows → AllByRecursion (λ row. IsFieldKept row bytes bytes) rows
self_kept [] bytes real = tt
self_kept (row ∷ rows) bytes real =
    (record { real = real.0; number = λ other. refl; bytes = λ fixed. refl }, self_kept rows bytes real.1)

module _ (layout : Layout) (stored : AreStored layout) (keeps : KeepsRules layout) (real : AreReal layout.rows) where
  rule_at : (k : ℕ) (row : FieldRow) → slice_get layout.rows k ≡ Some row → ¬ BreaksRule layout.data_bytes layout.inval_bytes layout.rows k row
  rule_at k row there =
      let zero_on : 0 + k ≡ k = omega arith in
      subst (λ n. ¬ BreaksRule layout.data_bytes layout.inval_bytes layout.rows n row) zero_on
      (numbered_at (λ (channel : ℕ × FieldRow). ¬ BreaksRule layout.data_bytes layout.inval_bytes layout.rows channel.0 channel.1) 0 layout.rows k row keeps there)

  module _ (streams : List (List ℕ)) (old new : List ℕ) (moved : AreOffsetsMoved layout.rows streams (length layout.rows) old new) where
    -- the bits of a channel that is no offset are those of before
    own_bits : (k : ℕ) (row : FieldRow) → slice_get layout.rows k ≡ Some row → row.kind ≢ Variable → (p : ℕ) → HasBit (spot_in row) p → bit_of new p ≡ bit_of old p
    own_bits k row there other p has =
        moved.others p (λ j offset below is shared.
        let differs : k ≢ j = λ same.
        let here : slice_get layout.rows k ≡ Some offset = subst (λ n. slice_get layout.rows n ≡ Some offset) (sym same) is.there in
        other (ap (λ (r : FieldRow). r.kind) (one_row layout.rows k row offset there here) ∙ is.kind) in
        rule_at j offset is.there (inr (inr (is.kind, (k, row, differs, there, record { p = p; first = shared; second = has })))))

    module _ (long : length old ≡ layout.data_bytes) (long' : length new ≡ layout.data_bytes) (small : AreBytes old) (small' : AreBytes new) where
      kept_from : (k : ℕ) (rows : List FieldRow) → ((j : ℕ) (row : FieldRow) → slice_get rows j ≡ Some row → slice_get layout.rows (k + j) ≡ Some row)
          → AllByRecursion (IsStoredIn layout) rows → AreReal rows → AllByRecursion (λ row. IsFieldKept row old new) rows
      kept_from k [] there each reals = tt
      kept_from k (row ∷ rows) there each reals = (
        field_kept layout.data_bytes row old new each.0.field reals.0 long long' small small' (own_bits (k + 0) row (there 0 row refl)),
        kept_from (k + 1) rows
            (λ j r is. let next : k + suc j ≡ k + 1 + j = omega arith in
            subst (λ n. slice_get layout.rows n ≡ Some r) next (there (suc j) r is)) each.1 reals.1,
      )

      fields_kept : AllByRecursion (λ row. IsFieldKept row old new) layout.rows
      fields_kept = kept_from 0 layout.rows
          (λ j row is. let zero_on : j ≡ 0 + j = omega arith in subst (λ n. slice_get layout.rows n ≡ Some row) zero_on is) stored real

  -- a record that is moved has the sample of before, in the joined streams
  moved_sample : (streams others : List (List ℕ)) (old new : List ℕ) (i j : ℕ) (entries : List Entry) → length streams ≡ length others
      → length old ≡ record_size layout → AreBytes old → AreBytes new → IsMoved layout streams old new
      → sample_of layout.rows (take layout.data_bytes old) (drop layout.data_bytes old) others j ≡ Some entries
      → sample_of layout.rows (take layout.data_bytes new) (drop layout.data_bytes new) (joined_streams streams others) i ≡ Some entries
  moved_sample streams others old new i j entries same size small small' moved is =
      let n = layout.data_bytes in
      let part = take n old in
      let rest = drop n old in
      let long : length part ≡ n = length-take-le n old (omega (arith, size)) in
      let long' : length moved.front ≡ n = moved.moved.long ∙ long in
      let front : take n new ≡ moved.front =
      ap (take n) moved.is ∙ take-append-le n moved.front rest (omega (arith, long')) ∙ take_all n moved.front (omega (arith, long')) in
      let behind : drop n new ≡ rest = ap (drop n) moved.is ∙ drop-append-drop n old moved.front n (omega arith) long' in
      let small_front : AreBytes moved.front = bytes_first moved.front rest (subst AreBytes moved.is small') in
      let kept = fields_kept streams part moved.front moved.moved long long' (taken n old small) small_front in
      let finds = second_finds layout.rows part moved.front streams others same (λ k row at. moved.moved.offsets k row (slice_get_within layout.rows k row at.there) at) in
      ap (λ (bytes : List ℕ). sample_of layout.rows bytes (drop n new) (joined_streams streams others) i) front
      ∙ ap (λ (bytes : List ℕ). sample_of layout.rows moved.front bytes (joined_streams streams others) i) behind
      ∙ sample_same layout.rows part moved.front rest (map value_at others) (map value_at (joined_streams streams others)) j i entries kept finds is

  module _ (streams : List (List ℕ)) (content : List ℕ) (whole : ℕ) (all : length content ≡ whole * record_size layout) where
    size : ℕ
    size = record_size layout

    record_long : (k : ℕ) → k < whole → length (record_at layout content k) ≡ record_size layout
    record_long k below =
        length-bytes (record_size layout) (k * record_size layout) content (record_inside k whole (record_size layout) (length content) below all)

    moved_long : (old new : List ℕ) → length old ≡ record_size layout → IsMoved layout streams old new → length new ≡ record_size layout
    moved_long old new long moved =
        let n = layout.data_bytes in
        ap (λ (bytes : List ℕ). length bytes) moved.is ∙ length-append moved.front (drop n old)
        ∙ omega (arith, moved.moved.long, length-take-le n old (omega (arith, long)), length-drop n old, long)

    -- each of the first so many records that are moved
    pub record AreMovedEach (n : ℕ) (moved : List ℕ) : Type 0 where
      pub long : length moved ≡ n * record_size layout
      pub each : (k : ℕ) → k < n → IsMoved layout streams (record_at layout content k) (record_at layout moved k)

    moved_each : (n : ℕ) (moved : List ℕ) → n ≤ whole → AreMoved layout streams content n moved → AreMovedEach n moved
    unfolding AreMoved
    moved_each zero moved within is =
        record { long = ap (λ (bytes : List ℕ). length bytes) is ∙ none_of (record_size layout); each = λ k below. absurd (omega (arith, below)) }
    moved_each (suc n) moved within is =
        let front = is.0 in
        let last = is.1 in
        let before = moved_each n front (omega (arith, within)) is.3 in
        let here = moved_long (record_at layout content n) last (record_long n (omega (arith, within))) is.4 in
        let next : n + 1 ≡ suc n = omega arith in
        record {
          long =
              ap (λ (bytes : List ℕ). length bytes) is.2 ∙ length-append front last
              ∙ ap (λ (k : ℕ). k + length last) before.long ∙ ap (λ (k : ℕ). n * record_size layout + k) here
              ∙ one_longer n (record_size layout) ∙ ap (λ (k : ℕ). k * record_size layout) next;
          each = λ k below. elim (cases_lt k n) [
            | inl earlier ↦
                let same : record_at layout moved k ≡ record_at layout front k =
                ap (λ (bytes : List ℕ). record_at layout bytes k) is.2
                ∙ bytes_at-first (record_size layout) (k * record_size layout) front last
                (record_inside k n (record_size layout) (length front) earlier before.long) in
                subst (IsMoved layout streams (record_at layout content k)) (sym same) (before.each k earlier)
            | inr past ↦
                let at_n : n ≡ k = omega (arith, past, below) in
                let none : n * record_size layout - length front ≡ 0 = omega (arith, before.long) in
                let same : record_at layout moved n ≡ last =
                ap (λ (bytes : List ℕ). record_at layout bytes n) is.2
                ∙ bytes_at-second (record_size layout) (n * record_size layout) front last (omega (arith, before.long))
                ∙ ap (bytes_at (record_size layout) last) none ∙ take_all (record_size layout) last (omega (arith, here)) in
                subst (λ (m : ℕ). IsMoved layout streams (record_at layout content m) (record_at layout moved m)) at_n
                (subst (IsMoved layout streams (record_at layout content n)) (sym same) is.4)
          ];
        }

  -- the samples of both, one behind the other
  pub joined_samples : (xs ys : List Sample) (n m : ℕ) (first second moved : List ℕ) (streams others : List (List ℕ)) → HoldSamples layout xs n first streams
      → HoldSamples layout ys m second others → AreMoved layout streams second m moved → AreBytes moved → AreBytes (first ++ moved)
      → HoldSamples layout (xs ++ ys) (n + m) (first ++ moved) (joined_streams streams others)
  joined_samples xs ys n m first second moved streams others one two are small small' =
      let size = record_size layout in
      let same : length streams ≡ length others = one.each_stream ∙ sym two.each_stream in
      let all = moved_each streams second m two.long m moved (omega arith) are in
      record {
        many = length-append xs ys ∙ ap (λ (k : ℕ). k + length ys) one.many ∙ ap (λ (k : ℕ). n + k) two.many;
        long = length-append first moved ∙ ap (λ (k : ℕ). k + length moved) one.long ∙ ap (λ (k : ℕ). n * size + k) all.long ∙ sym (both_of n m size);
        small = small';
        each_stream = joined_length streams others same ∙ one.each_stream;
        each = λ i sample there. elim (cases_lt i (length xs)) [
          | inl earlier ↦
              let at = record_at layout first i in
              let part = take layout.data_bytes at in
              let kept = self_kept layout.rows part real in
              let here : record_at layout (first ++ moved) i ≡ at =
              bytes_at-first size (i * size) first moved (record_inside i n size (length first) (omega (arith, earlier, one.many)) one.long) in
              ap (λ (bytes : List ℕ). sample_of layout.rows (take layout.data_bytes bytes) (drop layout.data_bytes bytes) (joined_streams streams others) i) here
              ∙ sample_same layout.rows part part (drop layout.data_bytes at) (map value_at streams) (map value_at (joined_streams streams others)) i i sample.values
              kept (first_finds layout.rows part streams others same) (one.each i sample (slice_first xs ys i sample earlier there))
          | inr past ↦
              let j = i - length xs in
              let i_is : i ≡ length xs + j = omega (arith, past) in
              let behind = slice_behind xs ys j sample (subst (λ (k : ℕ). slice_get (xs ++ ys) k ≡ Some sample) i_is there) in
              let below : j < m = subst (λ (k : ℕ). j < k) two.many (slice_get_within ys j sample behind) in
              let product : i * size ≡ n * size + j * size = ap (λ (k : ℕ). k * size) (i_is ∙ ap (λ (k : ℕ). k + j) one.many) ∙ both_of n j size in
              let skipped : i * size - length first ≡ j * size = omega (arith, product, one.long) in
              let here : record_at layout (first ++ moved) i ≡ record_at layout moved j =
              bytes_at-second size (i * size) first moved (omega (arith, product, one.long)) ∙ ap (bytes_at size moved) skipped in
              let old = record_at layout second j in
              let new = record_at layout moved j in
              ap (λ (bytes : List ℕ). sample_of layout.rows (take layout.data_bytes bytes) (drop layout.data_bytes bytes) (joined_streams streams others) i) here
              ∙ moved_sample streams others old new i j sample.values same (record_long streams second m two.long j below)
              (taken size (drop (j * size) second) (left (j * size) second two.small)) (taken size (drop (j * size) moved) (left (j * size) moved small))
              (all.each j below) (two.each j sample behind)
        ];
      }
