-- The records of a joined group are samples.
use Rattle.std.proofs.Common.{◌≡◌, ◌+◌, ◌*◌, ◌<◌, ◌≤◌, ℕ, zero, suc, List, ◌++◌, length, take, drop, map, sym, ◌∙◌, ap, subst, arith, append-nil, append_assoc, length-append, length-drop}
use Rattle.std.proofs.lemmas.List.{length-take-le, take-append-le, take_all}
use Rattle.std.proofs.lemmas.Option.{slice_get_within}
use Rattle.mdf_data.proofs.Pieces.{length-bytes}
use Rattle.mdf_content.specs.Samples.{AreSamples, record_at}
use Rattle.mdf_layout.specs.Layout.{Layout, record_size}
use Rattle.mdf_vlsd.specs.Value.{value_at}
use Rattle.tool_sort.proofs.Behind.{HasSample, more_samples, record_inside}
use Rattle.tool_concat.specs.Joined.{joined_streams}
use Rattle.tool_concat.specs.Moved.{AreMoved, IsMoved, offset_in}
use Rattle.tool_concat.proofs.Finds.{first_finds, joined_length, sample_too, second_finds}

module _ (layout : Layout) (streams others : List (List ℕ)) (same : length streams ≡ length others) where
  -- the records of the first
  first_samples : (count : ℕ) (content : List ℕ) → AreSamples layout count content streams → AreSamples layout count content (joined_streams streams others)
  first_samples count content samples = record {
    long = samples.long;
    each_stream = joined_length streams others same ∙ samples.each_stream;
    each_sample = λ i below.
        let one = samples.each_sample i below in
        let all = record_at layout content i in
        let front = take layout.data_bytes all in
        sample_too layout.rows front front (drop layout.data_bytes all) (drop layout.data_bytes all) (map value_at streams) (map value_at (joined_streams streams others))
        i i one.0 (first_finds layout.rows front streams others same) one.1;
  }

  module _ (second : List ℕ) (whole : ℕ) (samples : AreSamples layout whole second others) where
    size_of : (i : ℕ) → i < whole → length (record_at layout second i) ≡ record_size layout
    size_of i below = length-bytes (record_size layout) (i * record_size layout) second
        (record_inside i whole (record_size layout) (length second) below samples.long)

    last_parts : (i : ℕ) → i < whole → (last : List ℕ) → (moved : IsMoved layout streams (record_at layout second i) last) → length moved.front ≡ layout.data_bytes
    last_parts i below last moved = moved.moved.long ∙ length-take-le layout.data_bytes (record_at layout second i) (omega (arith, size_of i below))

    last_size : (i : ℕ) → i < whole → (last : List ℕ) → IsMoved layout streams (record_at layout second i) last → length last ≡ record_size layout
    last_size i below last moved =
        let all = record_at layout second i in
        ap (λ (bytes : List ℕ). length bytes) moved.is ∙ length-append moved.front (drop layout.data_bytes all)
        ∙ omega (arith, last_parts i below last moved, size_of i below, length-drop layout.data_bytes all)

    last_sample : (i : ℕ) → i < whole → (last : List ℕ) → IsMoved layout streams (record_at layout second i) last
        → HasSample layout (joined_streams streams others) last
    last_sample i below last moved =
        let all = record_at layout second i in
        let rest = drop layout.data_bytes all in
        let one = samples.each_sample i below in
        let size = last_parts i below last moved in
        let front : take layout.data_bytes last ≡ moved.front =
        ap (take layout.data_bytes) moved.is ∙ take-append-le layout.data_bytes moved.front rest (omega (arith, size)) ∙ take_all layout.data_bytes moved.front (omega (arith, size)) in
        let found = sample_too layout.rows (take layout.data_bytes all) (take layout.data_bytes last) rest (drop layout.data_bytes last)
        (map value_at others) (map value_at (joined_streams streams others)) i i one.0
        (second_finds layout.rows (take layout.data_bytes all) (take layout.data_bytes last) streams others same
        (λ k row is.
        ap (offset_in row) front ∙ moved.moved.offsets k row (slice_get_within layout.rows k row is.there) is))
        one.1 in
        record { index = i; entries = found.0; is = found.1 }

    -- behind those of the first
    pub joined_samples : (count : ℕ) (content : List ℕ) → AreSamples layout count content streams → (n : ℕ) → n ≤ whole → (moved : List ℕ)
        → AreMoved layout streams second n moved → AreSamples layout (count + n) (content ++ moved) (joined_streams streams others)
    unfolding AreMoved
    joined_samples count content first zero within moved is =
        let none : content ≡ content ++ moved = sym (append-nil content) ∙ ap (λ (bytes : List ℕ). content ++ bytes) (sym is) in
        let same_count : count ≡ count + 0 = omega arith in
        subst (λ (n : ℕ). AreSamples layout n (content ++ moved) (joined_streams streams others)) same_count
        (subst (λ (all : List ℕ). AreSamples layout count all (joined_streams streams others)) none (first_samples count content first))
    joined_samples count content first (suc n) within moved is =
        let below : n < whole = omega (arith, within) in
        let front = is.0 in
        let last = is.1 in
        let before = joined_samples count content first n (omega (arith, within)) front is.3 in
        let more = more_samples layout (joined_streams streams others) (count + n) (content ++ front) last before (last_size n below last is.4) (last_sample n below last is.4) in
        let bytes : content ++ front ++ last ≡ content ++ moved = append_assoc content front last ∙ ap (λ (all : List ℕ). content ++ all) (sym is.2) in
        let next : count + n + 1 ≡ count + suc n = omega arith in
        subst (λ (m : ℕ). AreSamples layout m (content ++ moved) (joined_streams streams others)) next
        (subst (λ (all : List ℕ). AreSamples layout (count + n + 1) all (joined_streams streams others)) bytes more)
