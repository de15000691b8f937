-- The records that are kept are samples.
use Rattle.std.proofs.Common.{◌≡◌, ◌+◌, ◌*◌, ◌<◌, ◌≤◌, ℕ, zero, suc, Bool, true, false, List, [], ◌++◌, length, sym, ap, subst, arith, add-one, append-nil}
use Rattle.std.specs.Prelude.{if◌then◌else◌}
use Rattle.mdf_data.proofs.Pieces.{length-bytes}
use Rattle.mdf_content.specs.Samples.{AreSamples, record_at}
use Rattle.mdf_layout.specs.Layout.{Layout, record_size}
use Rattle.tool_cut.specs.Kept.{kept_bytes, kept_count}
use Rattle.tool_sort.proofs.Behind.{HasSample, more_samples, record_inside}

pub count_more : (keeps : ℕ → Bool) (i : ℕ) → kept_count keeps (i + 1) ≡ kept_count keeps i + (if keeps i then 1 else 0)
unfolding kept_count
count_more keeps i = ap (kept_count keeps) (add-one i)

pub bytes_more : (keeps : ℕ → Bool) (record_of : ℕ → List ℕ) (i : ℕ)
    → kept_bytes keeps record_of (i + 1) ≡ kept_bytes keeps record_of i ++ (if keeps i then record_of i else [])
unfolding kept_bytes
bytes_more keeps record_of i = ap (kept_bytes keeps record_of) (add-one i)

one_or_none : (b : Bool) → (if b then 1 else 0) ≤ 1
one_or_none true = omega arith
one_or_none false = omega arith

pub count_few : (keeps : ℕ → Bool) (i : ℕ) → kept_count keeps i ≤ i
unfolding kept_count
count_few keeps zero = omega arith
count_few keeps (suc i) = omega (arith, count_few keeps i, one_or_none (keeps i))

module _ (layout : Layout) (streams : List (List ℕ)) where
  -- a record is added or not
  taken_samples : (count : ℕ) (content bytes : List ℕ) (keeps : Bool) → AreSamples layout count content streams → length bytes ≡ record_size layout
      → HasSample layout streams bytes
      → AreSamples layout (count + (if keeps then 1 else 0)) (content ++ (if keeps then bytes else [])) streams
  taken_samples count content bytes true samples size one = more_samples layout streams count content bytes samples size one
  taken_samples count content bytes false samples size one =
      let same : count ≡ count + 0 = omega arith in
      subst (λ (n : ℕ). AreSamples layout n (content ++ []) streams) same
      (subst (λ (all : List ℕ). AreSamples layout count all streams) (sym (append-nil content)) samples)

  -- those of a group that are kept
  module _ (content : List ℕ) (whole : ℕ) (samples : AreSamples layout whole content streams) (keeps : ℕ → Bool) where
    size_of : (i : ℕ) → i < whole → length (record_at layout content i) ≡ record_size layout
    size_of i below = length-bytes (record_size layout) (i * record_size layout) content
        (record_inside i whole (record_size layout) (length content) below samples.long)

    pub kept_samples : (n : ℕ) → n ≤ whole → AreSamples layout (kept_count keeps n) (kept_bytes keeps (record_at layout content) n) streams
    unfolding kept_count kept_bytes
    kept_samples zero within = record {
      long = omega arith;
      each_stream = samples.each_stream;
      each_sample = λ i below. absurd (omega (arith, below));
    }
    kept_samples (suc n) within =
        let below : n < whole = omega (arith, within) in
        let one = samples.each_sample n below in
        taken_samples (kept_count keeps n) (kept_bytes keeps (record_at layout content) n) (record_at layout content n) (keeps n)
        (kept_samples n (omega (arith, within))) (size_of n below) (record { index = n; entries = one.0; is = one.1 })
