-- Records that stand one behind the other, and one more behind them.
use Rattle.std.proofs.Common.{◌≡◌, ◌+◌, ◌-◌, ◌*◌, ◌<◌, ◌≤◌, ⊎_elim, ℕ, List, ◌++◌, length, take, drop, map, Some, sym, ◌∙◌, ap, arith, length-append}
use Rattle.std.proofs.lemmas.Bool.{cases_lt}
use Rattle.std.proofs.lemmas.List.{take_all}
use Rattle.mdf_format.specs.Number.{bytes_at}
use Rattle.mdf_stream.proofs.Joins.{bytes_at-first, bytes_at-second}
use Rattle.mdf_content.specs.Samples.{AreSamples, record_at, sample_at}
use Rattle.mdf_layout.specs.Layout.{Layout, record_size}
use Rattle.mdf_layout.specs.Values.{sample_of}
use Rattle.mdf_layout.specs.declared.sample.Entry.{Entry}
use Rattle.mdf_vlsd.specs.Value.{value_at}
use Rattle.tool_sort.proofs.Indexes.{sample_at_any}

-- where record i of so many stands
pub record_inside : (i n size total : ℕ) → i < n → total ≡ n * size → i * size + size ≤ total
record_inside i n size total below long = grind arith

pub one_longer : (n size : ℕ) → n * size + size ≡ (n + 1) * size
one_longer n size = grind arith

-- a record has a sample, whatever its index is there
pub record HasSample (layout : Layout) (streams : List (List ℕ)) (bytes : List ℕ) : Type 0 where
  pub index : ℕ
  pub entries : List Entry
  pub is : sample_of layout.rows (take layout.data_bytes bytes) (drop layout.data_bytes bytes) streams index ≡ Some entries

module _ (layout : Layout) (streams : List (List ℕ)) where
  -- one more record of the size behind others
  pub more_samples : (count : ℕ) (content bytes : List ℕ) → AreSamples layout count content streams → length bytes ≡ record_size layout → HasSample layout streams bytes
      → AreSamples layout (count + 1) (content ++ bytes) streams
  more_samples count content bytes samples size one = record {
    long = length-append content bytes ∙ ap (λ (n : ℕ). n + length bytes) samples.long ∙ ap (λ (n : ℕ). count * record_size layout + n) size
        ∙ one_longer count (record_size layout);
    each_stream = samples.each_stream;
    each_sample = λ i below. ⊎_elim (earlier i) (λ past. last i (omega (arith, past, below))) (cases_lt i count);
  }
    where
      earlier : (i : ℕ) → i < count → (entries : List Entry) × (sample_at layout (content ++ bytes) streams i ≡ Some entries)
      earlier i below =
          let here = samples.each_sample i below in
          let same : record_at layout (content ++ bytes) i ≡ record_at layout content i =
          bytes_at-first (record_size layout) (i * record_size layout) content bytes (record_inside i count (record_size layout) (length content) below samples.long) in
          (here.0, ap (λ (all : List ℕ). sample_of layout.rows (take layout.data_bytes all) (drop layout.data_bytes all) streams i) same ∙ here.1)

      whole : bytes_at (record_size layout) bytes 0 ≡ bytes
      whole = take_all (record_size layout) bytes (omega (arith, size))

      last : (i : ℕ) → i ≡ count → (entries : List Entry) × (sample_at layout (content ++ bytes) streams i ≡ Some entries)
      last i is =
          let at : i * record_size layout ≡ length content = ap (λ (n : ℕ). n * record_size layout) is ∙ sym samples.long in
          let none : i * record_size layout - length content ≡ 0 = omega (arith, at) in
          let same : record_at layout (content ++ bytes) i ≡ bytes =
          bytes_at-second (record_size layout) (i * record_size layout) content bytes (omega (arith, at))
          ∙ ap (bytes_at (record_size layout) bytes) none ∙ whole in
          let found = sample_at_any layout.rows (take layout.data_bytes bytes) (drop layout.data_bytes bytes) (map value_at streams) one.index i one.entries one.is in
          (found.0, ap (λ (all : List ℕ). sample_of layout.rows (take layout.data_bytes all) (drop layout.data_bytes all) streams i) same ∙ found.1)
