-- The samples of records that stand one behind the other.
use Rattle.std.specs.Prelude.{ℕ, ◌≡◌, ◌*◌, ◌<◌, List, length, take, drop, filter, Option, Some}
use Rattle.mdf_format.specs.Number.{bytes_at}
use Rattle.mdf_layout.specs.Layout.{Layout, record_size}
use Rattle.mdf_layout.specs.Rule.{is_variable}
use Rattle.mdf_layout.specs.Values.{sample_of}
use Rattle.mdf_layout.specs.declared.sample.Entry.{Entry}

-- the data bytes and the invalidation bytes of record i
abbrev pub record_at : Layout → List ℕ → ℕ → List ℕ
record_at layout content i = bytes_at (record_size layout) content (i * record_size layout)

-- its sample, with the streams of the channels of variable length; it is undefined where an offset meets no value
abbrev pub sample_at : Layout → List ℕ → List (List ℕ) → ℕ → Option (List Entry)
sample_at layout content streams i = sample_of layout.rows (take layout.data_bytes (record_at layout content i))
    (drop layout.data_bytes (record_at layout content i)) streams i

-- these are the bytes of so many records, each channel of variable length has a stream, and each record has a sample
pub record AreSamples (layout : Layout) (count : ℕ) (content : List ℕ) (streams : List (List ℕ)) : Type 0 where
  pub long : length content ≡ count * record_size layout
  pub each_stream : length streams ≡ length (filter is_variable layout.rows)
  pub each_sample : (i : ℕ) → i < count → (entries : List Entry) × (sample_at layout content streams i ≡ Some entries)
