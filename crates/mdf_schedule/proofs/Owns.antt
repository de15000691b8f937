-- The records of the samples of one group, behind earlier ones, are one.
use Rattle.std.proofs.Common.{◌≡◌, ◌+◌, ℕ, List, [], ◌∷◌, ◌++◌, length, map, refl, sym, ◌∙◌, ap, subst}
use Rattle.std.proofs.lemmas.Option.{same_Some}
use Rattle.std.specs.Prelude.{slice_get, Some}
use Rattle.mdf_format.specs.Field.{bit_of, field_number}
use Rattle.mdf_layout.specs.History.{group_samples}
use Rattle.mdf_layout.specs.Layout.{Layout}
use Rattle.mdf_layout.specs.Rule.{spot_in}
use Rattle.mdf_layout.specs.Values.{sample_by}
use Rattle.mdf_layout.specs.Written.{IsFree, IsFreePosition}
use Rattle.mdf_layout.specs.Behind.{variables, value_records, first_id, offsets_behind, always, IsEncodingBehind}
use Rattle.mdf_layout.specs.declared.field.FieldRow.{FieldRow}
use Rattle.mdf_layout.specs.declared.sample.Sample.{Sample}
use Rattle.mdf_layout.proofs.Sizes.{long_are}
use Rattle.mdf_schedule.specs.Records.{AreBytes, AreStored}
use Rattle.mdf_schedule.proofs.Bits.{bytes_first, bytes_behind}
use Rattle.mdf_schedule.proofs.Fields.{record_once}

-- the values of a sample of variable length, and its record without the id
pub record Own : Type 0 where
  pub values : List (List ℕ)
  pub data_bytes : List ℕ
  pub inval_bytes : List ℕ

-- these are the sample's, behind earlier samples of its group
pub record IsOwn (layout : Layout) (earlier : List Sample) (sample : Sample) (own : Own) : Type 0 where
  pub small : AreBytes own.data_bytes
  pub small_inval : AreBytes own.inval_bytes
  pub count : length own.values ≡ length (variables layout.rows)
  pub data_long : length own.data_bytes ≡ layout.data_bytes
  pub inval_long : length own.inval_bytes ≡ layout.inval_bytes
  pub offsets : map (λ (row : FieldRow). field_number (spot_in row) own.data_bytes) (variables layout.rows) ≡ offsets_behind layout.rows earlier
  pub entries : sample_by layout.rows own.data_bytes own.inval_bytes (map always own.values) (length earlier) ≡ Some sample.values
  pub unused : (p : ℕ) → IsFree layout.rows p → bit_of own.data_bytes p ≡ 0
  pub unused_positions : (p : ℕ) → IsFreePosition layout.rows p → bit_of own.inval_bytes p ≡ 0

made : List (List ℕ) → List ℕ → List ℕ → Own
made values data_bytes inval_bytes = record { values = values; data_bytes = data_bytes; inval_bytes = inval_bytes }

pub own_once : (layout : Layout) (earlier : List Sample) (sample : Sample) (one two : Own) → AreStored layout → IsOwn layout earlier sample one
    → IsOwn layout earlier sample two → one ≡ two
unfolding made
own_once layout earlier sample one two stored is_one is_two =
    let values : one.values ≡ two.values =
    sym (long_are layout.rows one.data_bytes one.inval_bytes one.values (length earlier) sample.values is_one.entries is_one.count)
    ∙ long_are layout.rows two.data_bytes two.inval_bytes two.values (length earlier) sample.values is_two.entries is_two.count in
    let both = record_once layout one.data_bytes two.data_bytes one.inval_bytes two.inval_bytes (length earlier) (length earlier)
    (map always one.values) (map always two.values) sample.values stored is_one.small is_two.small is_one.small_inval is_two.small_inval
    is_one.data_long is_two.data_long is_one.inval_long is_two.inval_long (is_one.offsets ∙ sym is_two.offsets) is_one.entries is_two.entries
    is_one.unused is_two.unused is_one.unused_positions is_two.unused_positions in
    let first : one ≡ made one.values one.data_bytes one.inval_bytes = refl in
    let last : two ≡ made two.values two.data_bytes two.inval_bytes = refl in
    first
    ∙ ap (λ (vs : List (List ℕ)). made vs one.data_bytes one.inval_bytes) values
    ∙ ap (λ (bytes : List ℕ). made two.values bytes one.inval_bytes) both.0
    ∙ ap (λ (bytes : List ℕ). made two.values two.data_bytes bytes) both.1
    ∙ sym last

-- of samples one behind the other
abbrev pub AreOwn : Layout → List Sample → List Sample → List Own → Type 0
AreOwn layout earlier [] [] = Unit {0}
AreOwn layout earlier [] (own ∷ owns) = ⊥
AreOwn layout earlier (sample ∷ samples) [] = ⊥
AreOwn layout earlier (sample ∷ samples) (own ∷ owns) = IsOwn layout earlier sample own × AreOwn layout (earlier ++ sample ∷ []) samples owns

pub owns_once : (layout : Layout) (earlier samples : List Sample) (ones twos : List Own) → AreStored layout → AreOwn layout earlier samples ones
    → AreOwn layout earlier samples twos → ones ≡ twos
owns_once layout earlier [] [] [] stored are are' = refl
owns_once layout earlier [] [] (two ∷ twos) stored are are' = absurd are'
owns_once layout earlier [] (one ∷ ones) twos stored are are' = absurd are
owns_once layout earlier (sample ∷ samples) [] twos stored are are' = absurd are
owns_once layout earlier (sample ∷ samples) (one ∷ ones) [] stored are are' = absurd are'
owns_once layout earlier (sample ∷ samples) (one ∷ ones) (two ∷ twos) stored are are' =
    ap (λ (own : Own). own ∷ ones) (own_once layout earlier sample one two stored are.0 are'.0)
    ∙ ap (λ (owns : List Own). two ∷ owns) (owns_once layout (earlier ++ sample ∷ []) samples ones twos stored are.1 are'.1)

-- what an encoding has
module _ (layouts : List Layout) (before : List Sample) (bytes : List ℕ) (sample : Sample) (e : IsEncodingBehind layouts before bytes sample) where
  abbrev pub own_of : Own
  own_of = record { values = e.is.values; data_bytes = e.is.data_bytes; inval_bytes = e.is.inval_bytes }

  pub is_own : (layout : Layout) → slice_get layouts sample.group ≡ Some layout → AreBytes bytes
      → IsOwn layout (group_samples before sample.group) sample own_of
  is_own layout known small =
      let same : e.is.layout ≡ layout = same_Some e.is.layout layout (sym e.is.known ∙ known) in
      let front = value_records (first_id layouts sample.group) e.is.values in
      let body : AreBytes (e.is.data_bytes ++ e.is.inval_bytes) =
      (bytes_behind front ((sample.group + 1) ∷ (e.is.data_bytes ++ e.is.inval_bytes)) (subst AreBytes e.is.bytes_are small)).1 in
      subst (λ (l : Layout). IsOwn l (group_samples before sample.group) sample own_of) same (record {
        small = bytes_first e.is.data_bytes e.is.inval_bytes body;
        small_inval = bytes_behind e.is.data_bytes e.is.inval_bytes body;
        count = e.is.count;
        data_long = e.is.data_long;
        inval_long = e.is.inval_long;
        offsets = e.is.offsets;
        entries = e.is.entries;
        unused = e.unused;
        unused_positions = e.unused_positions;
      })

-- the bytes of a sample's records
abbrev pub bytes_of : List Layout → ℕ → Own → List ℕ
bytes_of layouts group own = value_records (first_id layouts group) own.values ++ (group + 1) ∷ (own.data_bytes ++ own.inval_bytes)

pub encoding_once : (layouts : List Layout) (before others : List Sample) (bytes more : List ℕ) (sample : Sample) (layout : Layout)
    → slice_get layouts sample.group ≡ Some layout → AreStored layout → AreBytes bytes → AreBytes more
    → group_samples before sample.group ≡ group_samples others sample.group
    → IsEncodingBehind layouts before bytes sample → IsEncodingBehind layouts others more sample → bytes ≡ more
encoding_once layouts before others bytes more sample layout known stored small small' same one two =
    let first = is_own layouts before bytes sample one layout known small in
    let second = is_own layouts others more sample two layout known small' in
    let moved = subst (λ (earlier : List Sample). IsOwn layout earlier sample (own_of layouts others more sample two)) (sym same) second in
    let owns = own_once layout (group_samples before sample.group) sample (own_of layouts before bytes sample one) (own_of layouts others more sample two) stored first moved in
    one.is.bytes_are ∙ ap (bytes_of layouts sample.group) owns ∙ sym two.is.bytes_are
