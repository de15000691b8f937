-- Each record of a recording that is a sample has one.
use Rattle.std.proofs.Common.{◌≡◌, ◌+◌, ◌*◌, ◌<◌, ℕ, zero, suc, List, [], ◌∷◌, ◌++◌, length, take, drop, map, refl, sym, ◌∙◌, ap, subst, inl, inr, arith}
use Rattle.std.specs.Prelude.{Bool, true, false, not, cond, filter, slice_get, Option, Some, None}
use Rattle.std.specs.List.{AllByRecursion, AllZip, enumerate_from}
use Rattle.std.proofs.lemmas.Bool.{cond-true, cond-false, eq-eqb}
use Rattle.std.proofs.lemmas.List.{take_at, take_all}
use Rattle.std.proofs.lemmas.Option.{slice_get_within}
use Rattle.std.proofs.Math.Seq.{drop-append-add}
use Rattle.std.proofs.Math.Nat.{suc-mul}
use Rattle.mdf_format.specs.Number.{bytes_at}
use Rattle.mdf_data.specs.declared.known.Size.{Size}
use Rattle.mdf_data.specs.declared.known.Size.TheVariants as sizes
use Rattle.mdf_data.specs.Split.{Record, IsBody}
use Rattle.mdf_group.specs.declared.row.GroupRow.{GroupRow}
use Rattle.mdf_group.specs.declared.row.DataRow.{DataRow}
use Rattle.mdf_group.specs.Group.{is_variable}
use Rattle.mdf_layout.specs.Layout as layouts
use Rattle.mdf_layout.specs.Values.{sample_of}
use Rattle.mdf_layout.specs.declared.sample.Sample.{Sample}
use Rattle.mdf_content.specs.declared.contents.Contents.{Contents}
use Rattle.mdf_content.specs.Records.{record_size, size_of}
use Rattle.mdf_content.specs.Samples.{record_at}
use Rattle.mdf_model.specs.Measurement.{holds_samples}
use Rattle.mdf_data.specs.Bodies.{is_of, bodies, joined}
use Rattle.mdf_model.specs.Contents.{is_of_samples, sample_groups}
use Rattle.mdf_block.proofs.Cases.{some_injective, two_ways}
use Rattle.mdf_block.proofs.Picks.{all_there}
use Rattle.mdf_carried.specs.Recovered.{IsGroupContents, Recovery, IsRecovery}
use Rattle.mdf_carried.specs.Samples.{is_sample_in, is_sample, sample_number, index_of, body_of, IsSampleOf, IsRecovered}
use Rattle.mdf_carried.proofs.Values.{bodies_whole}

-- what stands beside an item of a list
zip_at : {A B : Type 0} (R : A → B → Type 0) (xs : List A) (ys : List B) (i : ℕ) (x : A) → AllZip R xs ys → slice_get xs i ≡ Some x
    → (y : B) × (slice_get ys i ≡ Some y) × R x y
zip_at {A} {B} R [] ys i x all is = let wrong : ◌≡◌ {A = Option A} None (Some x) = is in cc
zip_at R (first ∷ xs) [] i x all is = absurd all
zip_at {A} {B} R (first ∷ xs) (y ∷ ys) zero x all is = (y, refl, subst (λ (z : A). R z y) (some_injective first x is) all.0)
zip_at R (first ∷ xs) (y ∷ ys) (suc i) x all is = zip_at R xs ys i x all.1 is

-- one for each item that passes
each_passes : {A B : Type 0} (test : A → Bool) (R : A → B → Type 0) (Known : A → Type 0)
    → ((x : A) → Known x → test x ≡ true → (y : B) × R x y) → (xs : List A) → AllByRecursion Known xs → (ys : List B) × AllZip R (filter test xs) ys
each_passes test R Known one [] all = ([], tt)
each_passes {A} {B} test R Known one (x ∷ xs) all =
    let rest = each_passes test R Known one xs all.1 in
    elim (two_ways (test x)) [
      | inl passes ↦
          let found = one x all.0 passes in (
            found.0 ∷ rest.0,
            subst (λ (zs : List A). AllZip R zs (found.0 ∷ rest.0)) (sym (cond-true (test x) (x ∷ filter test xs) (filter test xs) passes))
                (found.1, rest.1),
          )
      | inr fails ↦
          (rest.0, subst (λ (zs : List A). AllZip R zs rest.0) (sym (cond-false (test x) (x ∷ filter test xs) (filter test xs) fails)) rest.1)
    ]

-- a group of samples among those, by its number
behind_by : {A B : Type 0} (b : Bool) (x : A) (y : B) (xs : List A) (ys : List B) (found : Option A) → slice_get xs (length ys) ≡ found
    → slice_get (cond b (x ∷ xs) xs) (length (cond b (y ∷ ys) ys)) ≡ found
behind_by true x y xs ys found is = is
behind_by false x y xs ys found is = is

group_at : (groups : List GroupRow) (k from : ℕ) (group : GroupRow) → slice_get groups k ≡ Some group → holds_samples group ≡ true
    → slice_get (filter is_of_samples (enumerate_from from groups)) (length (filter holds_samples (take k groups))) ≡ Some (from + k, group)
group_at [] k from group is holds = let wrong : ◌≡◌ {A = Option GroupRow} None (Some group) = is in cc
group_at (first ∷ groups) zero from group is holds =
    let same : first ≡ group = some_injective first group is in
    let rest = filter is_of_samples (enumerate_from (from + 1) groups) in
    let here : from ≡ from + 0 = omega arith in
    ap (λ (xs : List (ℕ × GroupRow)). slice_get xs 0)
    (cond-true (holds_samples first) ((from, first) ∷ rest) rest (ap holds_samples same ∙ holds))
    ∙ ap (λ (g : GroupRow). Some (from, g)) same ∙ ap (λ (n : ℕ). Some (n, group)) here
group_at (first ∷ groups) (suc k) from group is holds =
    let next : from + 1 + k ≡ from + suc k = omega arith in
    behind_by (holds_samples first) (from, first) first (filter is_of_samples (enumerate_from (from + 1) groups)) (filter holds_samples (take k groups))
    (Some (from + 1 + k, group)) (group_at groups k (from + 1) group is holds)
    ∙ ap (λ (n : ℕ). Some (n, group)) next

-- the body of a record among those of its group, by its number
bare_by : (id_size : ℕ) (b : Bool) (x y : Record) (xs ys : List Record) (found : Option (List ℕ))
    → slice_get (map (λ (r : Record). drop id_size r.bytes) xs) (length ys) ≡ found
    → slice_get (map (λ (r : Record). drop id_size r.bytes) (cond b (x ∷ xs) xs)) (length (cond b (y ∷ ys) ys)) ≡ found
bare_by id_size true x y xs ys found is = is
bare_by id_size false x y xs ys found is = is

pub body_at : (id_size k : ℕ) (records : List Record) (n : ℕ) (r : Record) → slice_get records n ≡ Some r → r.which ≡ k
    → slice_get (bodies id_size records k) (length (filter (is_of k) (take n records))) ≡ Some (drop id_size r.bytes)
body_at id_size k [] n r is same = let wrong : ◌≡◌ {A = Option Record} None (Some r) = is in cc
body_at id_size k (first ∷ records) zero r is same =
    let here : first ≡ r = some_injective first r is in
    let rest = filter (is_of k) records in
    ap (λ (xs : List Record). slice_get (map (λ (one : Record). drop id_size one.bytes) xs) 0)
    (cond-true (is_of k first) (first ∷ rest) rest (ap (is_of k) here ∙ eq-eqb r.which k same))
    ∙ ap (λ (one : Record). Some (drop id_size one.bytes)) here
body_at id_size k (first ∷ records) (suc n) r is same =
    bare_by id_size (is_of k first) first first (filter (is_of k) records) (filter (is_of k) (take n records)) (Some (drop id_size r.bytes))
    (body_at id_size k records n r is same)

-- a record among records of one length
none_before : (size : ℕ) (xs : List ℕ) → bytes_at size xs (0 * size) ≡ take size xs
none_before size xs = let nothing : 0 * size ≡ 0 = omega arith in ap (λ (n : ℕ). bytes_at size xs n) nothing

record_there : (size : ℕ) (xs : List (List ℕ)) (i : ℕ) (body : List ℕ) → AllByRecursion (IsBody (sizes.Fixed size)) xs → slice_get xs i ≡ Some body
    → bytes_at size (joined xs) (i * size) ≡ body
record_there size [] i body each is = let wrong : ◌≡◌ {A = Option (List ℕ)} None (Some body) = is in cc
record_there size (x ∷ xs) zero body each is =
    none_before size (x ++ joined xs) ∙ take_at x (joined xs) size each.0 ∙ some_injective x body is
record_there size (x ∷ xs) (suc i) body each is =
    let long : suc i * size ≡ i * size + size = suc-mul i size in
    let behind : suc i * size ≡ length x + i * size = omega (arith, long, each.0) in
    ap (λ (n : ℕ). bytes_at size (x ++ joined xs) n) behind
    ∙ ap (take size) (drop-append-add x (joined xs) (i * size))
    ∙ record_there size xs i body each.1 is

pub in_group : (found : Option GroupRow) → is_sample_in found ≡ true → (group : GroupRow) × (found ≡ Some group) × (holds_samples group ≡ true)
in_group None is = let wrong : false ≡ true = is in cc
in_group (Some group) is = (group, refl, is)

not_variable : (b : Bool) → not b ≡ true → b ≡ false
not_variable true is = let wrong : false ≡ true = is in cc
not_variable false is = refl

module _ (f : List ℕ) (found : Recovery) (is : IsRecovery f found) where
  abbrev row : DataRow
  row = found.row

  -- the bytes of a record of a group
  pub record_is : (k : ℕ) (group : GroupRow) (contents : Contents) → slice_get row.groups k ≡ Some group → holds_samples group ≡ true
      → IsGroupContents f row found.records (k, group) contents → (i : ℕ) (body : List ℕ) → slice_get (bodies row.id_size found.records k) i ≡ Some body
      → record_at contents.shape contents.content i ≡ body
  record_is k group contents there holds held i body here =
      let own = bodies row.id_size found.records k in
      let fixed : size_of group ≡ sizes.Fixed (record_size group) =
      cond-false (is_variable group) sizes.Variable (sizes.Fixed (record_size group)) (not_variable (is_variable group) holds) in
      let each : AllByRecursion (IsBody (sizes.Fixed (record_size group))) own =
      subst (λ (size : Size). AllByRecursion (IsBody size) own) fixed
      (bodies_whole row _ found.records is.records.rest is.records.id_size is.records.split k group there) in
      let size : layouts.record_size contents.shape ≡ record_size group = ap layouts.record_size held.shape in
      let content : contents.content ≡ joined own = held.content ∙ ap joined (take_all (length own) own (omega arith)) in
      ap (λ (n : ℕ). bytes_at n contents.content (i * n)) size
      ∙ ap (λ (bytes : List ℕ). bytes_at (record_size group) bytes (i * record_size group)) content
      ∙ record_there (record_size group) own i body each here

  sample_is : (r : ℕ × Record) → slice_get found.records r.0 ≡ Some r.1 → is_sample row r ≡ true → (sample : Sample) × IsSampleOf found r sample
  sample_is r there passes =
      let k = r.1.which in
      let in_row = in_group (slice_get row.groups k) passes in
      let group = in_row.0 in
      let from_zero : 0 + k ≡ k = omega arith in
      let picked : slice_get (sample_groups row) (sample_number row k) ≡ Some (k, group) =
      group_at row.groups k 0 group in_row.1 in_row.2 ∙ ap (λ (n : ℕ). Some (n, group)) from_zero in
      let beside = zip_at (IsGroupContents f row found.records) (sample_groups row) found.groups (sample_number row k) (k, group) is.groups picked in
      let contents = beside.0 in
      let own = bodies row.id_size found.records k in
      let i = index_of found.records r in
      let body = body_of row r in
      let here : slice_get own i ≡ Some body = body_at row.id_size k found.records r.0 r.1 there refl in
      let count : contents.count ≡ length own = beside.2.count in
      let below : i < contents.count = subst (λ (n : ℕ). i < n) (sym count) (slice_get_within own i body here) in
      let sample = beside.2.samples.each_sample i below in
      let same : record_at contents.shape contents.content i ≡ body = record_is k group contents in_row.1 in_row.2 beside.2 i body here in (
        record { group = sample_number row k; values = sample.0 },
        record {
          contents = contents;
          holds = beside.1;
          group = refl;
          values =
              sym (ap (λ (bytes : List ℕ). sample_of contents.shape.rows (take contents.shape.data_bytes bytes) (drop contents.shape.data_bytes bytes) contents.streams i)
              same)
              ∙ sample.1;
        },
      )

  pub has_samples : (samples : List Sample) × IsRecovered f samples
  has_samples =
      let all = each_passes (is_sample row) (IsSampleOf found) (λ (r : ℕ × Record). slice_get found.records r.0 ≡ Some r.1) sample_is
      (enumerate_from 0 found.records) (all_there found.records) in
      (all.0, record { found = found; recovery = is; each = all.1 })
