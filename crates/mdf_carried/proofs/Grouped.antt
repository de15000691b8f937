-- The samples of each group among those of a recording.
use Rattle.std.proofs.Common.{◌≡◌, ◌+◌, ℕ, zero, suc, List, [], ◌∷◌, length, take, drop, refl, sym, ◌∙◌, ap, subst, inl, inr, arith}
use Rattle.std.specs.Prelude.{Bool, true, false, cond, filter, ◌==◌, slice_get, Option, Some, None}
use Rattle.std.specs.List.{AllByRecursion, AllZip, enumerate_from}
use Rattle.std.proofs.lemmas.Bool.{cond-true, cond-false, cases_eq, eqb-true, eq-eqb, ne_eqb}
use Rattle.std.proofs.lemmas.List.{length-map}
use Rattle.std.proofs.lemmas.Slice.Zip.{AllZip-long}
use Rattle.mdf_data.specs.Split.{Record}
use Rattle.mdf_group.specs.declared.row.GroupRow.{GroupRow}
use Rattle.mdf_group.specs.declared.row.DataRow.{DataRow}
use Rattle.mdf_layout.specs.History.{group_samples}
use Rattle.mdf_layout.specs.Values.{sample_of}
use Rattle.mdf_layout.specs.declared.sample.Sample.{Sample}
use Rattle.mdf_content.specs.declared.contents.Contents.{Contents}
use Rattle.mdf_content.specs.Samples.{record_at, sample_at}
use Rattle.mdf_model.specs.Measurement.{holds_samples}
use Rattle.mdf_data.specs.Bodies.{is_of, bodies}
use Rattle.mdf_model.specs.Contents.{sample_groups}
use Rattle.mdf_block.proofs.Cases.{some_injective, two_ways}
use Rattle.mdf_block.proofs.Picks.{all_there}
use Rattle.mdf_carried.specs.Recovered.{IsGroupContents, Recovery, IsRecovery}
use Rattle.mdf_carried.specs.Samples.{is_sample_in, is_sample, sample_number, index_of, body_of, IsSampleOf, AreSamplesOf, HaveSamples, sample_records}
use Rattle.mdf_carried.proofs.Samplings.{body_at, record_is, in_group}

-- what stands beside an item of the second list
zip_back : {A B : Type 0} (R : A → B → Type 0) (xs : List A) (ys : List B) (i : ℕ) (y : B) → AllZip R xs ys → slice_get ys i ≡ Some y
    → (x : A) × (slice_get xs i ≡ Some x) × R x y
zip_back {A} {B} R xs [] i y all is = let wrong : ◌≡◌ {A = Option B} None (Some y) = is in cc
zip_back R [] (first ∷ ys) i y all is = absurd all
zip_back {A} {B} R (x ∷ xs) (first ∷ ys) zero y all is = (x, refl, subst (λ (z : B). R x z) (some_injective first y is) all.0)
zip_back R (x ∷ xs) (first ∷ ys) (suc i) y all is = zip_back R xs ys i y all.1 is

-- those that pass a test, where what stands beside them passes with them
beside_by : {A B : Type 0} (R : A → B → Type 0) (b c : Bool) (x : A) (y : B) (xs : List A) (ys : List B) → c ≡ b → R x y → AllZip R xs ys
    → AllZip R (cond b (x ∷ xs) xs) (cond c (y ∷ ys) ys)
beside_by R true true x y xs ys same one rest = (one, rest)
beside_by R true false x y xs ys same one rest = let wrong : false ≡ true = same in cc
beside_by R false true x y xs ys same one rest = let wrong : true ≡ false = same in cc
beside_by R false false x y xs ys same one rest = rest

zip_passed : {A B : Type 0} (R : A → B → Type 0) (s : A → Bool) (t : B → Bool) (Known : A → Type 0)
    → ((x : A) (y : B) → Known x → R x y → t y ≡ s x) → (xs : List A) (ys : List B) → AllByRecursion Known xs → AllZip R xs ys
    → AllZip R (filter s xs) (filter t ys)
zip_passed R s t Known one [] [] known all = tt
zip_passed R s t Known one [] (y ∷ ys) known all = absurd all
zip_passed R s t Known one (x ∷ xs) [] known all = absurd all
zip_passed R s t Known one (x ∷ xs) (y ∷ ys) known all =
    beside_by R (s x) (t y) x y (filter s xs) (filter t ys) (one x y known.0 all.0) all.0 (zip_passed R s t Known one xs ys known.1 all.1)

-- what is known of those that passed
known_passed : {A : Type 0} (P : A → Type 0) (t : A → Bool) (xs : List A) → AllByRecursion P xs → AllByRecursion (λ (x : A). P x × (t x ≡ true)) (filter t xs)
known_passed P t [] known = tt
known_passed {A} P t (x ∷ xs) known =
    let rest = known_passed P t xs known.1 in
    let Known : List A → Type 0 = λ ys. AllByRecursion (λ (y : A). P y × (t y ≡ true)) ys in
    elim (two_ways (t x)) [
      | inl passes ↦ subst Known (sym (cond-true (t x) (x ∷ filter t xs) (filter t xs) passes)) ((known.0, passes), rest)
      | inr fails ↦ subst Known (sym (cond-false (t x) (x ∷ filter t xs) (filter t xs) fails)) rest
    ]

-- a test that passes less leaves what the other left
filter_twice : {A : Type 0} (s t : A → Bool) → ((x : A) → t x ≡ true → s x ≡ true) → (xs : List A) → filter t (filter s xs) ≡ filter t xs
filter_twice s t less [] = refl
filter_twice {A} s t less (x ∷ xs) =
    let rest = filter_twice s t less xs in
    elim (two_ways (t x)) [
      | inl passes ↦
          ap (filter t) (cond-true (s x) (x ∷ filter s xs) (filter s xs) (less x passes))
          ∙ cond-true (t x) (x ∷ filter t (filter s xs)) (filter t (filter s xs)) passes
          ∙ ap (λ (ys : List A). x ∷ ys) rest
          ∙ sym (cond-true (t x) (x ∷ filter t xs) (filter t xs) passes)
      | inr fails ↦
          let without : filter t (cond (s x) (x ∷ filter s xs) (filter s xs)) ≡ filter t (filter s xs) = elim (two_ways (s x)) [
            | inl other ↦
                ap (filter t) (cond-true (s x) (x ∷ filter s xs) (filter s xs) other)
                ∙ cond-false (t x) (x ∷ filter t (filter s xs)) (filter t (filter s xs)) fails
            | inr none ↦ ap (filter t) (cond-false (s x) (x ∷ filter s xs) (filter s xs) none)
          ] in
          without ∙ rest ∙ sym (cond-false (t x) (x ∷ filter t xs) (filter t xs) fails)
    ]

-- an item that passed, with its number, and how many passed before it
record IsItem {A : Type 0} (t : A → Bool) (xs : List A) (from i : ℕ) (x : ℕ × A) : Type 0 where
  j : ℕ
  number : x.0 ≡ from + j
  there : slice_get xs j ≡ Some x.1
  passes : t x.1 ≡ true
  index : length (filter t (take j xs)) ≡ i

item_at : {A : Type 0} (t : A → Bool) (xs : List A) (from i : ℕ) (x : ℕ × A)
    → slice_get (filter (λ (y : ℕ × A). t y.1) (enumerate_from from xs)) i ≡ Some x → IsItem t xs from i x
item_at {A} t [] from i x is = let wrong : ◌≡◌ {A = Option (ℕ × A)} None (Some x) = is in cc
item_at {A} t (first ∷ xs) from i x is =
    let rest = filter (λ (y : ℕ × A). t y.1) (enumerate_from (from + 1) xs) in
    elim (two_ways (t first)) [
      | inl passes ↦
          first_item t first xs from i x passes (item_at t xs (from + 1))
          (sym (ap (λ (ys : List (ℕ × A)). slice_get ys i) (cond-true (t first) ((from, first) ∷ rest) rest passes)) ∙ is)
      | inr fails ↦
          let later = item_at t xs (from + 1) i x
          (sym (ap (λ (ys : List (ℕ × A)). slice_get ys i) (cond-false (t first) ((from, first) ∷ rest) rest fails)) ∙ is) in
          record {
            j = suc later.j;
            number = omega (arith, later.number);
            there = later.there;
            passes = later.passes;
            index = ap length (cond-false (t first) (first ∷ filter t (take later.j xs)) (filter t (take later.j xs)) fails) ∙ later.index;
          }
    ]
  where
    first_item : {A : Type 0} (t : A → Bool) (first : A) (xs : List A) (from i : ℕ) (x : ℕ × A) → t first ≡ true
        → ((i : ℕ) (x : ℕ × A) → slice_get (filter (λ (y : ℕ × A). t y.1) (enumerate_from (from + 1) xs)) i ≡ Some x → IsItem t xs (from + 1) i x)
        → slice_get ((from, first) ∷ filter (λ (y : ℕ × A). t y.1) (enumerate_from (from + 1) xs)) i ≡ Some x → IsItem t (first ∷ xs) from i x
    first_item {A} t first xs from zero x passes behind is =
        let same : (from, first) ≡ x = some_injective (from, first) x is in
        subst (IsItem t (first ∷ xs) from 0) same (record { j = 0; number = omega arith; there = refl; passes = passes; index = refl })
    first_item {A} t first xs from (suc i) x passes behind is =
        let later = behind i x is in
        record {
          j = suc later.j;
          number = omega (arith, later.number);
          there = later.there;
          passes = later.passes;
          index =
              ap length (cond-true (t first) (first ∷ filter t (take later.j xs)) (filter t (take later.j xs)) passes)
              ∙ ap (λ (m : ℕ). suc m) later.index;
        }

long_by : {A B : Type 0} (b : Bool) (x : A) (y : B) (xs : List A) (ys : List B) → length xs ≡ length ys
    → length (cond b (x ∷ xs) xs) ≡ length (cond b (y ∷ ys) ys)
long_by true x y xs ys same = ap (λ (m : ℕ). suc m) same
long_by false x y xs ys same = same

pub passed_long : {A : Type 0} (t : A → Bool) (from : ℕ) (xs : List A)
    → length (filter (λ (y : ℕ × A). t y.1) (enumerate_from from xs)) ≡ length (filter t xs)
passed_long t from [] = refl
passed_long {A} t from (x ∷ xs) =
    long_by (t x) (from, x) x (filter (λ (y : ℕ × A). t y.1) (enumerate_from (from + 1) xs)) (filter t xs) (passed_long t (from + 1) xs)

-- items that pass, with as many that pass before them, are one
none_first : (n : ℕ) → suc n ≡ 0 → ⊥
none_first n is = omega (arith, is)

one_number : {A : Type 0} (t : A → Bool) (xs : List A) (m n : ℕ) (x y : A) → slice_get xs m ≡ Some x → slice_get xs n ≡ Some y → t x ≡ true → t y ≡ true
    → length (filter t (take m xs)) ≡ length (filter t (take n xs)) → m ≡ n
one_number {A} t [] m n x y is_x is_y passes_x passes_y same = let wrong : ◌≡◌ {A = Option A} None (Some x) = is_x in cc
one_number t (first ∷ xs) zero zero x y is_x is_y passes_x passes_y same = refl
one_number {A} t (first ∷ xs) zero (suc n) x y is_x is_y passes_x passes_y same =
    let here : first ≡ x = some_injective first x is_x in
    let rest = filter t (take n xs) in
    absurd (none_first (length rest) (sym (ap length (cond-true (t first) (first ∷ rest) rest (ap t here ∙ passes_x))) ∙ sym same))
one_number {A} t (first ∷ xs) (suc m) zero x y is_x is_y passes_x passes_y same =
    let here : first ≡ y = some_injective first y is_y in
    let rest = filter t (take m xs) in
    absurd (none_first (length rest) (sym (ap length (cond-true (t first) (first ∷ rest) rest (ap t here ∙ passes_y))) ∙ same))
one_number {A} t (first ∷ xs) (suc m) (suc n) x y is_x is_y passes_x passes_y same =
    ap (λ (k : ℕ). suc k) (one_number t xs m n x y is_x is_y passes_x passes_y (less (t first) (filter t (take m xs)) (filter t (take n xs)) same))
  where
    less : (b : Bool) (ys zs : List A) → length (cond b (first ∷ ys) ys) ≡ length (cond b (first ∷ zs) zs) → length ys ≡ length zs
    less true ys zs is = omega (arith, is)
    less false ys zs is = is

module _ (f : List ℕ) (found : Recovery) (is : IsRecovery f found) (samples : List Sample) (each : AllZip (IsSampleOf found) (sample_records found) samples) where
  abbrev row : DataRow
  row = found.row

  module _ (g k : ℕ) (group : GroupRow) (contents : Contents) (held : slice_get found.groups g ≡ Some contents) (there : slice_get row.groups k ≡ Some group)
      (holds : holds_samples group ≡ true) (number : sample_number row k ≡ g) (is_contents : IsGroupContents f row found.records (k, group) contents) where
    abbrev of_group : ℕ × Record → Bool
    of_group r = is_of k r.1

    abbrev IsKnown : ℕ × Record → Type 0
    IsKnown r = (slice_get found.records r.0 ≡ Some r.1) × (is_sample row r ≡ true)

    -- a sample is one of the group where its record is
    same_test : (r : ℕ × Record) (sample : Sample) → IsKnown r → IsSampleOf found r sample → (sample.group == g) ≡ of_group r
    same_test r sample known one =
        let in_row = in_group (slice_get row.groups r.1.which) known.1 in
        elim (cases_eq r.1.which k) [
          | inl same ↦
              let equal : sample.group ≡ g = one.group ∙ ap (sample_number row) same ∙ number in
              eq-eqb sample.group g equal ∙ sym (eq-eqb r.1.which k same)
          | inr other ↦
              ne_eqb sample.group g (λ equal. other (one_number holds_samples row.groups r.1.which k in_row.0 group in_row.1 there in_row.2 holds
              (sym one.group ∙ equal ∙ sym number)))
              ∙ sym (ne_eqb r.1.which k other)
        ]

    abbrev own_records : List (ℕ × Record)
    own_records = filter of_group (enumerate_from 0 found.records)

    own_each : AllZip (IsSampleOf found) own_records (group_samples samples g)
    own_each =
        let known = known_passed (λ (r : ℕ × Record). slice_get found.records r.0 ≡ Some r.1) (is_sample row) (enumerate_from 0 found.records)
        (all_there found.records) in
        let passed = zip_passed (IsSampleOf found) of_group (λ (sample : Sample). sample.group == g) IsKnown same_test (sample_records found) samples known each in
        let less : (r : ℕ × Record) → of_group r ≡ true → is_sample row r ≡ true = λ r passes.
        ap (λ (n : ℕ). is_sample_in (slice_get row.groups n)) (eqb-true r.1.which k passes) ∙ ap is_sample_in there ∙ holds in
        subst (λ (rs : List (ℕ × Record)). AllZip (IsSampleOf found) rs (group_samples samples g))
        (filter_twice (is_sample row) of_group less (enumerate_from 0 found.records)) passed

    own_count : length (group_samples samples g) ≡ contents.count
    own_count =
        AllZip-long (IsSampleOf found) own_records (group_samples samples g) own_each
        ∙ passed_long (is_of k) 0 found.records
        ∙ sym (length-map (filter (is_of k) found.records) (λ (r : Record). drop row.id_size r.bytes))
        ∙ sym is_contents.count

    own_sample : (i : ℕ) (sample : Sample) → slice_get (group_samples samples g) i ≡ Some sample
        → sample_at contents.shape contents.content contents.streams i ≡ Some sample.values
    own_sample i sample here =
        let beside = zip_back (IsSampleOf found) own_records (group_samples samples g) i sample own_each here in
        let r = beside.0 in
        let one = beside.2 in
        let item = item_at (is_of k) found.records 0 i r beside.1 in
        let which : r.1.which ≡ k = eqb-true r.1.which k item.passes in
        let at : r.0 ≡ item.j = item.number ∙ from_none item.j in
        let index : index_of found.records r ≡ i =
        ap (λ (n : ℕ). length (filter (is_of n) (take r.0 found.records))) which
        ∙ ap (λ (n : ℕ). length (filter (is_of k) (take n found.records))) at
        ∙ item.index in
        let contents_same : one.contents ≡ contents =
        some_injective one.contents contents (sym one.holds ∙ ap (slice_get found.groups) (ap (sample_number row) which ∙ number) ∙ held) in
        let body : slice_get (bodies row.id_size found.records k) i ≡ Some (body_of row r) =
        ap (slice_get (bodies row.id_size found.records k)) (sym item.index) ∙ body_at row.id_size k found.records item.j r.1 item.there which in
        let bytes : record_at contents.shape contents.content i ≡ body_of row r = record_is f found is k group contents there holds is_contents i (body_of row r) body in
        ap (λ (xs : List ℕ). sample_of contents.shape.rows (take contents.shape.data_bytes xs) (drop contents.shape.data_bytes xs) contents.streams i) bytes
        ∙ ap (λ (n : ℕ). sample_of contents.shape.rows (take contents.shape.data_bytes (body_of row r)) (drop contents.shape.data_bytes (body_of row r)) contents.streams n)
        (sym index)
        ∙ ap (λ (c : Contents). sample_of c.shape.rows (take c.shape.data_bytes (body_of row r)) (drop c.shape.data_bytes (body_of row r)) c.streams (index_of found.records r))
        (sym contents_same)
        ∙ one.values
      where
        from_none : (n : ℕ) → 0 + n ≡ n
        from_none n = omega arith

    own_samples : AreSamplesOf contents (group_samples samples g)
    own_samples = record { count = own_count; each = own_sample }

  pub groups_have_samples : HaveSamples found samples
  groups_have_samples g contents held =
      let beside = zip_back (IsGroupContents f row found.records) (sample_groups row) found.groups g contents is.groups held in
      let item = item_at holds_samples row.groups 0 g beside.0 beside.1 in
      let k : beside.0.0 ≡ item.j = item.number ∙ from_none item.j in
      own_samples g item.j beside.0.1 contents held item.there item.passes item.index
      (subst (λ (n : ℕ). IsGroupContents f row found.records (n, beside.0.1) contents) k beside.2)
    where
      from_none : (n : ℕ) → 0 + n ≡ n
      from_none n = omega arith
