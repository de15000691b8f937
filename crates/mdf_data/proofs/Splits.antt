-- The records that are found are a split of the stream, and a stream has one split.
use Rattle.std.proofs.Common.{◌≡◌, ℕ, zero, suc, List, [], ◌∷◌, ◌++◌, length, take, drop, replicate, refl, sym, ◌∙◌, ap, subst, append_assoc}
use Rattle.std.proofs.lemmas.List.{take_at, drop_at}
use Rattle.std.specs.List.{flat_map}
use Rattle.mdf_format.specs.Number.{le_number}
use Rattle.mdf_data.specs.declared.known.Size.{Size}
use Rattle.mdf_data.specs.declared.known.Size.TheVariants as sizes
use Rattle.mdf_data.specs.declared.known.Known.{Known}
use Rattle.mdf_data.specs.declared.known.Group.{Group}
use Rattle.mdf_data.specs.Record.{group_of}
use Rattle.mdf_data.specs.Split.{Record, IsBody, IsRecord, IsAlone, IsSplitBy, IsAllRest, empty_record, IsSplitAlone, IsRecordSplit}
use Rattle.mdf_block.proofs.Cases.{some_injective}

-- two lists that begin another one and are as long are one, and so are their rests
front_same : (xs ys a b : List ℕ) → xs ++ a ≡ ys ++ b → length xs ≡ length ys → xs ≡ ys
front_same xs ys a b same long =
    sym (take_at xs a (length xs) refl) ∙ ap (take (length xs)) same ∙ take_at ys b (length xs) (sym long)

rest_same : (xs ys a b : List ℕ) → xs ++ a ≡ ys ++ b → length xs ≡ length ys → a ≡ b
rest_same xs ys a b same long =
    sym (drop_at xs a (length xs) refl) ∙ ap (drop (length xs)) same ∙ drop_at ys b (length xs) (sym long)

-- a kind of records of which at most one begins a stream
abbrev IsOneKind : (Record → Type 0) → Type 0
IsOneKind Whole = (r s : Record) (xs ys : List ℕ) → Whole r → Whole s → r.bytes ++ xs ≡ s.bytes ++ ys → r ≡ s

-- then a stream has one split
splits_agree : (Whole : Record → Type 0) → IsOneKind Whole → (stream : List ℕ) (xs ys : List Record) (a b : List ℕ)
    → IsSplitBy Whole stream xs a → IsSplitBy Whole stream ys b → (xs ≡ ys) × (a ≡ b)
splits_agree Whole one stream [] [] a b split_x split_y = (refl, sym split_x.whole ∙ split_y.whole)
splits_agree Whole one stream [] (y ∷ ys) a b split_x split_y =
    absurd (split_x.none y (flat_map (λ (r : Record). r.bytes) ys ++ b) split_y.each.0
    (sym split_x.whole ∙ split_y.whole ∙ append_assoc y.bytes (flat_map (λ (r : Record). r.bytes) ys) b))
splits_agree Whole one stream (x ∷ xs) [] a b split_x split_y =
    absurd (split_y.none x (flat_map (λ (r : Record). r.bytes) xs ++ a) split_x.each.0
    (sym split_y.whole ∙ split_x.whole ∙ append_assoc x.bytes (flat_map (λ (r : Record). r.bytes) xs) a))
splits_agree Whole one stream (x ∷ xs) (y ∷ ys) a b split_x split_y =
    let rest_x = flat_map (λ (r : Record). r.bytes) xs ++ a in
    let rest_y = flat_map (λ (r : Record). r.bytes) ys ++ b in
    let is_x : stream ≡ x.bytes ++ rest_x = split_x.whole ∙ append_assoc x.bytes (flat_map (λ (r : Record). r.bytes) xs) a in
    let is_y : stream ≡ y.bytes ++ rest_y = split_y.whole ∙ append_assoc y.bytes (flat_map (λ (r : Record). r.bytes) ys) b in
    let both : x.bytes ++ rest_x ≡ y.bytes ++ rest_y = sym is_x ∙ is_y in
    let same : x ≡ y = one x y rest_x rest_y split_x.each.0 split_y.each.0 both in
    let rests : rest_x ≡ rest_y = rest_same x.bytes y.bytes rest_x rest_y both (ap (λ (r : Record). length r.bytes) same) in
    let behind =
    splits_agree Whole one rest_x xs ys a b (record { whole = refl; each = split_x.each.1; none = split_x.none })
    (record { whole = rests; each = split_y.each.1; none = split_y.none }) in
    (ap (λ (r : Record). r ∷ xs) same ∙ ap (λ (rs : List Record). y ∷ rs) behind.0, behind.1)

-- records with ids, and records of one length, are such kinds
bodies_same : (size : Size) (xs ys a b : List ℕ) → IsBody size xs → IsBody size ys → xs ++ a ≡ ys ++ b → xs ≡ ys
bodies_same (sizes.Fixed n) xs ys a b body_x body_y same = front_same xs ys a b same (body_x ∙ sym body_y)
bodies_same sizes.Variable xs ys a b body_x body_y same =
    let first : body_x.size ++ (body_x.value ++ a) ≡ body_y.size ++ (body_y.value ++ b) =
    sym (ap (λ (zs : List ℕ). zs ++ a) body_x.body_is ∙ append_assoc body_x.size body_x.value a)
    ∙ same ∙ ap (λ (zs : List ℕ). zs ++ b) body_y.body_is ∙ append_assoc body_y.size body_y.value b in
    let sizes_same = front_same body_x.size body_y.size _ _ first (body_x.four ∙ sym body_y.four) in
    let behind = rest_same body_x.size body_y.size _ _ first (body_x.four ∙ sym body_y.four) in
    let values_same = front_same body_x.value body_y.value a b behind (sym body_x.long ∙ ap le_number sizes_same ∙ body_y.long) in
    body_x.body_is ∙ ap (λ (zs : List ℕ). zs ++ body_x.value) sizes_same ∙ ap (λ (zs : List ℕ). body_y.size ++ zs) values_same ∙ sym body_y.body_is

record_same : (r s : Record) → r.which ≡ s.which → r.bytes ≡ s.bytes → r ≡ s
record_same r s which bytes =
    ap (λ (n : ℕ). record { which = n; bytes = r.bytes }) which ∙ ap (λ (xs : List ℕ). record { which = s.which; bytes = xs }) bytes

one_record : (id_size : ℕ) (known : List Known) → IsOneKind (IsRecord id_size known)
one_record id_size known r s xs ys is_r is_s same =
    let first : is_r.id ++ (is_r.body ++ xs) ≡ is_s.id ++ (is_s.body ++ ys) =
    sym (ap (λ (zs : List ℕ). zs ++ xs) is_r.bytes_are ∙ append_assoc is_r.id is_r.body xs)
    ∙ same ∙ ap (λ (zs : List ℕ). zs ++ ys) is_s.bytes_are ∙ append_assoc is_s.id is_s.body ys in
    let long = is_r.long ∙ sym is_s.long in
    let ids = front_same is_r.id is_s.id _ _ first long in
    let behind = rest_same is_r.id is_s.id _ _ first long in
    let groups : record { which = r.which; size = is_r.size } ≡ record { which = s.which; size = is_s.size } =
    some_injective {A = Group} _ _ (sym is_r.group ∙ ap (λ (id : List ℕ). group_of known (le_number id) 0) ids ∙ is_s.group) in
    let sizes_same : is_r.size ≡ is_s.size = ap (λ (g : Group). g.size) groups in
    let bodies = bodies_same is_s.size is_r.body is_s.body xs ys (subst (λ (size : Size). IsBody size is_r.body) sizes_same is_r.body_is) is_s.body_is behind in
    record_same r s (ap (λ (g : Group). g.which) groups)
    (is_r.bytes_are ∙ ap (λ (zs : List ℕ). zs ++ is_r.body) ids ∙ ap (λ (zs : List ℕ). is_s.id ++ zs) bodies ∙ sym is_s.bytes_are)

one_alone : (size : ℕ) → IsOneKind (IsAlone size)
one_alone size r s xs ys is_r is_s same =
    record_same r s (is_r.which ∙ sym is_s.which) (front_same r.bytes s.bytes xs ys same (is_r.long ∙ sym is_s.long))

all_rest_agree : (stream : List ℕ) (said xs ys : List Record) (a b : List ℕ) → IsAllRest stream said xs a → IsAllRest stream said ys b
    → (xs ≡ ys) × (a ≡ b)
all_rest_agree stream said xs ys a b is_x is_y = (is_x.records_are ∙ sym is_y.records_are, is_x.rest_is ∙ sym is_y.rest_is)

alone_agree : (empties : ℕ) (size : Size) (stream : List ℕ) (xs ys : List Record) (a b : List ℕ) → IsSplitAlone empties size stream xs a
    → IsSplitAlone empties size stream ys b → (xs ≡ ys) × (a ≡ b)
alone_agree empties (sizes.Fixed zero) stream xs ys a b is_x is_y = all_rest_agree stream (replicate empties empty_record) xs ys a b is_x is_y
alone_agree empties (sizes.Fixed (suc n)) stream xs ys a b is_x is_y = splits_agree (IsAlone (suc n)) (one_alone (suc n)) stream xs ys a b is_x is_y
alone_agree empties sizes.Variable stream xs ys a b is_x is_y = all_rest_agree stream [] xs ys a b is_x is_y

-- two splits of a stream are one
pub record_splits_agree : (stream : List ℕ) (id_size : ℕ) (known : List Known) (empties : ℕ) (xs ys : List Record) (a b : List ℕ)
    → IsRecordSplit stream id_size known empties xs a → IsRecordSplit stream id_size known empties ys b → (xs ≡ ys) × (a ≡ b)
record_splits_agree stream zero [] empties xs ys a b is_x is_y = all_rest_agree stream [] xs ys a b is_x is_y
record_splits_agree stream zero (group ∷ known) empties xs ys a b is_x is_y = alone_agree empties group.size stream xs ys a b is_x is_y
record_splits_agree stream (suc n) known empties xs ys a b is_x is_y =
    splits_agree (IsRecord (suc n) known) (one_record (suc n) known) stream xs ys a b is_x is_y
