-- Records of one size that stand one behind the other are the records of a stream without ids.
use Rattle.std.proofs.Common.{◌≡◌, ◌+◌, ◌*◌, ◌<◌, ℕ, zero, suc, Bool, false, not, List, [], ◌∷◌, ◌++◌, length, take, drop, map, replicate, refl, sym, ◌∙◌, ap, subst, arith, append-nil, length-append}
use Rattle.std.specs.Prelude.{◌&&◌, nat_eq, if◌then◌else◌}
use Rattle.std.specs.List.{flat_map, AllByRecursion}
use Rattle.std.proofs.Math.Nat.{suc-mul}
use Rattle.std.proofs.lemmas.List.{take-append-drop, length-take-le, length-drop, drop-drop}
use Rattle.mdf_format.specs.Number.{bytes_at}
use Rattle.mdf_data.specs.declared.known.Size.TheVariants as sizes
use Rattle.mdf_data.specs.Split.{Record, IsAlone, IsSplitAlone, IsRecordSplit, empty_record}
use Rattle.mdf_group.specs.declared.row.GroupRow.{GroupRow}
use Rattle.mdf_group.specs.Group.{is_variable}
use Rattle.mdf_content.specs.Records.{record_size, known_of}
use Rattle.mdf_data.specs.Bodies.{bodies, joined}
use Rattle.mdf_model.specs.Contents.{empties_in}

-- so many pieces of a size, one behind the other
abbrev pub chunks : ℕ → ℕ → List ℕ → List (List ℕ)
chunks size zero content = []
chunks size (suc n) content = take size content ∷ chunks size n (drop size content)

-- records of the one group
abbrev pub alone : List ℕ → Record
alone bytes = record { which = 0; bytes = bytes }

abbrev pub records_of : List (List ℕ) → List Record
records_of lists = map alone lists

pub length-chunks : (size n : ℕ) (content : List ℕ) → length (chunks size n content) ≡ n
length-chunks size zero content = refl
length-chunks size (suc n) content = ap suc (length-chunks size n (drop size content))

-- what is left behind the first piece
rest_long : (size n : ℕ) (content : List ℕ) → length content ≡ suc n * size → length (drop size content) ≡ n * size
rest_long size n content long = omega (arith, long, suc-mul n size, length-drop size content)

first_long : (size n : ℕ) (content : List ℕ) → length content ≡ suc n * size → length (take size content) ≡ size
first_long size n content long = length-take-le size content (omega (arith, long, suc-mul n size))

pub chunks_joined : (size n : ℕ) (content : List ℕ) → length content ≡ n * size → joined (chunks size n content) ≡ content
chunks_joined size zero [] long = refl
chunks_joined size zero (byte ∷ content) long = absurd (omega (arith, long))
chunks_joined size (suc n) content long =
    ap (λ (rest : List ℕ). take size content ++ rest) (chunks_joined size n (drop size content) (rest_long size n content long))
    ∙ take-append-drop size content

-- what holds of the bytes at each place holds of each piece
pub all_chunks : (P : List ℕ → Type 0) (size n : ℕ) (content : List ℕ) → ((i : ℕ) → i < n → P (bytes_at size content (i * size)))
    → AllByRecursion P (chunks size n content)
all_chunks P size zero content each = tt
all_chunks P size (suc n) content each =
    let none : 0 * size ≡ 0 = grind arith in (
      subst (λ (at : ℕ). P (bytes_at size content at)) none (each 0 (omega arith)),
      all_chunks P size n (drop size content) (λ i below.
          let next : suc i * size ≡ size + i * size = omega (arith, suc-mul i size) in
          let same : bytes_at size content (suc i * size) ≡ bytes_at size (drop size content) (i * size) =
          ap (λ (at : ℕ). bytes_at size content at) next ∙ ap (take size) (sym (drop-drop (i * size) size content)) in
          subst P same (each (suc i) (omega (arith, below)))),
    )

-- the records without ids are the pieces
pub bodies_are : (lists : List (List ℕ)) → bodies 0 (records_of lists) 0 ≡ lists
bodies_are [] = refl
bodies_are (bytes ∷ lists) = ap (λ (rest : List (List ℕ)). bytes ∷ rest) (bodies_are lists)

bytes_are : (lists : List (List ℕ)) → flat_map (λ (r : Record). r.bytes) (records_of lists) ≡ joined lists
bytes_are [] = refl
bytes_are (bytes ∷ lists) = ap (λ (rest : List ℕ). bytes ++ rest) (bytes_are lists)

-- pieces without bytes
empties : (n : ℕ) (content : List ℕ) → records_of (chunks 0 n content) ≡ replicate n empty_record
empties zero content = refl
empties (suc n) content = ap (λ (rest : List Record). empty_record ∷ rest) (empties n content)

all_alone : (size n : ℕ) (content : List ℕ) → length content ≡ n * size → AllByRecursion (IsAlone size) (records_of (chunks size n content))
all_alone size zero content long = tt
all_alone size (suc n) content long =
    (record { which = refl; long = first_long size n content long }, all_alone size n (drop size content) (rest_long size n content long))

no_bytes : (content : List ℕ) → length content ≡ 0 → [] ≡ content
no_bytes [] long = refl
no_bytes (byte ∷ content) long = absurd (omega (arith, long))

alone_split : (size n said : ℕ) (content : List ℕ) → length content ≡ n * size → (size ≡ 0 → said ≡ n)
    → IsSplitAlone said (sizes.Fixed size) content (records_of (chunks size n content)) []
alone_split zero n said content long same = record {
  records_are = empties n content ∙ ap (λ (k : ℕ). replicate k empty_record) (sym (same refl));
  rest_is = no_bytes content (let none : n * 0 ≡ 0 = grind arith in omega (arith, long, none));
}
alone_split (suc size) n said content long same = record {
  whole = sym (append-nil (flat_map (λ (r : Record). r.bytes) (records_of (chunks (suc size) n content)))
      ∙ bytes_are (chunks (suc size) n content)
      ∙ chunks_joined (suc size) n content long);
  each = all_alone (suc size) n content long;
  none = λ r more whole is. omega (arith, whole.long, ap length is, length-append r.bytes more);
}

-- how many empty records are said, where the group holds no values
said_some : (size cycles : ℕ) → size ≡ 0 → (if not false && nat_eq size 0 then cycles else 0) ≡ cycles
said_some size cycles none = ap (λ (n : ℕ). if nat_eq n 0 then cycles else 0) none

-- the records of a group of samples that stands alone
pub group_split : (group : GroupRow) (content : List ℕ) → is_variable group ≡ false → length content ≡ group.cycles * record_size group
    → IsRecordSplit content 0 (map known_of (group ∷ [])) (empties_in (group ∷ [])) (records_of (chunks (record_size group) group.cycles content)) []
group_split group content samples long =
    let size = record_size group in
    let records = records_of (chunks size group.cycles content) in
    subst (λ (b : Bool). IsSplitAlone (if not b && nat_eq size 0 then group.cycles else 0) (if b then sizes.Variable else sizes.Fixed size) content records [])
    (sym samples)
    (alone_split size group.cycles (if not false && nat_eq size 0 then group.cycles else 0) content long (said_some size group.cycles))
