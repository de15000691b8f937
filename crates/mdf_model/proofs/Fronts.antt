-- The identification is in the first 64 bytes.
use Rattle.std.proofs.Common.{◌≡◌, ◌<◌, ◌≤◌, ℕ, Bool, List, length, Option, Some, Ok, Err, refl, sym, ◌∙◌, ap, arith}
use Rattle.std.proofs.lemmas.List.{length-take-le}
use Rattle.std.proofs.lemmas.Bool.{le-leb, lt-leb}
use Rattle.std.specs.Prelude.{false, true, None, IsSome, nat_le, ◌&&◌, ◌||◌, codes, if◌then◌else◌}
use Rattle.std.specs.Str.{bytes_eq}
use Rattle.mdf_format.specs.Number.{le_number, bytes_at}
use Rattle.mdf_num.specs.Span.{IsTold}
use Rattle.mdf_block.specs.Refusal.{Refusal, NotMdf, Version, Read, Refuses, Fails}
use Rattle.mdf_block.proofs.Parts.{bytes_at-bytes_at}
use Rattle.mdf_head.specs.declared.identity.Ident.{Ident}
use Rattle.mdf_head.specs.Ident.{identify}

-- what is found, by the parts that it is read from: whether there are 64 bytes, the first 8, and three numbers
abbrev identify_by : Bool → List ℕ → List ℕ → List ℕ → List ℕ → Read Ident
identify_by long name ver std custom =
    if long && (bytes_eq name (codes "MDF     ") || bytes_eq name (codes "UnFinMF "))
    then (if nat_le 400 (le_number ver) && nat_le (le_number ver) 419
    then Ok (record {
      finalized = bytes_eq name (codes "MDF     ");
      ver = le_number ver;
      std_flags = le_number std;
      custom_flags = le_number custom;
    })
    else Err (Version (le_number ver))) else Err NotMdf

by_parts : (file : List ℕ)
    → identify file ≡ identify_by (nat_le 64 (length file)) (bytes_at 8 file 0) (bytes_at 2 file 28) (bytes_at 2 file 60) (bytes_at 2 file 62)
unfolding identify
by_parts file = refl

-- a file that is shorter has none
pub too_short : (file : List ℕ) → length file < 64 → identify file ≡ Err NotMdf
too_short file short =
    by_parts file
    ∙ ap (λ (long : Bool). identify_by long (bytes_at 8 file 0) (bytes_at 2 file 28) (bytes_at 2 file 60) (bytes_at 2 file 62))
    (lt-leb 64 (length file) short)

-- else it is that of the first 64 bytes
pub front_is : (file : List ℕ) → 64 ≤ length file → identify (bytes_at 64 file 0) ≡ identify file
front_is file long =
    let front = bytes_at 64 file 0 in
    let here : length front ≡ 64 = length-take-le 64 file long in
    let name : bytes_at 8 front 0 ≡ bytes_at 8 file 0 = bytes_at-bytes_at 8 64 0 0 file (omega arith) in
    let ver : bytes_at 2 front 28 ≡ bytes_at 2 file 28 = bytes_at-bytes_at 2 64 28 0 file (omega arith) in
    let std : bytes_at 2 front 60 ≡ bytes_at 2 file 60 = bytes_at-bytes_at 2 64 60 0 file (omega arith) in
    let custom : bytes_at 2 front 62 ≡ bytes_at 2 file 62 = bytes_at-bytes_at 2 64 62 0 file (omega arith) in
    by_parts front
    ∙ ap (λ (b : Bool). identify_by b (bytes_at 8 front 0) (bytes_at 2 front 28) (bytes_at 2 front 60) (bytes_at 2 front 62))
    (le-leb 64 (length front) (omega (arith, here)) ∙ sym (le-leb 64 (length file) long))
    ∙ ap (λ (xs : List ℕ). identify_by (nat_le 64 (length file)) xs (bytes_at 2 front 28) (bytes_at 2 front 60) (bytes_at 2 front 62)) name
    ∙ ap (λ (xs : List ℕ). identify_by (nat_le 64 (length file)) (bytes_at 8 file 0) xs (bytes_at 2 front 60) (bytes_at 2 front 62)) ver
    ∙ ap (λ (xs : List ℕ). identify_by (nat_le 64 (length file)) (bytes_at 8 file 0) (bytes_at 2 file 28) xs (bytes_at 2 front 62)) std
    ∙ ap (λ (xs : List ℕ). identify_by (nat_le 64 (length file)) (bytes_at 8 file 0) (bytes_at 2 file 28) (bytes_at 2 file 60) xs) custom
    ∙ sym (by_parts file)

-- a file that is told is as long as the span says
pub told_length : (told : Option (List ℕ)) (size : ℕ) (file : List ℕ) → IsTold told size → told ≡ Some file → length file ≡ size
told_length told size file whole is = rw is at whole

-- a fault that stands for a refusal is the reason to refuse
pub fails_refuses : {A : Type 0} (refusal : Option Refusal) (read : Read A) → IsSome refusal → Fails refusal read → Refuses refusal read
fails_refuses (Some refusal) read some is = is
fails_refuses None read none is = let wrong : false ≡ true = none in cc
