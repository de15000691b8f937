-- The tests of a block, and what `block` finds.
use Rattle.std.proofs.Common.{◌≡◌, ℕ, Bool, true, false, cond, List, Ok, Err, refl, sym, ◌∙◌, ◌⊎◌, inl, inr, codes}
use Rattle.std.proofs.lemmas.Bool.{leb-true, le-leb, eqb-true, eq-eqb, and_parts, and_from, or_cases, or_left, or_right, false_from_ne_true, cond-true, cond-false, true≢false}
use Rattle.std.proofs.lemmas.Slice.Eq.{bytes_eq-Decides}
use Rattle.mdf_format.specs.Number.{bytes_at}
use Rattle.mdf_format.specs.Block.{name_of, IsBlock}
use Rattle.mdf_format.specs.declared.kind.Kind.{Kind}
use Rattle.mdf_block.specs.declared.place.BlockAt.{BlockAt}
use Rattle.mdf_block.specs.declared.fault.BlockFault.{BlockFault}
use Rattle.mdf_block.specs.declared.fault.BlockFault.TheVariants as faults
use Rattle.mdf_block.specs.Refusal.{Refusal, Bad, Compressed, Refuses}
use Rattle.mdf_block.specs.Block.{is_block, is_data, is_compressed, IsCompressed, the_block, block, block_refusal, HasNoBlock}

-- which way a test went
pub chosen : {A : Type 0} (b : Bool) (x y z : A) → cond b x y ≡ z → ((b ≡ true) × (x ≡ z)) ⊎ ((b ≡ false) × (y ≡ z))
chosen true x y z same = inl (refl, same)
chosen false x y z same = inr (refl, same)

pub is_block_true : (f : List ℕ) (at : ℕ) (kind : Kind) → is_block f at kind ≡ true → IsBlock f at kind
is_block_true f at kind holds =
    let five = and_parts _ _ holds in
    let four = and_parts _ _ five.0 in
    let three = and_parts _ _ four.0 in
    let two = and_parts _ _ three.0 in
    let one = and_parts _ _ two.0 in record {
      on_eight = eqb-true _ _ one.0;
      named = (bytes_eq-Decides (bytes_at 4 f at) (name_of kind)).0 one.1;
      headed = leb-true _ _ two.1;
      whole = leb-true _ _ three.1;
      linked = leb-true _ _ four.1;
      filled = leb-true _ _ five.1;
    }

pub block_is_true : (f : List ℕ) (at : ℕ) (kind : Kind) → IsBlock f at kind → is_block f at kind ≡ true
block_is_true f at kind is =
    and_from _ _ (and_from _ _ (and_from _ _ (and_from _ _ (and_from _ _
    (eq-eqb _ _ is.on_eight)
    ((bytes_eq-Decides (bytes_at 4 f at) (name_of kind)).1 is.named))
    (le-leb _ _ is.headed))
    (le-leb _ _ is.whole))
    (le-leb _ _ is.linked))
    (le-leb _ _ is.filled)

pub is_block_false : (f : List ℕ) (at : ℕ) (kind : Kind) → (IsBlock f at kind → ⊥) → is_block f at kind ≡ false
is_block_false f at kind none = false_from_ne_true (is_block f at kind) (λ yes. none (is_block_true f at kind yes))

pub not_block : (f : List ℕ) (at : ℕ) (kind : Kind) → is_block f at kind ≡ false → IsBlock f at kind → ⊥
not_block f at kind out is = true≢false (sym (block_is_true f at kind is) ∙ out)

pub is_compressed_true : (f : List ℕ) (at : ℕ) (kind : Kind) → is_compressed f at kind ≡ true → IsCompressed f at kind
is_compressed_true f at kind holds =
    let two = and_parts _ _ holds in
    let one = and_parts _ _ two.0 in record {
      is_wanted = one.0;
      on_eight = eqb-true _ _ one.1;
      named = elim (or_cases _ _ two.1) [
        | inl first ↦ inl ((bytes_eq-Decides (bytes_at 4 f at) (codes "##DZ")).0 first)
        | inr second ↦ inr ((bytes_eq-Decides (bytes_at 4 f at) (codes "##HL")).0 second)
      ];
    }

pub compressed_is_true : (f : List ℕ) (at : ℕ) (kind : Kind) → IsCompressed f at kind → is_compressed f at kind ≡ true
compressed_is_true f at kind is =
    and_from _ _ (and_from _ _ is.is_wanted (eq-eqb _ _ is.on_eight)) (elim is.named [
      | inl first ↦ or_left _ _ ((bytes_eq-Decides (bytes_at 4 f at) (codes "##DZ")).1 first)
      | inr second ↦ or_right _ _ ((bytes_eq-Decides (bytes_at 4 f at) (codes "##HL")).1 second)
    ])

pub not_compressed : (f : List ℕ) (at : ℕ) (kind : Kind) → is_compressed f at kind ≡ false → IsCompressed f at kind → ⊥
not_compressed f at kind out is = true≢false (sym (compressed_is_true f at kind is) ∙ out)

-- what `block` finds, by the three ways of its tests
pub block_some : (f : List ℕ) (at : ℕ) (kind : Kind) → is_compressed f at kind ≡ false → IsBlock f at kind
    → block f at kind ≡ Ok (the_block f at kind)
unfolding block
block_some f at kind plain is =
    cond-false (is_compressed f at kind) _ _ plain ∙ cond-true (is_block f at kind) _ _ (block_is_true f at kind is)

pub block_none : (f : List ℕ) (at : ℕ) (kind : Kind) → is_compressed f at kind ≡ false → (IsBlock f at kind → ⊥)
    → block f at kind ≡ Err (Bad at kind)
unfolding block
block_none f at kind plain none =
    cond-false (is_compressed f at kind) _ _ plain ∙ cond-false (is_block f at kind) _ _ (is_block_false f at kind none)

pub block_packed : (f : List ℕ) (at : ℕ) (kind : Kind) → is_compressed f at kind ≡ true
    → block f at kind ≡ Err (Compressed at)
unfolding block
block_packed f at kind packed = cond-true (is_compressed f at kind) _ _ packed

-- a block that is found stands there, and is the one that stands there
pub block_found : (f : List ℕ) (at : ℕ) (kind : Kind) (b : BlockAt) → block f at kind ≡ Ok b
    → IsBlock f at kind × (b ≡ the_block f at kind)
unfolding block
block_found f at kind b found = elim (chosen (is_compressed f at kind) _ _ _ found) [
  | inl packed ↦ let wrong : Err (Compressed at) ≡ Ok b = packed.1 in cc
  | inr plain ↦ elim (chosen (is_block f at kind) _ _ _ plain.1) [
    | inl here ↦ let same : Ok (the_block f at kind) ≡ Ok b = here.1 in (is_block_true f at kind here.0, cc)
    | inr out ↦ let wrong : Err (Bad at kind) ≡ Ok b = out.1 in cc
  ]
]

-- a refusal says why there is no block
pub block_refused : (f : List ℕ) (at : ℕ) (kind : Kind) (fault : BlockFault) → Refuses (block_refusal fault) (block f at kind)
    → HasNoBlock f at kind fault
unfolding block
block_refused f at kind (faults.Bad bad want) refused = elim (chosen (is_compressed f at kind) _ _ _ refused) [
  | inl packed ↦ let wrong : Err (Compressed at) ≡ Err (Bad bad want) = packed.1 in cc
  | inr plain ↦ elim (chosen (is_block f at kind) _ _ _ plain.1) [
    | inl here ↦ let wrong : Ok (the_block f at kind) ≡ Err (Bad bad want) = here.1 in cc
    | inr out ↦ let same : Err (Bad at kind) ≡ Err (Bad bad want) = out.1 in
        (cc, cc, not_block f at kind out.0, not_compressed f at kind plain.0)
  ]
]
block_refused f at kind (faults.Compressed bad) refused = elim (chosen (is_compressed f at kind) _ _ _ refused) [
  | inl packed ↦ let same : Err (Compressed at) ≡ Err (Compressed bad) = packed.1 in (cc, is_compressed_true f at kind packed.0)
  | inr plain ↦ elim (chosen (is_block f at kind) _ _ _ plain.1) [
    | inl here ↦ let wrong : Ok (the_block f at kind) ≡ Err (Compressed bad) = here.1 in cc
    | inr out ↦ let wrong : Err (Bad at kind) ≡ Err (Compressed bad) = out.1 in cc
  ]
]

-- where no data is wanted, what is refused is no whole block
pub block_lacks : (f : List ℕ) (at : ℕ) (kind : Kind) (refusal : Refusal) → is_data kind ≡ false → block f at kind ≡ Err refusal
    → (refusal ≡ Bad at kind) × (IsBlock f at kind → ⊥)
unfolding block
block_lacks f at kind refusal plain refused = elim (chosen (is_compressed f at kind) _ _ _ refused) [
  | inl packed ↦ absurd (true≢false (sym (is_compressed_true f at kind packed.0).is_wanted ∙ plain))
  | inr other ↦ elim (chosen (is_block f at kind) _ _ _ other.1) [
    | inl here ↦ let wrong : Ok (the_block f at kind) ≡ Err refusal = here.1 in cc
    | inr out ↦ let same : Err (Bad at kind) ≡ Err refusal = out.1 in (cc, not_block f at kind out.0)
  ]
]
