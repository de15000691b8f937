-- The unit at a place, and what a reader finds there.
use Rattle.std.proofs.Common.{◌≡◌, ◌+◌, ◌-◌, ◌≤◌, ℕ, List, get_or, true, Ok, Err, refl, sym, ◌∙◌, ap, subst, inl, inr, ◌⊎◌, arith}
use Rattle.std.proofs.lemmas.Bool.{eq-eqb, eqb-true, eqb-false, cond-true, cond-false, and_from, and_parts, true≢false}
use Rattle.std.specs.Prelude.{◌&&◌, nat_eq}
use Rattle.mdf_format.specs.declared.form.Form.{Form}
use Rattle.mdf_format.specs.declared.form.Form.TheVariants.{Bare, Listed}
use Rattle.mdf_format.specs.Number.{aligned}
use Rattle.mdf_format.specs.Block.{size_at, link_at, IsBlock}
use Rattle.mdf_format.specs.declared.kind.Kind.{Kind}
use Rattle.mdf_format.specs.declared.kind.Kind.TheVariants.{Dl, Dt}
use Rattle.mdf_block.specs.declared.place.BlockAt.{BlockAt}
use Rattle.mdf_block.specs.Refusal.{Refusal, Bad, Read, ◌>>=◌}
use Rattle.mdf_block.specs.Block.{is_block, is_compressed, the_block}
use Rattle.mdf_block.proofs.Wholes.{block_none, block_packed, block_some, is_block_true, is_compressed_true, not_block}
use Rattle.mdf_block.proofs.Cases.{ok_injective, two_ways}
use Rattle.mdf_gate.specs.Units.{data_behind, end_of, is_list, linked_by, list_block, list_by, place_behind, unit, wanted, wanted_of}
use Rattle.mdf_gate.specs.Unit.{block_place, next_place, IsList, IsUnit}
use Rattle.mdf_gate.specs.Fault.{HasNoUnit}

-- this holds and a block is read, or it does not and the file is refused
abbrev Finds : Type 0 → Read BlockAt → BlockAt → Refusal → Type 0
Finds Here read b refusal = (Here × (read ≡ Ok b)) ⊎ ((¬ Here) × (read ≡ Err refusal))

-- a block of data or of a list as it stands is not compressed
packed_data : (file : List ℕ) (at : ℕ) → IsBlock file at Dt → is_compressed file at Dt ≡ true → ⊥
packed_data file at is packs =
    elim (is_compressed_true file at Dt packs).named [
      | inl packed ↦ let wrong : 84 ≡ 90 = ap (λ (xs : List ℕ). get_or xs 3 0) (sym is.named ∙ packed) in omega (arith, wrong)
      | inr listed ↦ let wrong : 68 ≡ 72 = ap (λ (xs : List ℕ). get_or xs 2 0) (sym is.named ∙ listed) in omega (arith, wrong)
    ]

packed_list : (file : List ℕ) (at : ℕ) → IsBlock file at Dl → is_compressed file at Dl ≡ true → ⊥
packed_list file at is packs =
    elim (is_compressed_true file at Dl packs).named [
      | inl packed ↦ let wrong : 76 ≡ 90 = ap (λ (xs : List ℕ). get_or xs 3 0) (sym is.named ∙ packed) in omega (arith, wrong)
      | inr listed ↦ let wrong : 68 ≡ 72 = ap (λ (xs : List ℕ). get_or xs 2 0) (sym is.named ∙ listed) in omega (arith, wrong)
    ]

wanted_finds : (file : List ℕ) (at : ℕ) (kind : Kind) → (IsBlock file at kind → is_compressed file at kind ≡ true → ⊥)
    → Finds (IsBlock file at kind) (wanted file at kind) (the_block file at kind) (Bad at kind)
unfolding wanted
wanted_finds file at kind plain = elim (two_ways (is_compressed file at kind)) [
  | inl packed ↦ inr (λ is. plain is packed, ap (wanted_of at kind) (block_packed file at kind packed))
  | inr other ↦ elim (two_ways (is_block file at kind)) [
    | inl here ↦ let is = is_block_true file at kind here in inl (is, ap (wanted_of at kind) (block_some file at kind other is))
    | inr out ↦ let none = not_block file at kind out in inr (none, ap (wanted_of at kind) (block_none file at kind other none))
  ]
]

data_finds : (file : List ℕ) (at : ℕ) → Finds (IsBlock file at Dt) (wanted file at Dt) (the_block file at Dt) (Bad at Dt)
data_finds file at = wanted_finds file at Dt (packed_data file at)

-- where a block ends
block_end : (file : List ℕ) (at : ℕ) (kind : Kind) → IsBlock file at kind → end_of (the_block file at kind) ≡ at + size_at file at
block_end file at kind is = omega (arith, is.headed)

list_test : (file : List ℕ) (place : ℕ) → IsList file place → is_list file (the_block file place Dl) ≡ true
list_test file place is =
    let b = the_block file place Dl in
    let ends : end_of b ≡ place + 56 = block_end file place Dl is.block ∙ ap (λ (n : ℕ). place + n) is.size in
    let long : end_of b - b.at ≡ 56 = omega (arith, ends) in
    and_from (nat_eq b.links 2 && nat_eq (end_of b - b.at) 56) (nat_eq (link_at file place 1) (end_of b))
    (and_from (nat_eq b.links 2) (nat_eq (end_of b - b.at) 56) (eq-eqb b.links 2 is.links) (eq-eqb (end_of b - b.at) 56 long))
    (eq-eqb (link_at file place 1) (end_of b) (is.names ∙ sym ends))

test_list : (file : List ℕ) (place : ℕ) → IsBlock file place Dl → is_list file (the_block file place Dl) ≡ true → IsList file place
test_list file place block tests =
    let b = the_block file place Dl in
    let outer = and_parts (nat_eq b.links 2 && nat_eq (end_of b - b.at) 56) (nat_eq (link_at file place 1) (end_of b)) tests in
    let inner = and_parts (nat_eq b.links 2) (nat_eq (end_of b - b.at) 56) outer.0 in
    let ends = block_end file place Dl block in
    let size : size_at file place ≡ 56 = omega (arith, eqb-true (end_of b - b.at) 56 inner.1, ends) in record {
      block = block;
      size = size;
      links = eqb-true b.links 2 inner.0;
      names = eqb-true (link_at file place 1) (end_of b) outer.1 ∙ ends ∙ ap (λ (n : ℕ). place + n) size;
    }

list_finds : (file : List ℕ) (place : ℕ) → Finds (IsList file place) (list_block file place) (the_block file place Dl) (Bad place Dl)
unfolding list_block
list_finds file place =
    let b = the_block file place Dl in
    let next : Read BlockAt → Read BlockAt = λ read. read >>= list_by file in
    elim (wanted_finds file place Dl (packed_list file place)) [
      | inl here ↦ elim (two_ways (is_list file b)) [
        | inl tests ↦ inl (test_list file place here.0 tests, ap next here.1 ∙ cond-true (is_list file b) (Ok b) (Err (Bad place Dl)) tests)
        | inr fails ↦ inr (
          λ list. true≢false (sym (list_test file place list) ∙ fails),
          ap next here.1 ∙ cond-false (is_list file b) (Ok b) (Err (Bad place Dl)) fails,
        )
      ]
      | inr none ↦ inr (λ list. none.0 list.block, ap next none.1)
    ]

-- the place behind a unit
pub behind_is : (form : Form) (file : List ℕ) (place : ℕ) → IsUnit form file place → place_behind (the_block file (block_place form place) Dt) ≡ next_place form file place
behind_is form file place unit = ap aligned (block_end file (block_place form place) Dt unit.block)

pub later : (form : Form) (file : List ℕ) (place : ℕ) → IsUnit form file place → place + 1 ≤ next_place form file place
later form file place unit = omega (arith, unit.block.headed)

-- a unit stands there and its data block is read, or none stands there and what is missing is told
abbrev pub UnitFinds : Form → List ℕ → ℕ → Type 0
UnitFinds form file place =
    (IsUnit form file place × (unit form file place ≡ Ok (the_block file (block_place form place) Dt)))
    ⊎ ((at : ℕ) × (want : Kind) × HasNoUnit form file place at want × (unit form file place ≡ Err (Bad at want)))

pub unit_finds : (form : Form) (file : List ℕ) (place : ℕ) → UnitFinds form file place
unfolding unit
unit_finds Bare file place =
    let here = ap (λ (n : ℕ). wanted file n Dt) (omega arith) in
    elim (data_finds file (place + 0)) [
      | inl found ↦ inl (record { led = tt; block = found.0; linked = tt }, here ∙ found.1)
      | inr none ↦ inr (place + 0, Dt, inr (inl (record { led = tt; at_block = refl; kind = refl; none = none.0 })), here ∙ none.1)
    ]
unit_finds Listed file place =
    let list = the_block file place Dl in
    let b = the_block file (place + 56) Dt in
    let test = nat_eq (link_at file place 0) (place_behind b) in
    let behind : Read BlockAt → Read BlockAt = λ read. read >>= data_behind file in
    let linked : Read BlockAt → Read BlockAt = λ read. read >>= linked_by file list in
    elim (list_finds file place) [
      | inl led ↦
          let at : end_of list ≡ place + 56 = block_end file place Dl led.0.block ∙ ap (λ (n : ℕ). place + n) led.0.size in
          let first = ap behind led.1 ∙ ap (λ (n : ℕ). linked (wanted file n Dt)) at in
          elim (data_finds file (place + 56)) [
            | inl found ↦
                let next : place_behind b ≡ next_place Listed file place = ap aligned (block_end file (place + 56) Dt found.0) in
                elim (two_ways test) [
                  | inl on ↦ inl (
                    record { led = led.0; block = found.0; linked = eqb-true (link_at file place 0) (place_behind b) on ∙ next },
                    first ∙ ap linked found.1 ∙ cond-true test (Ok b) (Err (Bad place Dl)) on,
                  )
                  | inr off ↦
                      let other = eqb-false (link_at file place 0) (place_behind b) off in inr (
                        place,
                        Dl,
                        inr (inr (record { led = led.0; block = found.0; at_place = refl; kind = refl; none = λ is. other (is ∙ sym next) })),
                        first ∙ ap linked found.1 ∙ cond-false test (Ok b) (Err (Bad place Dl)) off,
                      )
                ]
            | inr none ↦ inr (
              place + 56,
              Dt,
              inr (inl (record { led = led.0; at_block = refl; kind = refl; none = none.0 })),
              first ∙ ap linked none.1,
            )
          ]
      | inr none ↦ inr (place, Dl, inl (record { at_place = refl; kind = refl; none = none.0 }), ap behind none.1)
    ]

pub not_both : {A : Type 0} (read : Read A) (x : A) (refusal : Refusal) → read ≡ Ok x → read ≡ Err refusal → ⊥
not_both read x refusal found refused = let wrong : ◌≡◌ {A = Read _} (Ok x) (Err refusal) = sym found ∙ refused in cc

pub no_unit : (form : Form) (file : List ℕ) (place at : ℕ) (want : Kind) → HasNoUnit form file place at want → ¬ IsUnit form file place
no_unit form file place at want lacks is = elim lacks [
  | inl list ↦ list.none is.led
  | inr more ↦ elim more [
    | inl block ↦ block.none is.block
    | inr link ↦ link.none is.linked
  ]
]

-- a reader finds the data block of the unit
pub unit_there : (form : Form) (file : List ℕ) (place : ℕ) → IsUnit form file place → unit form file place ≡ Ok (the_block file (block_place form place) Dt)
unit_there form file place is = elim (unit_finds form file place) [
  | inl found ↦ found.1
  | inr none ↦ absurd (no_unit form file place none.0 none.1 none.2 is)
]

-- the data block that a reader finds is that of a unit
pub record IsFoundUnit (form : Form) (file : List ℕ) (place : ℕ) (b : BlockAt) : Type 0 where
  pub unit : IsUnit form file place
  pub is : b ≡ the_block file (block_place form place) Dt

pub unit_found : (form : Form) (file : List ℕ) (place : ℕ) (b : BlockAt) → unit form file place ≡ Ok b → IsFoundUnit form file place b
unit_found form file place b is = elim (unit_finds form file place) [
  | inl found ↦ record { unit = found.0; is = ok_injective b (the_block file (block_place form place) Dt) (sym is ∙ found.1) }
  | inr none ↦ absurd (not_both (unit form file place) b (Bad none.0 none.1) is none.3)
]

pub found_later : (form : Form) (file : List ℕ) (place : ℕ) (b : BlockAt) → IsFoundUnit form file place b → place + 24 ≤ b.body_at
found_later form file place b found = subst (λ (x : BlockAt). place + 24 ≤ x.body_at) (sym found.is) (omega arith)
