-- The unit that is written at a place stands there.
use Rattle.std.proofs.Common.{◌≡◌, ℕ, ◌+◌, ◌-◌, ◌%◌, ◌^◌, ◌≤◌, ◌<◌, List, [], ◌∷◌, ◌++◌, length, get_or, replicate, refl, sym, ◌∙◌, ap, subst, arith, length-append, append_assoc}
use Rattle.std.proofs.lemmas.List.{length-replicate, append-nil, get_or-replicate, get_or-append_right}
use Rattle.std.specs.Int.{to_le_bytes, w32, w64}
use Rattle.mdf_format.specs.Number.{le_number, bytes_at}
use Rattle.mdf_format.specs.Block.{name_of, size_at, links_at, link_at, header_size, body_size, IsBlock}
use Rattle.mdf_format.specs.declared.kind.Kind.TheVariants.{Dl, Dt}
use Rattle.mdf_block.proofs.Laying.{bytes_at-part, le_number-to_le_bytes}
use Rattle.mdf_block.proofs.Standing.{name_part, size_part, count_part, body_part, before_links, length-header, header}
use Rattle.mdf_format.specs.Form.{lead}
use Rattle.mdf_gate.specs.Unit.{block_place, IsLed, IsLinkedOn, IsList, IsUnit, unit_data, next_place}
use Rattle.mdf_gate.specs.Written.{block_header, lead_bytes, list_block, payload_of, room_of, unit_bytes}
use Rattle.mdf_format.specs.declared.form.Form.{Form}
use Rattle.mdf_format.specs.declared.form.Form.TheVariants.{Bare, Listed}
use Rattle.mdf_gate.proofs.Units.{lead_on_eight}

-- the first byte of a unit is that of a block
pub gate_first : (form : Form) (place offset : ℕ) (body : List ℕ) → 35 ∷ payload_of form place offset body ≡ unit_bytes form place offset body
gate_first Bare place offset body = refl
gate_first Listed place offset body = refl

pub length-lead : (form : Form) (place offset count : ℕ) → length (lead_bytes form place offset count) ≡ lead form
length-lead Bare place offset count = refl
length-lead Listed place offset count = refl

length-header_bytes : (count : ℕ) → length (block_header count) ≡ 24
length-header_bytes count = refl

-- a list block that is written stands whole
module _ (front rest : List ℕ) (place next offset : ℕ) (is_place : length front ≡ place) (on_eight : place % 8 ≡ 0)
    (small : place + 56 < 2 ^ 64) (near : next < 2 ^ 64) where
  abbrev pub listed_file : List ℕ
  listed_file = front ++ (list_block place next offset ++ rest)

  abbrev first : List ℕ
  first = to_le_bytes w64 next

  abbrev second : List ℕ
  second = to_le_bytes w64 (place + 56)

  abbrev fields : List ℕ
  fields = replicate 4 0 ++ to_le_bytes w32 1 ++ to_le_bytes w64 offset

  named : bytes_at 4 listed_file place ≡ name_of Dl
  named = name_part front (name_of Dl) (replicate 4 0) (to_le_bytes w64 56) (to_le_bytes w64 2) (first ++ second) fields [] rest place is_place refl refl refl refl

  size_is : size_at listed_file place ≡ 56
  size_is =
      ap le_number (size_part front (name_of Dl) (replicate 4 0) (to_le_bytes w64 56) (to_le_bytes w64 2) (first ++ second) fields [] rest place is_place refl refl refl refl)
      ∙ le_number-to_le_bytes 56 (omega arith)

  links_is : links_at listed_file place ≡ 2
  links_is =
      ap le_number (count_part front (name_of Dl) (replicate 4 0) (to_le_bytes w64 56) (to_le_bytes w64 2) (first ++ second) fields [] rest place is_place refl refl refl refl)
      ∙ le_number-to_le_bytes 2 (omega arith)

  abbrev before : List ℕ
  before = header front (name_of Dl) (replicate 4 0) (to_le_bytes w64 56) (to_le_bytes w64 2) (first ++ second) fields [] rest place is_place refl refl refl refl

  length-before : length before ≡ place + 24
  length-before = length-header front (name_of Dl) (replicate 4 0) (to_le_bytes w64 56) (to_le_bytes w64 2) (first ++ second) fields [] rest place is_place refl refl refl refl

  parted : listed_file ≡ before ++ (first ++ (second ++ (fields ++ rest)))
  parted = before_links front (name_of Dl) (replicate 4 0) (to_le_bytes w64 56) (to_le_bytes w64 2) (first ++ second) fields [] rest place is_place refl refl refl refl

  pub first_link : link_at listed_file place 0 ≡ next
  first_link =
      ap (λ (f : List ℕ). le_number (bytes_at 8 f (place + 24 + 0))) parted
      ∙ ap le_number (bytes_at-part before first (second ++ (fields ++ rest)) (place + 24 + 0) 8 (omega (arith, length-before)) refl)
      ∙ le_number-to_le_bytes next near

  second_link : link_at listed_file place 1 ≡ place + 56
  second_link =
      ap (λ (f : List ℕ). le_number (bytes_at 8 f (place + 24 + 8))) (parted ∙ sym (append_assoc before first (second ++ (fields ++ rest))))
      ∙ ap le_number (bytes_at-part (before ++ first) second (fields ++ rest) (place + 24 + 8) 8 (omega (arith, length-before, length-append before first)) refl)
      ∙ le_number-to_le_bytes (place + 56) small

  long : place + 56 ≤ length listed_file
  long = omega (arith, is_place, length-append front (list_block place next offset ++ rest), length-append (list_block place next offset) rest)

  pub list_stands : IsList listed_file place
  list_stands = record {
    block = record {
      on_eight = on_eight;
      named = named;
      headed = omega (arith, size_is, links_is);
      whole = omega (arith, size_is, long);
      linked = omega (arith, links_is);
      filled = omega arith;
    };
    size = size_is;
    links = links_is;
    names = second_link;
  }

-- the unit that is written at a place
module _ (form : Form) (front body : List ℕ) (place offset : ℕ) (is_place : length front ≡ place) (on_eight : place % 8 ≡ 0)
    (small : place + length body + 88 < 2 ^ 64) where
  abbrev pub opened_file : List ℕ
  opened_file = front ++ 35 ∷ payload_of form place offset body

  abbrev in_front : List ℕ
  in_front = lead_bytes form place offset (length body)

  abbrev address : ℕ
  address = block_place form place

  abbrev before_block : List ℕ
  before_block = front ++ in_front

  abbrev size : List ℕ
  size = to_le_bytes w64 (24 + length body)

  abbrev count : List ℕ
  count = to_le_bytes w64 0

  abbrev fill : List ℕ
  fill = replicate (room_of form (length body) - (lead form + 23 + length body)) 0

  abbrev block : List ℕ
  block = block_header (length body) ++ (body ++ fill)

  is_at : length before_block ≡ address
  is_at = omega (arith, is_place, length-append front in_front, length-lead form place offset (length body))

  unit_parted : opened_file ≡ front ++ (in_front ++ block)
  unit_parted =
      ap (λ (rest : List ℕ). front ++ rest) (gate_first form place offset body
      ∙ append_assoc (in_front ++ block_header (length body)) body fill
      ∙ append_assoc in_front (block_header (length body)) (body ++ fill))

  block_parted : opened_file ≡ before_block ++ ((name_of Dt ++ replicate 4 0 ++ size ++ count ++ [] ++ body ++ fill) ++ [])
  block_parted = unit_parted ∙ sym (append_assoc front in_front block) ∙ ap (λ (rest : List ℕ). before_block ++ rest) (sym (append-nil block))

  block_named : bytes_at 4 opened_file address ≡ name_of Dt
  block_named =
      ap (λ (f : List ℕ). bytes_at 4 f address) block_parted
      ∙ name_part before_block (name_of Dt) (replicate 4 0) size count [] body fill [] address is_at refl refl refl refl

  block_size : size_at opened_file address ≡ 24 + length body
  block_size =
      ap (λ (f : List ℕ). le_number (bytes_at 8 f (address + 8))) block_parted
      ∙ ap le_number (size_part before_block (name_of Dt) (replicate 4 0) size count [] body fill [] address is_at refl refl refl refl)
      ∙ le_number-to_le_bytes (24 + length body) (omega (arith, small))

  block_links : links_at opened_file address ≡ 0
  block_links =
      ap (λ (f : List ℕ). le_number (bytes_at 8 f (address + 16))) block_parted
      ∙ ap le_number (count_part before_block (name_of Dt) (replicate 4 0) size count [] body fill [] address is_at refl refl refl refl)
      ∙ le_number-to_le_bytes 0 (omega arith)

  data_size : body_size opened_file address ≡ length body
  data_size = omega (arith, block_size, block_links)

  pub data_is : unit_data form opened_file place ≡ body
  data_is =
      ap (λ (n : ℕ). bytes_at n opened_file (address + header_size (links_at opened_file address))) data_size
      ∙ ap (λ (to : ℕ). bytes_at (length body) opened_file to) (omega (arith, block_links))
      ∙ ap (λ (f : List ℕ). bytes_at (length body) f (address + 24 + 0)) block_parted
      ∙ body_part before_block (name_of Dt) (replicate 4 0) size count [] body fill [] address is_at refl refl refl refl 0 refl

  length-unit : length (unit_bytes form place offset body) ≡ room_of form (length body) + 1
  length-unit =
      omega (
        arith,
        length-lead form place offset (length body),
        length-append (in_front ++ block_header (length body) ++ body) fill,
        length-append (in_front ++ block_header (length body)) body,
        length-append in_front (block_header (length body)),
        length-header_bytes (length body),
        length-replicate {A = ℕ} (room_of form (length body) - (lead form + 23 + length body)) 0,
      )

  pub length-payload : length (payload_of form place offset body) ≡ room_of form (length body)
  length-payload = omega (arith, length-unit, ap length (gate_first form place offset body))

  pub length-opened : length opened_file ≡ place + room_of form (length body) + 1
  length-opened = omega (arith, is_place, length-payload, length-append front (35 ∷ payload_of form place offset body))

  block_stands : IsBlock opened_file address Dt
  block_stands = record {
    on_eight = omega (arith, on_eight, lead_on_eight form);
    named = block_named;
    headed = omega (arith, block_size, block_links);
    whole = omega (arith, block_size, length-opened);
    linked = omega arith;
    filled = omega arith;
  }

  pub next_is : next_place form opened_file place ≡ place + room_of form (length body)
  next_is = omega (arith, block_size, on_eight)

  pub next_closed : get_or opened_file (place + room_of form (length body)) 0 ≡ 0
  next_closed =
      let whole = in_front ++ block_header (length body) ++ body in
      let split : opened_file ≡ (front ++ whole) ++ fill =
      ap (λ (rest : List ℕ). front ++ rest) (gate_first form place offset body) ∙ sym (append_assoc front whole fill) in
      let long : length (front ++ whole) ≡ place + lead form + 24 + length body =
      omega (
        arith,
        is_place,
        length-append front whole,
        length-append (in_front ++ block_header (length body)) body,
        length-append in_front (block_header (length body)),
        length-lead form place offset (length body),
        length-header_bytes (length body),
      ) in
      ap (λ (f : List ℕ). get_or f (place + room_of form (length body)) 0) split
      ∙ get_or-append_right (front ++ whole) fill (place + lead form + 24 + length body) (place + room_of form (length body)) 0 long (omega arith)
      ∙ get_or-replicate (room_of form (length body) - (lead form + 23 + length body)) _ 0 0 (omega arith)

-- what stands before its data block
led_stands : (form : Form) (front body : List ℕ) (place offset : ℕ) (is_place : length front ≡ place) → place % 8 ≡ 0
    → (small : place + length body + 88 < 2 ^ 64) → IsLed form (front ++ 35 ∷ payload_of form place offset body) place
led_stands Bare front body place offset is_place on_eight small = tt
led_stands Listed front body place offset is_place on_eight small =
    subst (λ (f : List ℕ). IsList f place) (sym (unit_parted Listed front body place offset is_place on_eight small))
    (list_stands front (block Listed front body place offset is_place on_eight small) place (place + room_of Listed (length body)) offset is_place on_eight
    (omega (arith, small)) (omega (arith, small)))

linked_stands : (form : Form) (front body : List ℕ) (place offset : ℕ) (is_place : length front ≡ place) (on_eight : place % 8 ≡ 0)
    (small : place + length body + 88 < 2 ^ 64) → IsLinkedOn form (front ++ 35 ∷ payload_of form place offset body) place
linked_stands Bare front body place offset is_place on_eight small = tt
linked_stands Listed front body place offset is_place on_eight small =
    ap (λ (f : List ℕ). link_at f place 0) (unit_parted Listed front body place offset is_place on_eight small)
    ∙ first_link front (block Listed front body place offset is_place on_eight small) place (place + room_of Listed (length body)) offset is_place on_eight
    (omega (arith, small)) (omega (arith, small))
    ∙ sym (next_is Listed front body place offset is_place on_eight small)

pub unit_stands : (form : Form) (front body : List ℕ) (place offset : ℕ) (is_place : length front ≡ place) (on_eight : place % 8 ≡ 0)
    (small : place + length body + 88 < 2 ^ 64) → IsUnit form (front ++ 35 ∷ payload_of form place offset body) place
unit_stands form front body place offset is_place on_eight small = record {
  led = led_stands form front body place offset is_place on_eight small;
  block = block_stands form front body place offset is_place on_eight small;
  linked = linked_stands form front body place offset is_place on_eight small;
}
