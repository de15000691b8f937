-- Two files with the same front have the same blocks, links and units in it.
use Rattle.std.proofs.Common.{◌≡◌, inr, ℕ, ◌+◌, ◌*◌, ◌≤◌, ◌<◌, List, [], ◌∷◌, length, take, sym, ◌∙◌, ap, subst, arith}
use Rattle.mdf_format.specs.Number.{le_number, bytes_at}
use Rattle.mdf_format.specs.Block.{IsBlock, least_body, size_at, links_at, link_at, header_size, body_size, body_at}
use Rattle.mdf_format.specs.Identification.{version_of, custom_flags}
use Rattle.mdf_format.specs.declared.kind.Kind.{Kind}
use Rattle.mdf_format.specs.declared.kind.Kind.TheVariants.{Hd, Dg, Dl, Dt}
use Rattle.mdf_block.proofs.Parts.{bytes_at-bytes_at}
use Rattle.mdf_format.specs.Form.{NamesForm, form_named, form_of}
use Rattle.mdf_format.specs.Form.{lead}
use Rattle.mdf_gate.specs.Unit.{block_place, AreUnits, IsLed, IsLinkedOn, IsUnit, next_place, unit_data}
use Rattle.mdf_gate.specs.Recording.{HEADER, first_group, first_place, IsPlace, IsRecording}
use Rattle.mdf_format.specs.declared.form.Form.{Form}
use Rattle.mdf_format.specs.declared.form.Form.TheVariants.{Bare, Listed}

-- the first n bytes of one file are those of another
pub record AgreeTo (n : ℕ) (one other : List ℕ) : Type 0 where
  pub same : take n one ≡ take n other
  pub long : n ≤ length other

-- bytes of the front are bytes of the file
in_front : (n : ℕ) (file : List ℕ) (count at : ℕ) → at + count ≤ n → bytes_at count (take n file) at ≡ bytes_at count file at
in_front n file count at within =
    let from_start : 0 + at ≡ at = omega arith in
    bytes_at-bytes_at count n at 0 file within ∙ ap (bytes_at count file) from_start

-- a run of units goes up
pub units_rise : (form : Form) (file : List ℕ) (place : ℕ) (bodies : List (List ℕ)) (last : ℕ) → AreUnits form file place bodies last → place ≤ last
unfolding AreUnits
units_rise form file place [] last are = omega (arith, are)
units_rise form file place (body ∷ bodies) last are = omega (arith, units_rise form file (next_place form file place) bodies last are.2)

module _ (n : ℕ) (one other : List ℕ) (agree : AgreeTo n one other) where
  pub bytes_stay : (count at : ℕ) → at + count ≤ n → bytes_at count other at ≡ bytes_at count one at
  bytes_stay count at within =
      sym (in_front n other count at within)
      ∙ ap (λ (front : List ℕ). bytes_at count front at) (sym agree.same)
      ∙ in_front n one count at within

  module _ (at : ℕ) (kind : Kind) (block : IsBlock one at kind) (within : at + size_at one at ≤ n) where
    headed : 24 ≤ size_at one at
    headed = omega (arith, block.headed)

    pub size_stays : size_at other at ≡ size_at one at
    size_stays = ap le_number (bytes_stay 8 (at + 8) (omega (arith, headed, within)))

    links_stay : links_at other at ≡ links_at one at
    links_stay = ap le_number (bytes_stay 8 (at + 16) (omega (arith, headed, within)))

    pub link_stays : (k : ℕ) → k < links_at one at → link_at other at k ≡ link_at one at k
    link_stays k below = ap le_number (bytes_stay 8 (at + 24 + 8 * k) (omega (arith, block.headed, within, below)))

    size_of_body : body_size other at ≡ body_size one at
    size_of_body = omega (arith, size_stays, links_stay)

    pub body_stays : body_at other at ≡ body_at one at
    body_stays =
        ap (λ (count : ℕ). bytes_at count other (at + header_size (links_at other at))) size_of_body
        ∙ ap (λ (links : ℕ). bytes_at (body_size one at) other (at + header_size links)) links_stay
        ∙ bytes_stay (body_size one at) (at + header_size (links_at one at)) (omega (arith, block.headed, within))

    pub block_stays : IsBlock other at kind
    block_stays = record {
      on_eight = block.on_eight;
      named = bytes_stay 4 at (omega (arith, headed, within)) ∙ block.named;
      headed = omega (arith, block.headed, size_stays, links_stay);
      whole = omega (arith, size_stays, within, agree.long);
      linked = omega (arith, block.linked, links_stay);
      filled = omega (arith, block.filled, size_of_body, ap (least_body kind) body_stays);
    }

  -- the list block of a unit, its data block, and the link to the place behind
  led_stays : (form : Form) (place : ℕ) → IsLed form one place → place + lead form ≤ n → IsLed form other place
  led_stays Bare place led within = tt
  led_stays Listed place led within =
      let inside : place + size_at one place ≤ n = omega (arith, led.size, within) in record {
        block = block_stays place Dl led.block inside;
        size = size_stays place Dl led.block inside ∙ led.size;
        links = links_stay place Dl led.block inside ∙ led.links;
        names = link_stays place Dl led.block inside 1 (omega (arith, led.links)) ∙ led.names;
      }

  linked_stays : (form : Form) (place : ℕ) → IsLed form one place → place + lead form ≤ n → next_place form other place ≡ next_place form one place
      → IsLinkedOn form one place → IsLinkedOn form other place
  linked_stays Bare place led within same linked = tt
  linked_stays Listed place led within same linked =
      let inside : place + size_at one place ≤ n = omega (arith, led.size, within) in
      link_stays place Dl led.block inside 0 (omega (arith, led.links)) ∙ linked ∙ sym same

  module _ (form : Form) (place : ℕ) (unit : IsUnit form one place) (within : next_place form one place ≤ n) where
    unit_within : block_place form place + size_at one (block_place form place) ≤ n
    unit_within = omega (arith, within)

    next_stays : next_place form other place ≡ next_place form one place
    next_stays = omega (arith, size_stays (block_place form place) Dt unit.block unit_within)

    unit_stays : IsUnit form other place
    unit_stays = record {
      led = led_stays form place unit.led (omega (arith, unit_within));
      block = block_stays (block_place form place) Dt unit.block unit_within;
      linked = linked_stays form place unit.led (omega (arith, unit_within)) next_stays unit.linked;
    }

    data_stay : unit_data form other place ≡ unit_data form one place
    data_stay = body_stays (block_place form place) Dt unit.block unit_within

  pub units_stay : (form : Form) (place : ℕ) (bodies : List (List ℕ)) (last : ℕ) → AreUnits form one place bodies last → last ≤ n → AreUnits form other place bodies last
  unfolding AreUnits
  units_stay form place [] last are within = are
  units_stay form place (body ∷ bodies) last are within =
      let rise = units_rise form one (next_place form one place) bodies last are.2 in
      let inside : next_place form one place ≤ n = omega (arith, rise, within) in (
        unit_stays form place are.0 inside,
        are.1 ∙ sym (data_stay form place are.0 inside),
        subst (λ (p : ℕ). AreUnits form other p bodies last) (sym (next_stays form place are.0 inside)) (units_stay form (next_place form one place) bodies last are.2 within),
      )

-- what stands behind a recording leaves it one, with the same first place
module _ (head other : List ℕ) (agree : AgreeTo (length head) head other) (recording : IsRecording head) where
  header_within : HEADER + size_at head HEADER ≤ length head
  header_within = recording.header.whole

  group_stays : first_group other ≡ first_group head
  group_stays = link_stays (length head) head other agree HEADER Hd recording.header header_within 0 (omega (arith, recording.header.linked))

  group_within : first_group head + size_at head (first_group head) ≤ length head
  group_within = recording.group.whole

  pub place_stays : first_place other ≡ first_place head
  place_stays =
      ap (λ (at : ℕ). link_at other at 2) group_stays
      ∙ link_stays (length head) head other agree (first_group head) Dg recording.group group_within 2 (omega (arith, recording.group.linked))

  long : 64 ≤ length head
  long = recording.identified.long

  mark_stays : bytes_at 8 other 0 ≡ bytes_at 8 head 0
  mark_stays = bytes_stay (length head) head other agree 8 0 (omega (arith, long))

  version_stays : version_of other ≡ version_of head
  version_stays = ap le_number (bytes_stay (length head) head other agree 2 28 (omega (arith, long)))

  custom_stays : custom_flags other ≡ custom_flags head
  custom_stays = ap le_number (bytes_stay (length head) head other agree 2 62 (omega (arith, long)))

  pub form_stays : form_of other ≡ form_of head
  form_stays = ap form_named custom_stays

  pub recording_stays : IsRecording other
  recording_stays = record {
    identified = record { long = omega (arith, long, agree.long); marked = inr (mark_stays ∙ recording.form.unfinalized) };
    version = record {
      not_below = omega (arith, version_stays, recording.version.not_below);
      not_above = omega (arith, version_stays, recording.version.not_above);
    };
    form = record { unfinalized = mark_stays ∙ recording.form.unfinalized; custom = subst NamesForm (sym custom_stays) recording.form.custom };
    header = block_stays (length head) head other agree HEADER Hd recording.header header_within;
    group = subst (λ (at : ℕ). IsBlock other at Dg) (sym group_stays) (block_stays (length head) head other agree (first_group head) Dg recording.group group_within);
    place = subst IsPlace (sym place_stays) recording.place;
  }
