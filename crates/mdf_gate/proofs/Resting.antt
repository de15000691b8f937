-- A file at rest, whatever comes behind its last place.
use Rattle.std.proofs.Common.{◌≡◌, ◌⊎◌, inl, inr, ℕ, ◌+◌, ◌%◌, ◌^◌, ◌≤◌, ◌<◌, List, [], ◌∷◌, ◌++◌, length, take, drop, get_or, refl, sym, ◌∙◌, ap, subst, arith, length-append, take-append-drop, append_assoc}
use Rattle.std.proofs.lemmas.List.{take_all, take_at, take-take, take-append-le, drop_all, drop_more, length-take-le, get_or_at}
use Rattle.std.proofs.lemmas.Bool.{cases_eq}
use mathlib.Core.List.{IsPrefix}
use Rattle.mdf_format.specs.Form.{form_of}
use Rattle.mdf_gate.specs.Unit.{IsOpenPlace, AreUnits, unit_data}
use Rattle.mdf_gate.specs.Written.{payload_of, room_of}
use Rattle.mdf_gate.specs.Recording.{first_place, IsRecording}
use Rattle.mdf_gate.specs.Gated.{IsRecordingHead, Rests}
use Rattle.mdf_gate.specs.Images.{Opens, OpensEither, IsStage}
use Rattle.mdf_format.specs.declared.form.Form.{Form}
use Rattle.mdf_gate.proofs.Fronts.{AgreeTo, units_rise, units_stay, recording_stays, place_stays, form_stays}
use Rattle.mdf_gate.proofs.Units.{AreUnits-push}
use Rattle.mdf_gate.proofs.Laid.{data_is, length-opened, length-payload, next_closed, next_is, unit_stands}

module _ (first : ℕ) (blocks : List (List ℕ)) (place : ℕ) (file : List ℕ) (rests : Rests first blocks place file) where
  abbrev pub head : List ℕ
  head = take first file

  abbrev pub front : List ℕ
  front = take place file

  pub length-front : length front ≡ place
  length-front = length-take-le place file (omega (arith, rests.ends))

  pub first_within : first ≤ place
  first_within = units_rise (form_of file) file first blocks place rests.units

  pub length-head : length head ≡ first
  length-head = length-take-le first file (omega (arith, rests.ends, first_within))

  pub parts : file ≡ front ++ 0 ∷ []
  parts =
      sym (take-append-drop place file)
      ∙ ap (λ (rest : List ℕ). front ++ rest) (drop_more file place 0 (omega (arith, rests.ends))
      ∙ ap (λ (gate : ℕ). gate ∷ drop (place + 1) file) rests.closed
      ∙ ap (λ (rest : List ℕ). 0 ∷ rest) (drop_all (place + 1) file (omega (arith, rests.ends))))

  head_in_file : AgreeTo (length head) head file
  head_in_file = record {
    same = take_all (length head) head (omega arith) ∙ ap (λ (n : ℕ). take n file) (sym length-head);
    long = omega (arith, length-head, first_within, rests.ends);
  }

  module _ (rest : List ℕ) where
    abbrev pub other : List ℕ
    other = front ++ rest

    agrees : AgreeTo place file other
    agrees = record { same = sym (take_at front rest place length-front); long = omega (arith, length-front, length-append front rest) }

    pub head_is : take first other ≡ head
    head_is = take-append-le first front rest (omega (arith, length-front, first_within)) ∙ take-take first place file first_within

    head_agrees : AgreeTo (length head) head other
    head_agrees = record {
      same = take_all (length head) head (omega arith) ∙ sym head_is ∙ ap (λ (n : ℕ). take n other) (sym length-head);
      long = omega (arith, length-head, length-front, first_within, length-append front rest);
    }

    pub first_is : first_place other ≡ first
    first_is = place_stays head other head_agrees rests.head.recording ∙ rests.head.ends ∙ length-head

    pub still_recording : IsRecording other
    still_recording = recording_stays head other head_agrees rests.head.recording

    pub still_head : IsPrefix head other
    still_head = (drop first other, ap (λ (part : List ℕ). part ++ drop first other) (sym head_is) ∙ take-append-drop first other)

    pub still_form : form_of other ≡ form_of file
    still_form = form_stays head other head_agrees rests.head.recording ∙ sym (form_stays head file head_in_file rests.head.recording)

    pub units_from : AreUnits (form_of file) other first blocks place
    units_from = units_stay place file other agrees (form_of file) first blocks place rests.units (omega arith)

    pub still_units : AreUnits (form_of other) other (first_place other) blocks place
    still_units =
        subst (λ (form : Form). AreUnits form other (first_place other) blocks place) (sym still_form)
        (subst (λ (at : ℕ). AreUnits (form_of file) other at blocks place) (sym first_is) units_from)

    pub opens_before : (last : ℕ) → place + length rest ≤ last + 1 → ¬ IsOpenPlace other place → Opens head blocks last other
    opens_before last within closed = (
      still_head,
      (place, record { recording = still_recording; units = still_units; closed = closed }),
      omega (arith, within, length-front, length-append front rest),
    )

-- the file once the gate of the unit is open, and while it is written
module _ (first : ℕ) (blocks : List (List ℕ)) (place : ℕ) (file : List ℕ) (rests : Rests first blocks place file)
    (form : Form) (form_is : form_of file ≡ form) (offset : ℕ) (body : List ℕ)
    (on_eight : place % 8 ≡ 0) (small : place + length body + 88 < 2 ^ 64) where
  abbrev pub payload : List ℕ
  payload = payload_of form place offset body

  abbrev pub appended : List ℕ
  appended = take place file ++ 35 ∷ payload

  abbrev pub next : ℕ
  next = place + room_of form (length body)

  is_place : length (take place file) ≡ place
  is_place = length-front first blocks place file rests

  units_after : AreUnits form appended first (blocks ++ body ∷ []) next
  units_after =
      let before : AreUnits form appended first blocks place =
      subst (λ (f : Form). AreUnits f appended first blocks place) form_is (units_from first blocks place file rests (35 ∷ payload)) in
      let unit = unit_stands form (take place file) body place offset is_place on_eight small in
      subst (λ (data_bytes : List ℕ). AreUnits form appended first (blocks ++ data_bytes ∷ []) next) (data_is form (take place file) body place offset is_place on_eight small)
      (subst (λ (last : ℕ). AreUnits form appended first (blocks ++ unit_data form appended place ∷ []) last) (next_is form (take place file) body place offset is_place on_eight small)
      (AreUnits-push form appended first blocks place before unit))

  form_after : form_of appended ≡ form
  form_after = still_form first blocks place file rests (35 ∷ payload) ∙ form_is

  closed_after : get_or appended next 0 ≡ 0
  closed_after = next_closed form (take place file) body place offset is_place on_eight small

  pub rests_after : Rests first (blocks ++ body ∷ []) next appended
  rests_after = record {
    head = subst IsRecordingHead (sym (head_is first blocks place file rests (35 ∷ payload))) rests.head;
    units = subst (λ (f : Form). AreUnits f appended first (blocks ++ body ∷ []) next) (sym form_after) units_after;
    ends = length-opened form (take place file) body place offset is_place on_eight small;
    closed = closed_after;
  }

  opens_after : Opens (take first file) (blocks ++ body ∷ []) next appended
  opens_after = (
    still_head first blocks place file rests (35 ∷ payload),
    (
      next,
      record {
        recording = still_recording first blocks place file rests (35 ∷ payload);
        units =
            subst (λ (f : Form). AreUnits f appended (first_place appended) (blocks ++ body ∷ []) next) (sym form_after)
            (subst (λ (at : ℕ). AreUnits form appended at (blocks ++ body ∷ []) next) (sym (first_is first blocks place file rests (35 ∷ payload))) units_after);
        closed = λ is_open. absurd (omega (arith, closed_after, is_open));
      },
    ),
    omega (arith, length-opened form (take place file) body place offset is_place on_eight small),
  )

  room_is : length payload ≡ room_of form (length body)
  room_is = length-payload form (take place file) body place offset is_place on_eight small

  opens_still : (gate : ℕ) (rest : List ℕ) → length rest ≤ room_of form (length body) → ¬ (gate ≡ 35)
      → Opens (take first file) blocks next (take place file ++ gate ∷ rest)
  opens_still gate rest short shut =
      opens_before first blocks place file rests (gate ∷ rest) next (omega (arith, short))
      (λ is_open. shut (sym (get_or_at (take place file) gate rest 0 place is_place) ∙ is_open))

  -- behind a gate of any value
  gated : (gate : ℕ) → (gate ≡ 35) ⊎ (gate ≡ 35 → ⊥) → OpensEither (take first file) blocks body next (take place file ++ gate ∷ payload)
  gated gate (inl is_open) =
      subst (λ (g : ℕ). OpensEither (take first file) blocks body next (take place file ++ g ∷ payload)) (sym is_open)
      (opens_after.0, inr opens_after.1, opens_after.2)
  gated gate (inr shut) = let still = opens_still gate payload (omega (arith, room_is)) shut in (still.0, inl still.1, still.2)

  pub stage_opens : (other : List ℕ) → IsStage place file payload other → OpensEither (take first file) blocks body next other
  stage_opens other (inl grown) =
      let behind = grown.0.0 in
      let is : take place file ++ 0 ∷ behind ≡ other =
      sym (append_assoc (take place file) (0 ∷ []) behind) ∙ ap (λ (part : List ℕ). part ++ behind) (sym (parts first blocks place file rests)) ∙ grown.0.1 in
      let short : length behind ≤ room_of form (length body) = omega (arith, grown.1, room_is, ap length grown.0.1, length-append file behind) in
      let still = opens_still 0 behind short (λ e. absurd (omega (arith, e))) in
      subst (OpensEither (take first file) blocks body next) is (still.0, inl still.1, still.2)
  stage_opens other (inr gate) = subst (OpensEither (take first file) blocks body next) (sym gate.1) (gated gate.0 (cases_eq gate.0 35))

-- of a file at rest, all of it kept, a crash leaves a file with its head and its blocks
pub rests_opens : (first : ℕ) (blocks : List (List ℕ)) (place : ℕ) (file : List ℕ) → Rests first blocks place file → Opens (take first file) blocks place file
rests_opens first blocks place file rests =
    subst (Opens (take first file) blocks place) (sym (parts first blocks place file rests))
    (opens_before first blocks place file rests (0 ∷ []) place (omega arith) (λ is_open. absurd (omega (arith, get_or_at (take place file) 0 [] 0 place (length-front first blocks place file rests), is_open))))

-- a head and a closed gate are at rest with no block
pub head_rests : (head : List ℕ) → IsRecordingHead head → Rests (length head) [] (length head) (head ++ 0 ∷ [])
unfolding AreUnits
head_rests head recording = record {
  head = subst IsRecordingHead (sym (take_at head (0 ∷ []) (length head) refl)) recording;
  units = refl;
  ends = omega (arith, length-append head (0 ∷ []));
  closed = get_or_at head 0 [] 0 (length head) refl;
}
