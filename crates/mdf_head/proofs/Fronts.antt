-- Fields of the front of a body are fields of the body.
use Rattle.std.proofs.Common.{◌≡◌, ◌≤◌, ℕ, List, get_or, ◌∙◌, ap, arith}
use Rattle.mdf_format.specs.Number.{le_number, bytes_at}
use Rattle.mdf_block.specs.declared.note.Note.{Note}
use Rattle.mdf_block.proofs.Parts.{part_same, byte_same}
use Rattle.std.specs.Prelude.{ℤ}
use Rattle.mdf_head.specs.declared.entry.Head.{Head}
use Rattle.mdf_head.specs.declared.entry.History.{History}
use Rattle.mdf_head.specs.Head.{signed_at, the_head, the_history}

module _ (f : List ℕ) (place front len : ℕ) (least : front ≤ len) where
  pub the_head-front : (comment : Note) (first_dg : ℕ) → 32 ≤ front
      → the_head (bytes_at front f place) comment first_dg ≡ the_head (bytes_at len f place) comment first_dg
  the_head-front comment first_dg room =
      let start = part_same f place front len least 8 0 (omega (arith, room)) in
      let zone = part_same f place front len least 2 8 (omega (arith, room)) in
      let daylight = part_same f place front len least 2 10 (omega (arith, room)) in
      let time_flags = byte_same f place front len least 12 (omega (arith, room)) in
      let time_class = byte_same f place front len least 13 (omega (arith, room)) in
      let flags = byte_same f place front len least 14 (omega (arith, room)) in
      let angle = part_same f place front len least 8 16 (omega (arith, room)) in
      let distance = part_same f place front len least 8 24 (omega (arith, room)) in
      rw (start, zone, daylight, time_flags, time_class, flags, angle, distance)

  pub the_history-front : (at : ℕ) (comment : Note) → 16 ≤ front
      → the_history at (bytes_at front f place) comment ≡ the_history at (bytes_at len f place) comment
  the_history-front at comment room =
      let time = part_same f place front len least 8 0 (omega (arith, room)) in
      let zone = part_same f place front len least 2 8 (omega (arith, room)) in
      let daylight = part_same f place front len least 2 10 (omega (arith, room)) in
      let flags = byte_same f place front len least 12 (omega (arith, room)) in
      rw (time, zone, daylight, flags)

-- fields that are those of a body make the entry of the body
abbrev pub made_history : ℕ → Note → ℕ → ℤ → ℤ → ℕ → History
made_history at comment time zone daylight flags =
    record { at = at; time = time; zone = zone; daylight = daylight; flags = flags; comment = comment }

pub same_history : (at : ℕ) (comment : Note) (body : List ℕ) (time : ℕ) (zone daylight : ℤ) → time ≡ le_number (bytes_at 8 body 0)
    → zone ≡ signed_at body 8 → daylight ≡ signed_at body 10
    → made_history at comment time zone daylight (get_or body 12 0) ≡ the_history at body comment
same_history at comment body time zone daylight is_time is_zone is_daylight =
    ap (λ (n : ℕ). made_history at comment n zone daylight (get_or body 12 0)) is_time
    ∙ ap (λ (z : ℤ). made_history at comment (le_number (bytes_at 8 body 0)) z daylight (get_or body 12 0)) is_zone
    ∙ ap (λ (z : ℤ). made_history at comment (le_number (bytes_at 8 body 0)) (signed_at body 8) z (get_or body 12 0)) is_daylight

-- and the header
abbrev pub made_head : List ℕ → Note → ℕ → ℕ → ℤ → ℤ → ℕ → ℕ → Head
made_head body comment first_dg start zone daylight angle distance = record {
  start = start;
  zone = zone;
  daylight = daylight;
  time_flags = get_or body 12 0;
  time_class = get_or body 13 0;
  flags = get_or body 14 0;
  angle = angle;
  distance = distance;
  comment = comment;
  first_dg = first_dg;
}

pub same_head : (body : List ℕ) (comment : Note) (first_dg start : ℕ) (zone daylight : ℤ) (angle distance : ℕ)
    → start ≡ le_number (bytes_at 8 body 0) → zone ≡ signed_at body 8 → daylight ≡ signed_at body 10
    → angle ≡ le_number (bytes_at 8 body 16) → distance ≡ le_number (bytes_at 8 body 24)
    → made_head body comment first_dg start zone daylight angle distance ≡ the_head body comment first_dg
same_head body comment first_dg start zone daylight angle distance is_start is_zone is_daylight is_angle is_distance =
    ap (λ (n : ℕ). made_head body comment first_dg n zone daylight angle distance) is_start
    ∙ ap (λ (z : ℤ). made_head body comment first_dg (le_number (bytes_at 8 body 0)) z daylight angle distance) is_zone
    ∙ ap (λ (z : ℤ). made_head body comment first_dg (le_number (bytes_at 8 body 0)) (signed_at body 8) z angle distance) is_daylight
    ∙ ap (λ (n : ℕ). made_head body comment first_dg (le_number (bytes_at 8 body 0)) (signed_at body 8) (signed_at body 10) n distance) is_angle
    ∙ ap (λ (n : ℕ). made_head body comment first_dg (le_number (bytes_at 8 body 0)) (signed_at body 8) (signed_at body 10) (le_number (bytes_at 8 body 16)) n) is_distance
