-- One bit of bytes after a write to its byte.
use Rattle.std.proofs.Common.{◌≡◌, ◌≢◌, ◌<◌, ◌/◌, ◌%◌, ℕ, List, length, get_or, ◌∙◌, ap, arith, inl, inr, get_or-set_other, get_or-set_same}
use Rattle.std.proofs.Math.ListN.{set}
use Rattle.std.proofs.lemmas.Bool.{cases_eq}
use Rattle.std.specs.Int.{bit_at}
use Rattle.mdf_format.specs.Field.{bit_of}

pub bit_of-set : (bytes : List ℕ) (p byte : ℕ) → p / 8 < length bytes → bit_of (set bytes (p / 8) byte) p ≡ bit_at byte (p % 8)
bit_of-set bytes p byte within = ap (λ (b : ℕ). bit_at b (p % 8)) (get_or-set_same bytes (p / 8) byte 0 within)

-- another bit, where the new byte keeps the others
pub bit_of-set_other : (bytes : List ℕ) (p byte : ℕ) → p / 8 < length bytes
    → ((i : ℕ) → i < 8 → i ≢ p % 8 → bit_at byte i ≡ bit_at (get_or bytes (p / 8) 0) i)
    → (q : ℕ) → q ≢ p → bit_of (set bytes (p / 8) byte) q ≡ bit_of bytes q
bit_of-set_other bytes p byte within kept q other = elim (cases_eq (q / 8) (p / 8)) [
  | inl same ↦
      let apart : q % 8 ≢ p % 8 = omega arith in
      rw same (ap (λ (b : ℕ). bit_at b (q % 8)) (get_or-set_same bytes (p / 8) byte 0 within) ∙ kept (q % 8) (omega arith) apart)
  | inr differs ↦ ap (λ (b : ℕ). bit_at b (q % 8)) (get_or-set_other bytes (p / 8) (q / 8) byte 0 differs)
]
