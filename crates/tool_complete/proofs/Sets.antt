-- The loop that sets numbers.
use Rattle.std.proofs.Common.{◌≡◌, ◌+◌, ◌<◌, ◌≤◌, ℕ, List, ◌∷◌, length, get_or, take, drop, ◌++◌, sym, ◌∙◌, ap, subst, arith, length-append, length-drop}
use Rattle.std.proofs.lemmas.List.{drop_all, get_or_default, length-take-le}
use Rattle.std.specs.Int.{to_le_bytes, w64}
use Rattle.mdf_format.specs.Number.{patched}
use Rattle.mdf_block.proofs.Rests.{rest_is}
use Rattle.tool_complete.specs.declared.setting.Setting.{Setting}
use Rattle.tool_complete.specs.Settings.{AreFieldsIn, IsFieldIn, set_all, set_one}

-- bytes in the place of others inside leave the length
long_patched : (at : ℕ) (part file : List ℕ) → at + length part ≤ length file → length (patched at part file) ≡ length file
long_patched at part file inside =
    omega (
      arith,
      inside,
      length-append (take at file ++ part) (drop (at + length part) file),
      length-append (take at file) part,
      length-take-le at file (omega (arith, inside)),
      length-drop (at + length part) file,
    )

pub long_set : (setting : Setting) (file : List ℕ) → IsFieldIn (length file) setting → length (set_one setting file) ≡ length file
long_set setting file inside = long_patched setting.at (to_le_bytes w64 setting.value) file (omega (arith, inside))

module _ (settings : List Setting) where
  cut_at : (k : ℕ) (d : Setting) → k < length settings → drop k settings ≡ get_or settings k d ∷ drop (k + 1) settings
  cut_at k d below = rest_is settings k (get_or settings k d) below (get_or_default settings k d (get_or settings k d) below)

  -- the next field lies inside, and those behind it
  pub field_here : (size k : ℕ) (d : Setting) → k < length settings → AreFieldsIn size (drop k settings) → IsFieldIn size (get_or settings k d)
  field_here size k d below inside = (subst (AreFieldsIn size) (cut_at k d below) inside).0

  pub fields_behind : (size k : ℕ) → k < length settings → AreFieldsIn size (drop k settings) → AreFieldsIn size (drop (k + 1) settings)
  fields_behind size k below inside = (subst (AreFieldsIn size) (cut_at k (record { at = 0; value = 0 }) below) inside).1

  -- one more number is set: the file is as long, and those behind it are to be set
  pub long_next : (k : ℕ) (d : Setting) (bytes next : List ℕ) → k < length settings → AreFieldsIn (length bytes) (drop k settings)
      → next ≡ set_one (get_or settings k d) bytes → length next ≡ length bytes
  long_next k d bytes next below inside set = ap length set ∙ long_set (get_or settings k d) bytes (field_here (length bytes) k d below inside)

  pub fields_next : (k : ℕ) (d : Setting) (bytes next : List ℕ) → k < length settings → AreFieldsIn (length bytes) (drop k settings)
      → next ≡ set_one (get_or settings k d) bytes → AreFieldsIn (length next) (drop (k + 1) settings)
  fields_next k d bytes next below inside set =
      subst (λ (size : ℕ). AreFieldsIn size (drop (k + 1) settings)) (sym (long_next k d bytes next below inside set))
      (fields_behind (length bytes) k below inside)

  pub set_more : (k : ℕ) (d : Setting) (bytes next whole : List ℕ) → k < length settings → next ≡ set_one (get_or settings k d) bytes
      → set_all (drop k settings) bytes ≡ whole → set_all (drop (k + 1) settings) next ≡ whole
  set_more k d bytes next whole below set so_far =
      ap (set_all (drop (k + 1) settings)) set
      ∙ ap (λ (rest : List Setting). set_all rest bytes) (sym (cut_at k d below))
      ∙ so_far

  -- all are set
  pub set_done : (k : ℕ) (bytes whole : List ℕ) → length settings ≤ k → set_all (drop k settings) bytes ≡ whole → bytes ≡ whole
  set_done k bytes whole past so_far = ap (λ (rest : List Setting). set_all rest bytes) (sym (drop_all k settings past)) ∙ so_far
