-- What is read of a file in which numbers are set.
use Rattle.std.proofs.Common.{◌≡◌, ◌⊎◌, ⊎_elim, inl, inr, ℕ, ◌+◌, ◌≤◌, ◌<◌, ◌^◌, List, [], ◌∷◌, ◌++◌, length, get_or, take, drop, refl, sym, ◌∙◌, ap, subst, arith, length-drop, append_assoc}
use Rattle.std.proofs.lemmas.List.{length-take-le, get_or-take, get_or-drop}
use Rattle.std.proofs.lemmas.Grind.{same_number_lists}
use Rattle.std.specs.Int.{to_le_bytes, w64}
use Rattle.std.specs.List.{AllByRecursion}
use Rattle.mdf_format.specs.Number.{bytes_at, le_number}
use Rattle.mdf_block.proofs.Laying.{bytes_at-part, le_number-to_le_bytes}
use Rattle.mdf_disk.proofs.Patches.{get_or-patched, length-patched}
use Rattle.tool_complete.specs.InWords.{AreApart, AreNumbers, AreSetIn, IsApart, IsOutside}
use Rattle.tool_complete.specs.Settings.{AreFieldsIn, IsFieldIn, set_all, set_one}
use Rattle.tool_complete.specs.declared.setting.Setting.{Setting}

-- the bytes of a field, one by one
field_long : (bytes : List ℕ) (at : ℕ) → at + 8 ≤ length bytes → length (bytes_at 8 bytes at) ≡ 8
field_long bytes at fits = length-take-le 8 (drop at bytes) (omega (arith, fits, length-drop at bytes))

field_byte : (bytes : List ℕ) (at k : ℕ) → k < 8 → get_or (bytes_at 8 bytes at) k 0 ≡ get_or bytes (at + k) 0
field_byte bytes at k below = get_or-take 8 (drop at bytes) k 0 below ∙ get_or-drop at bytes k 0

module _ (setting : Setting) (file : List ℕ) (inside : IsFieldIn (length file) setting) where
  pub long_one : length (set_one setting file) ≡ length file
  long_one = omega (arith, inside, length-patched setting.at (to_le_bytes w64 setting.value) file (omega (arith, inside)))

  outside_one : (i : ℕ) → (i < setting.at) ⊎ (setting.at + 8 ≤ i) → get_or (set_one setting file) i 0 ≡ get_or file i 0
  outside_one i out = get_or-patched setting.at (to_le_bytes w64 setting.value) file (omega (arith, inside)) i out

  read_one : setting.value < 2 ^ 64 → le_number (bytes_at 8 (set_one setting file) setting.at) ≡ setting.value
  read_one small =
      let field = to_le_bytes w64 setting.value in
      let post = drop (setting.at + 8) file in
      let parted : set_one setting file ≡ take setting.at file ++ (field ++ post) = append_assoc (take setting.at file) field post in
      ap (λ (bytes : List ℕ). le_number (bytes_at 8 bytes setting.at)) parted
      ∙ ap le_number (bytes_at-part (take setting.at file) field post setting.at 8 (length-take-le setting.at file (omega (arith, inside))) refl)
      ∙ le_number-to_le_bytes setting.value small

  -- a field beside it is as before
  kept_one : (at : ℕ) → (setting.at + 8 ≤ at) ⊎ (at + 8 ≤ setting.at) → at + 8 ≤ length file → bytes_at 8 (set_one setting file) at ≡ bytes_at 8 file at
  kept_one at beside fits =
      let long = field_long (set_one setting file) at (omega (arith, fits, long_one)) in
      same_number_lists (bytes_at 8 (set_one setting file) at) (bytes_at 8 file at) (long ∙ sym (field_long file at fits))
      (λ k below.
      let small : k < 8 = omega (arith, below, long) in
      let out : (at + k < setting.at) ⊎ (setting.at + 8 ≤ at + k) =
      ⊎_elim (λ before. inr (omega (arith, before))) (λ behind. inl (omega (arith, behind, small))) beside in
      field_byte (set_one setting file) at k small ∙ outside_one (at + k) out ∙ sym (field_byte file at k small))

-- the other fields lie in the file still
fields_still : (setting : Setting) (settings : List Setting) (file : List ℕ) → IsFieldIn (length file) setting → AreFieldsIn (length file) settings
    → AreFieldsIn (length (set_one setting file)) settings
fields_still setting settings file inside all = subst (λ (size : ℕ). AreFieldsIn size settings) (sym (long_one setting file inside)) all

pub long_all : (settings : List Setting) (file : List ℕ) → AreFieldsIn (length file) settings → length (set_all settings file) ≡ length file
long_all [] file all = refl
long_all (setting ∷ settings) file all =
    long_all settings (set_one setting file) (fields_still setting settings file all.0 all.1) ∙ long_one setting file all.0

outside_all : (settings : List Setting) (file : List ℕ) (i : ℕ) → AreFieldsIn (length file) settings → IsOutside settings i
    → get_or (set_all settings file) i 0 ≡ get_or file i 0
outside_all [] file i all out = refl
outside_all (setting ∷ settings) file i all out =
    outside_all settings (set_one setting file) i (fields_still setting settings file all.0 all.1) out.1 ∙ outside_one setting file all.0 i out.0

kept_all : (settings : List Setting) (file : List ℕ) (field : Setting) → AreFieldsIn (length file) settings → IsFieldIn (length file) field
    → AllByRecursion (IsApart field) settings → bytes_at 8 (set_all settings file) field.at ≡ bytes_at 8 file field.at
kept_all [] file field all fits apart = refl
kept_all (setting ∷ settings) file field all fits apart =
    kept_all settings (set_one setting file) field (fields_still setting settings file all.0 all.1)
    (subst (λ (size : ℕ). IsFieldIn size field) (sym (long_one setting file all.0)) fits) apart.1
    ∙ kept_one setting file all.0 field.at (⊎_elim inr inl apart.0) fits

read_all : (settings : List Setting) (file : List ℕ) → AreFieldsIn (length file) settings → AreNumbers settings → AreApart settings
    → AllByRecursion (λ (setting : Setting). le_number (bytes_at 8 (set_all settings file) setting.at) ≡ setting.value) settings
read_all [] file all numbers apart = tt
read_all (setting ∷ settings) file all numbers apart = (
  ap le_number (kept_all settings (set_one setting file) setting (fields_still setting settings file all.0 all.1)
      (subst (λ (size : ℕ). IsFieldIn size setting) (sym (long_one setting file all.0)) all.0) apart.0) ∙ read_one setting file all.0 numbers.0,
  read_all settings (set_one setting file) (fields_still setting settings file all.0 all.1) numbers.1 apart.1,
)

pub are_set : (file : List ℕ) (settings : List Setting) → AreFieldsIn (length file) settings → AreSetIn file settings (set_all settings file)
are_set file settings all = record { as_long = long_all settings file all; others = λ i out. outside_all settings file i all out; read = read_all settings file all }
