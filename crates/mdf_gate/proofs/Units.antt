-- Units one behind the other.
use Rattle.std.proofs.Common.{◌≡◌, ℕ, ◌%◌, ◌≤◌, List, [], ◌∷◌, ◌++◌, refl, ap, subst, arith}
use Rattle.mdf_format.specs.Form.{lead}
use Rattle.mdf_format.specs.declared.form.Form.{Form}
use Rattle.mdf_format.specs.declared.form.Form.TheVariants.{Bare, Listed}
use Rattle.mdf_gate.specs.Unit.{IsUnit, AreUnits, unit_data, next_place}

-- what stands before a data block has a multiple of 8 bytes, and at most 56
pub lead_on_eight : (form : Form) → lead form % 8 ≡ 0
lead_on_eight Bare = refl
lead_on_eight Listed = refl

pub lead_few : (form : Form) → lead form ≤ 56
lead_few Bare = omega arith
lead_few Listed = omega arith

-- one unit more behind others
pub AreUnits-push : (form : Form) (file : List ℕ) (place : ℕ) (bodies : List (List ℕ)) (last : ℕ) → AreUnits form file place bodies last → IsUnit form file last
    → AreUnits form file place (bodies ++ unit_data form file last ∷ []) (next_place form file last)
unfolding AreUnits
AreUnits-push form file place [] last are unit = (subst (IsUnit form file) are unit, ap (unit_data form file) are, ap (next_place form file) are)
AreUnits-push form file place (body ∷ bodies) last are unit = (are.0, are.1, AreUnits-push form file (next_place form file place) bodies last are.2 unit)
