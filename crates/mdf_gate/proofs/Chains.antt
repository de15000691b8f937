-- Units of form 2 are a chain of list blocks.
use Rattle.std.proofs.Common.{◌≡◌, ℕ, List, [], ◌∷◌, sym, ◌∙◌, ap, subst}
use Rattle.mdf_format.specs.Form.{form_of}
use Rattle.mdf_format.specs.declared.form.Form.{Form}
use Rattle.mdf_format.specs.declared.form.Form.TheVariants.{Listed}
use Rattle.mdf_format.specs.Block.{IsBlock, body_at}
use Rattle.mdf_format.specs.declared.kind.Kind.TheVariants.{Dt}
use Rattle.mdf_gate.specs.Chain.{IsListChain}
use Rattle.mdf_gate.specs.Unit.{AreUnits, next_place}
use Rattle.mdf_gate.specs.Recording.{IsOpenedTo, first_place}

units_chained : (file : List ℕ) (place : ℕ) (blocks : List (List ℕ)) (last : ℕ) → AreUnits Listed file place blocks last → IsListChain file place blocks last
unfolding AreUnits IsListChain
units_chained file place [] last are = are
units_chained file place (body ∷ blocks) last are =
    let unit = are.0 in (
      unit.led.block,
      subst (λ (at : ℕ). IsBlock file at Dt) (sym unit.led.names) unit.block,
      are.1 ∙ ap (body_at file) (sym unit.led.names),
      subst (λ (at : ℕ). IsListChain file at blocks last) (sym unit.linked) (units_chained file (next_place Listed file place) blocks last are.2),
    )

pub opened_chained : (file : List ℕ) (blocks : List (List ℕ)) (last : ℕ) → form_of file ≡ Listed → IsOpenedTo file blocks last
    → IsListChain file (first_place file) blocks last
opened_chained file blocks last form opened =
    units_chained file (first_place file) blocks last (subst (λ (f : Form). AreUnits f file (first_place file) blocks last) form opened.units)
