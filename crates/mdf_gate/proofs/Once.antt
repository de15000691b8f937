-- A recording has one list of opened blocks, and carries one list of samples.
use Rattle.std.proofs.Common.{◌≡◌, ℕ, ◌+◌, List, [], ◌∷◌, get_or, drop, refl, sym, ◌∙◌, ap, subst, arith}
use Rattle.std.proofs.lemmas.List.{get_or-take, get_or-drop}
use Rattle.std.specs.List.{concat}
use Rattle.mdf_format.specs.Number.{bytes_at}
use Rattle.mdf_format.specs.Block.{name_of}
use Rattle.mdf_format.specs.declared.kind.Kind.TheVariants.{Dl, Dt}
use Rattle.mdf_layout.specs.Layout.{Layout}
use Rattle.mdf_layout.specs.Read.{AreRead}
use Rattle.mdf_layout.specs.declared.sample.Sample.{Sample}
use Rattle.mdf_layout.proofs.Pieces.{read_once}
use Rattle.mdf_format.specs.Form.{form_of}
use Rattle.mdf_gate.specs.Unit.{IsOpenPlace, IsUnit, AreUnits, next_place}
use Rattle.mdf_gate.specs.Recording.{IsOpened, first_place}
use Rattle.mdf_gate.specs.Carried.{IsCarried}
use Rattle.mdf_format.specs.declared.form.Form.{Form}
use Rattle.mdf_format.specs.declared.form.Form.TheVariants.{Bare, Listed}

-- a list of four bytes at a place begins with the byte there
first_byte : (file : List ℕ) (at : ℕ) (name : List ℕ) → bytes_at 4 file at ≡ name → get_or file at 0 ≡ get_or name 0 0
first_byte file at name is =
    let first = get_or-take 4 (drop at file) 0 0 (omega arith) in
    let there = get_or-drop at file 0 0 in
    let here : at + 0 ≡ at = omega arith in
    sym (ap (λ n. get_or file n 0) here) ∙ sym there ∙ sym first ∙ ap (λ bytes. get_or bytes 0 0) is

-- the first byte of a unit is an open gate
pub open_gate : (form : Form) (file : List ℕ) (place : ℕ) → IsUnit form file place → IsOpenPlace file place
open_gate Bare file place unit =
    let here : place + 0 ≡ place = omega arith in
    subst (IsOpenPlace file) here (first_byte file (place + 0) (name_of Dt) unit.block.named)
open_gate Listed file place unit = first_byte file place (name_of Dl) unit.led.block.named

-- units up to a closed place are one list
pub units_once : (form : Form) (file : List ℕ) (place last last' : ℕ) (blocks others : List (List ℕ)) → AreUnits form file place blocks last → AreUnits form file place others last'
    → ¬ IsOpenPlace file last → ¬ IsOpenPlace file last' → blocks ≡ others
unfolding AreUnits
units_once form file place last last' [] [] are are' closed closed' = refl
units_once form file place last last' [] (body ∷ others) are are' closed closed' =
    absurd (closed (subst (IsOpenPlace file) (sym are) (open_gate form file place are'.0)))
units_once form file place last last' (body ∷ blocks) [] are are' closed closed' =
    absurd (closed' (subst (IsOpenPlace file) (sym are') (open_gate form file place are.0)))
units_once form file place last last' (body ∷ blocks) (body' ∷ others) are are' closed closed' =
    ap (λ data_bytes. data_bytes ∷ blocks) (are.1 ∙ sym are'.1)
    ∙ ap (λ rest. body' ∷ rest) (units_once form file (next_place form file place) last last' blocks others are.2 are'.2 closed closed')

pub opened_once : (file : List ℕ) (blocks others : List (List ℕ)) → IsOpened file blocks → IsOpened file others → blocks ≡ others
opened_once file blocks others (last, one) (last', two) =
    units_once (form_of file) file (first_place file) last last' blocks others one.units two.units one.closed two.closed

pub carried_once : (layouts : List Layout) (file : List ℕ) (samples others : List Sample) → IsCarried layouts file samples
    → IsCarried layouts file others → samples ≡ others
carried_once layouts file samples others one two =
    read_once layouts (concat one.blocks) samples others one.records
    (subst (λ blocks. AreRead layouts (concat blocks) others) (sym (opened_once file one.blocks two.blocks one.opened two.opened)) two.records)
