-- A record has a sample whatever its index is.
use Rattle.std.proofs.Common.{◌≡◌, ℕ, List, [], ◌∷◌, Option, Some, None, refl, ◌∙◌, ap}
use Rattle.std.proofs.lemmas.Option.{option_and_then_some}
use Rattle.std.specs.Option.{option_and_then, option_map}
use Rattle.mdf_format.specs.Field.{Spot}
use Rattle.mdf_layout.specs.Rule.{spot_in}
use Rattle.mdf_layout.specs.Values.{Finder, entry_of, finders_behind, first_finder, is_valid, sample_by, value_in}
use Rattle.mdf_layout.specs.declared.field.FieldRow.{FieldRow}
use Rattle.mdf_layout.specs.declared.field.FieldKind.{FieldKind}
use Rattle.mdf_layout.specs.declared.field.FieldKind.TheVariants.{Unsigned, Signed, Fixed, Variable, Virtual}
use Rattle.mdf_layout.specs.declared.sample.Value.{Value}
use Rattle.mdf_layout.specs.declared.sample.Entry.{Entry}

-- what is mapped is there
pub mapped : {A B : Type 0} (f : A → B) (found : Option A) (y : B) → option_map f found ≡ Some y → (x : A) × (found ≡ Some x)
mapped f None y is = absurd (cc is)
mapped f (Some x) y is = (x, refl)

value_at_any : (kind : FieldKind) (spot : Spot) (bytes : List ℕ) (find : Finder) (index other : ℕ) (v : Value)
    → value_in kind spot bytes find index ≡ Some v → (w : Value) × (value_in kind spot bytes find other ≡ Some w)
value_at_any Unsigned spot bytes find index other v is = (_, refl)
value_at_any Signed spot bytes find index other v is = (_, refl)
value_at_any Fixed spot bytes find index other v is = (_, refl)
value_at_any Variable spot bytes find index other v is = (v, is)
value_at_any Virtual spot bytes find index other v is = (_, refl)

entry_at_any : (row : FieldRow) (bytes inval : List ℕ) (find : Finder) (index other : ℕ) (entry : Entry)
    → entry_of row bytes inval find index ≡ Some entry → (e : Entry) × (entry_of row bytes inval find other ≡ Some e)
entry_at_any row bytes inval find index other entry is =
    let make : Value → Entry = λ (v : Value). record { value = v; valid = is_valid row inval } in
    let one = mapped {A = Value} {B = Entry} make (value_in row.kind (spot_in row) bytes find index) entry is in
    let another = value_at_any row.kind (spot_in row) bytes find index other one.0 one.1 in
    (make another.0, ap (option_map {T = Value} {U = Entry} make) another.1)

pub sample_at_any : (rows : List FieldRow) (bytes inval : List ℕ) (finders : List Finder) (index other : ℕ) (entries : List Entry)
    → sample_by rows bytes inval finders index ≡ Some entries → (found : List Entry) × (sample_by rows bytes inval finders other ≡ Some found)
unfolding sample_by
sample_at_any [] bytes inval finders index other entries is = ([], refl)
sample_at_any (row ∷ rows) bytes inval finders index other entries is =
    let find = first_finder finders in
    let behind = finders_behind row finders in
    option_and_then_some (λ (entry : Entry). option_map (λ (rest : List Entry). entry ∷ rest) (sample_by rows bytes inval behind index))
    (entry_of row bytes inval find index) entries is
    (λ entry there rest.
    let one = entry_at_any row bytes inval find index other entry there in
    let more = mapped (λ (rest : List Entry). entry ∷ rest) (sample_by rows bytes inval behind index) entries rest in
    let others = sample_at_any rows bytes inval behind index other more.0 more.1 in (
      one.0 ∷ others.0,
      ap (option_and_then (λ (entry : Entry). option_map (λ (rest : List Entry). entry ∷ rest) (sample_by rows bytes inval behind other))) one.1
          ∙ ap (option_map (λ (rest : List Entry). one.0 ∷ rest)) others.1,
    ))
