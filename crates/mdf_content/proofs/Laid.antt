-- The first channel of a group that breaks a rule of its layout.
use Rattle.std.proofs.Common.{◌≡◌, ◌+◌, ◌<◌, ℕ, zero, suc, true, false, Bool, List, [], ◌∷◌, length, get_or, map, Option, Some, None, Ok, Err, refl, sym, ◌∙◌, ap, subst, arith}
use Rattle.std.proofs.lemmas.List.{length-map, get_or-map}
use Rattle.std.proofs.lemmas.Bool.{cond-true, cond-false}
use Rattle.mdf_block.specs.Refusal as refusals
use Rattle.mdf_block.specs.Refusal.{Read}
use Rattle.mdf_group.specs.declared.row.ChannelRow.{ChannelRow}
use Rattle.mdf_group.specs.declared.row.GroupRow.{GroupRow}
use Rattle.mdf_layout.specs.Layout.{Layout, IsRuled}
use Rattle.mdf_layout.specs.Rule.{breaks_row_rule, IsFirstBad}
use Rattle.mdf_layout.specs.declared.field.FieldRow.{FieldRow}
use Rattle.std.specs.Prelude.{All}
use Rattle.std.proofs.lemmas.List.Elements.{All-get_or}
use Rattle.mdf_format.specs.Row.{RowNumbers, form_of}
use Rattle.mdf_group.specs.Group.{is_variable}
use Rattle.mdf_group.specs.Recordable.{numbers_of}
use Rattle.mdf_layout.specs.Row.{field_row, kind_in}
use Rattle.mdf_layout.specs.Rule.{spot_in, IsPlacedAs}
use Rattle.mdf_layout.specs.Values.{IsRowPlaced}
use Rattle.mdf_layout.specs.declared.field.FieldKind.{FieldKind}
use Rattle.mdf_layout.specs.declared.field.FieldKind.TheVariants.{Variable}
use Rattle.mdf_block.specs.Every.{AllByNumber}
use Rattle.mdf_content.specs.Layouts.{HasOffset, field_of, placed_channels, layout_of, first_unplaced, layout_unless, layout}

abbrev breaks : Layout → ℕ → ChannelRow → Bool
breaks layout k channel = breaks_row_rule layout.data_bytes layout.inval_bytes layout.rows k (field_of channel)

-- moves a number
moved : (layout : Layout) (k n : ℕ) (channel : ChannelRow) (b : Bool) → k ≡ n → breaks layout k channel ≡ b → breaks layout n channel ≡ b
moved layout k n channel b same is = subst (λ (m : ℕ). breaks layout m channel ≡ b) same is

none_here : (k : ℕ) → k + 0 ≡ k
none_here k = omega arith

one_more : (k j : ℕ) → k + suc j ≡ k + 1 + j
one_more k j = omega arith

-- where a channel breaks a rule and none before it does, it is the first
first_is : (layout : Layout) (channels : List ChannelRow) (k n : ℕ) (d : ChannelRow) → n < length channels
    → ((j : ℕ) → j < n → breaks layout (k + j) (get_or channels j d) ≡ false)
    → breaks layout (k + n) (get_or channels n d) ≡ true → first_unplaced layout k channels ≡ Some (get_or channels n d)
unfolding first_unplaced
first_is layout [] k n d below none here = absurd (omega (arith, below))
first_is layout (channel ∷ channels) k zero d below none here =
    cond-true (breaks layout k channel) (Some channel) (first_unplaced layout (k + 1) channels)
    (moved layout (k + 0) k channel true (none_here k) here)
first_is layout (channel ∷ channels) k (suc n) d below none here =
    cond-false (breaks layout k channel) (Some channel) (first_unplaced layout (k + 1) channels)
    (moved layout (k + 0) k channel false (none_here k) (none zero (omega arith)))
    ∙ first_is layout channels (k + 1) n d (omega (arith, below))
    (λ j less. moved layout (k + suc j) (k + 1 + j) (get_or channels j d) false (one_more k j) (none (suc j) (omega (arith, less))))
    (moved layout (k + suc n) (k + 1 + n) (get_or channels n d) true (one_more k n) here)

-- where none does, there is no first
none_is : (layout : Layout) (channels : List ChannelRow) (k : ℕ) (d : ChannelRow)
    → ((j : ℕ) → j < length channels → breaks layout (k + j) (get_or channels j d) ≡ false) → first_unplaced layout k channels ≡ None
unfolding first_unplaced
none_is layout [] k d none = refl
none_is layout (channel ∷ channels) k d none =
    cond-false (breaks layout k channel) (Some channel) (first_unplaced layout (k + 1) channels)
    (moved layout (k + 0) k channel false (none_here k) (none zero (omega arith)))
    ∙ none_is layout channels (k + 1) d
    (λ j less. moved layout (k + suc j) (k + 1 + j) (get_or channels j d) false (one_more k j) (none (suc j) (omega (arith, less))))

from_zero : (j : ℕ) → j ≡ 0 + j
from_zero j = omega arith

-- a channel of a group by its field
by_field : (group : GroupRow) (j : ℕ) (d : ChannelRow) (b : Bool) → j < length (placed_channels group)
    → breaks_row_rule group.data_bytes group.inval_bytes (map field_of (placed_channels group)) j
    (get_or (map field_of (placed_channels group)) j (field_of d)) ≡ b → breaks (layout_of group) (0 + j) (get_or (placed_channels group) j d) ≡ b
by_field group j d b below is =
    moved (layout_of group) j (0 + j) (get_or (placed_channels group) j d) b (from_zero j)
    (subst (λ (row : FieldRow). breaks_row_rule group.data_bytes group.inval_bytes (map field_of (placed_channels group)) j row ≡ b)
    (get_or-map field_of (placed_channels group) j d (field_of d) below) is)

pub is_there : (group : GroupRow) (channel : ℕ) → IsFirstBad group.data_bytes group.inval_bytes (map field_of (placed_channels group)) channel
    → channel < length (placed_channels group)
is_there group channel bad = subst (λ (n : ℕ). channel < n) (length-map (placed_channels group) field_of) bad.there

-- a group with a channel that breaks a rule is refused at the first
pub unplaced_is : (group : GroupRow) (channel : ℕ) (d : ChannelRow)
    → IsFirstBad group.data_bytes group.inval_bytes (map field_of (placed_channels group)) channel
    → layout group ≡ Err (refusals.Layout (get_or (placed_channels group) channel d).at)
unfolding layout
unplaced_is group channel d bad =
    let below = is_there group channel bad in
    ap (layout_unless group)
    (first_is (layout_of group) (placed_channels group) 0 channel d below
    (λ j less. by_field group j d false (omega (arith, less, below)) (bad.first j (field_of d) less))
    (by_field group channel d true below (bad.breaks (field_of d))))

-- a group with no such channel has its layout
none_of : (group : GroupRow) (channels : List ChannelRow) → placed_channels group ≡ channels → IsRuled (layout_of group)
    → first_unplaced (layout_of group) 0 channels ≡ None
unfolding first_unplaced
none_of group [] same ruled = refl
none_of group (channel ∷ channels) same ruled =
    none_is (layout_of group) (channel ∷ channels) 0 channel
    (subst (λ (all : List ChannelRow). (j : ℕ) → j < length all → breaks (layout_of group) (0 + j) (get_or all j channel) ≡ false) same
    (λ j less. by_field group j channel false less
    (ruled.ruled j (field_of channel) (subst (λ (n : ℕ). j < n) (sym (length-map (placed_channels group) field_of)) less))))

pub laid_is : (group : GroupRow) → IsRuled (layout_of group) → layout group ≡ Ok (layout_of group)
unfolding layout
laid_is group ruled = ap (layout_unless group) (none_of group (placed_channels group) refl ruled)

-- the field of a channel of variable length is an offset
is_offset : (row : RowNumbers) → row.kind ≡ 1 → (field_row row).kind ≡ Variable
is_offset row is = ap (λ (k : ℕ). kind_in (form_of (record row { kind = k }))) is

offset_placed : (data_bytes inval_bytes : ℕ) (channels : List ChannelRow) → All (IsRowPlaced data_bytes inval_bytes) (map field_of channels)
    → (k : ℕ) (d : ChannelRow) → k < length channels → HasOffset data_bytes (get_or channels k d)
offset_placed data_bytes inval_bytes channels placed k d below kind =
    let channel = get_or channels k d in
    let same : get_or (map field_of channels) k (field_of d) ≡ field_of channel = get_or-map field_of channels k d (field_of d) below in
    let here : IsRowPlaced data_bytes inval_bytes (get_or (map field_of channels) k (field_of d)) =
    All-get_or (IsRowPlaced data_bytes inval_bytes) (map field_of channels) k (field_of d)
    (subst (λ (n : ℕ). k < n) (sym (length-map channels field_of)) below) placed in
    let there : IsRowPlaced data_bytes inval_bytes (field_of channel) = subst (IsRowPlaced data_bytes inval_bytes) same here in
    subst (λ (form : FieldKind). IsPlacedAs form data_bytes (spot_in (field_of channel))) (is_offset (numbers_of channel) kind) there.field

pub offsets_placed : (group : GroupRow) → is_variable group ≡ false → IsRuled (layout_of group)
    → AllByNumber (λ k. HasOffset group.data_bytes) group.channels
offsets_placed group other ruled =
    let same : placed_channels group ≡ group.channels = cond-false (is_variable group) [] group.channels other in
    offset_placed group.data_bytes group.inval_bytes group.channels
    (subst (λ (channels : List ChannelRow). All (IsRowPlaced group.data_bytes group.inval_bytes) (map field_of channels)) same ruled.placed)

-- a group that is laid out has its layout
pub unless_found : (group : GroupRow) (first : Option ChannelRow) (found : Layout) → layout_unless group first ≡ Ok found
    → (first ≡ None) × (layout_of group ≡ found)
unless_found group None found is = let same : ◌≡◌ {A = Read Layout} (Ok (layout_of group)) (Ok found) = is in (refl, cc)
unless_found group (Some channel) found is = let wrong : ◌≡◌ {A = Read Layout} (Err (refusals.Layout channel.at)) (Ok found) = is in cc

pub laid_shape : (group : GroupRow) (shape : Layout) → layout group ≡ Ok shape → layout_of group ≡ shape
unfolding layout
laid_shape group shape is = (unless_found group (first_unplaced (layout_of group) 0 (placed_channels group)) shape is).1

-- a layout of the fields of a group
pub layout_is : (group : GroupRow) (shape : Layout) (fields : List FieldRow) (channels : List ChannelRow)
    → shape ≡ record { rows = fields; data_bytes = group.data_bytes; inval_bytes = group.inval_bytes }
    → fields ≡ map field_of channels → channels ≡ placed_channels group → shape ≡ layout_of group
layout_is group shape fields channels is fields_are channels_are =
    is
    ∙ ap (λ (rows : List FieldRow). record { rows = rows; data_bytes = group.data_bytes; inval_bytes = group.inval_bytes })
    (fields_are ∙ ap (λ (all : List ChannelRow). map field_of all) channels_are)
