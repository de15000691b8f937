-- Groups that are joined one by one.
use Rattle.std.proofs.Common.{◌≡◌, ◌+◌, ◌<◌, ℕ, suc, Bool, false, List, [], ◌∷◌, ◌++◌, length, map, get_or, refl, sym, ◌∙◌, ap, subst, arith}
use Rattle.std.specs.Prelude.{filter, if◌then◌else◌}
use Rattle.std.specs.List.{AllByRecursion}
use Rattle.mdf_format.specs.Row.{RowNumbers}
use Rattle.mdf_group.specs.declared.row.ChannelRow.{ChannelRow}
use Rattle.mdf_group.specs.declared.row.GroupRow.{GroupRow}
use Rattle.mdf_group.specs.Group as groups
use Rattle.mdf_group.specs.Recordable.{numbers_of}
use Rattle.mdf_layout.specs.Layout.{Layout}
use Rattle.mdf_layout.specs.Row.{field_row}
use Rattle.mdf_layout.specs.Rule.{is_variable}
use Rattle.mdf_layout.specs.declared.field.FieldRow.{FieldRow}
use Rattle.mdf_content.specs.Layouts.{field_of, layout_of, placed_channels}
use Rattle.mdf_content.specs.Samples.{AreSamples}
use Rattle.mdf_model.specs.declared.part.Measure.{Measure}
use Rattle.mdf_model.specs.Measurement.{HasSamples, Measured, with_content}
use Rattle.mdf_block.proofs.Items.{one_of}
use Rattle.tool_sort.specs.Kept.{IsMeasureIn, StandsIn}
use Rattle.tool_concat.specs.Difference.{AreAlike}
use Rattle.tool_concat.specs.Joined.{AreJoined, IsJoined, IsJoinedGroup, joined_streams}
use Rattle.tool_concat.specs.Making.{IsLaid}
use Rattle.tool_concat.specs.Moved.{AreMoved}
use Rattle.tool_concat.specs.Same.{SameChannel, SameGroup, SameNumbers}
use Rattle.tool_concat.proofs.Joinings.{joined_samples}

pub all_of : {A : Type 0} (P : A → Type 0) (xs : List A) → ((k : ℕ) (d : A) → k < length xs → P (get_or xs k d)) → AllByRecursion P xs
all_of P [] each = tt
all_of P (x ∷ xs) each = (each 0 x (omega arith), all_of P xs (λ k d below. each (suc k) d (omega (arith, below))))

-- channels that are the same have the same fields
numbers : ℕ → ℕ → ℕ → ℕ → ℕ → ℕ → ℕ → RowNumbers
numbers kind data_type byte bit bits flags inval =
    record { kind = kind; data_type = data_type; byte = byte; bit = bit; bits = bits; flags = flags; inval = inval }

same_numbers : (x y : ChannelRow) → SameNumbers x y → numbers_of x ≡ numbers_of y
unfolding numbers
same_numbers x y same =
    ap (λ (v : ℕ). numbers v x.data_type x.byte x.bit x.bits x.flags x.inval) same.kind
    ∙ ap (λ (v : ℕ). numbers y.kind v x.byte x.bit x.bits x.flags x.inval) same.data_type
    ∙ ap (λ (v : ℕ). numbers y.kind y.data_type v x.bit x.bits x.flags x.inval) same.byte
    ∙ ap (λ (v : ℕ). numbers y.kind y.data_type y.byte v x.bits x.flags x.inval) same.bit
    ∙ ap (λ (v : ℕ). numbers y.kind y.data_type y.byte y.bit v x.flags x.inval) same.bits
    ∙ ap (λ (v : ℕ). numbers y.kind y.data_type y.byte y.bit y.bits v x.inval) same.flags
    ∙ ap (λ (v : ℕ). numbers y.kind y.data_type y.byte y.bit y.bits y.flags v) same.inval

same_fields : (xs ys : List ChannelRow) → length xs ≡ length ys → ((k : ℕ) (d : ChannelRow) → k < length xs → SameChannel (get_or xs k d) (get_or ys k d))
    → map field_of xs ≡ map field_of ys
same_fields [] [] count each = refl
same_fields [] (y ∷ ys) count each = absurd (omega (arith, count))
same_fields (x ∷ xs) [] count each = absurd (omega (arith, count))
same_fields (x ∷ xs) (y ∷ ys) count each =
    let one : field_of x ≡ field_of y = ap field_row (same_numbers x y (each 0 x (omega arith)).numbers) in
    let rest = same_fields xs ys (omega (arith, count)) (λ k d below. each (suc k) d (omega (arith, below))) in
    ap (λ (field : FieldRow). field ∷ map field_of xs) one ∙ ap (λ (fields : List FieldRow). field_of y ∷ fields) rest

-- groups that are the same have the same layout
own_channels : (group : GroupRow) → groups.is_variable group ≡ false → placed_channels group ≡ group.channels
own_channels group own = ap (λ (b : Bool). if b then [] else group.channels) own

layout_with : List FieldRow → ℕ → ℕ → Layout
layout_with rows data_bytes inval_bytes = record { rows = rows; data_bytes = data_bytes; inval_bytes = inval_bytes }

same_layout : (one other : GroupRow) → SameGroup one other → groups.is_variable one ≡ false → groups.is_variable other ≡ false → layout_of one ≡ layout_of other
unfolding layout_with
same_layout one other same own others =
    let rows = ap (λ (channels : List ChannelRow). map field_of channels) (own_channels one own) ∙ same_fields one.channels other.channels same.channels.count same.channels.each
    ∙ ap (λ (channels : List ChannelRow). map field_of channels) (sym (own_channels other others)) in
    ap (λ (fields : List FieldRow). layout_with fields one.data_bytes one.inval_bytes) rows
    ∙ ap (λ (n : ℕ). layout_with (map field_of (placed_channels other)) n one.inval_bytes) same.data_bytes
    ∙ ap (λ (n : ℕ). layout_with (map field_of (placed_channels other)) other.data_bytes n) same.inval_bytes

pub same_shape : (one other : Measure) → IsLaid one → IsLaid other → SameGroup one.part.row other.part.row → one.shape ≡ other.shape
same_shape one other first second same =
    first.shape ∙ same_layout one.part.row other.part.row same first.own second.own ∙ sym second.shape

-- as many streams
pub same_count : (one other : Measure) → HasSamples one → HasSamples other → one.shape ≡ other.shape → length one.part.streams ≡ length other.part.streams
same_count one other first second shape =
    first.each_stream ∙ ap (λ (layout : Layout). length (filter is_variable layout.rows)) shape ∙ sym second.each_stream

-- the records of a joined group are samples
pub content_samples : (one other : Measure) → HasSamples one → HasSamples other → one.shape ≡ other.shape → (moved : List ℕ)
    → AreMoved other.shape one.part.streams other.part.content other.count moved
    → AreSamples one.shape (one.count + other.count) (one.part.content ++ moved) (joined_streams one.part.streams other.part.streams)
content_samples one other first second shape moved are =
    joined_samples one.shape one.part.streams other.part.streams (same_count one other first second shape) other.part.content other.count
    (subst (λ (layout : Layout). AreSamples layout other.count other.part.content other.part.streams) (sym shape) second)
    one.count one.part.content first other.count (omega arith) moved
    (subst (λ (layout : Layout). AreMoved layout one.part.streams other.part.content other.count moved) (sym shape) are)

pub group_samples : (one other joined : Measure) → HasSamples one → HasSamples other → one.shape ≡ other.shape → IsJoinedGroup one other joined → HasSamples joined
group_samples one other joined first second shape is =
    subst (λ (m : Measure). HasSamples m) (sym is.is) (content_samples one other first second shape is.moved is.are_moved)

-- and the joined groups stand in the first file
module _ (file : List ℕ) where
  stands_with : (one joined : Measure) (count : ℕ) (content : List ℕ) (streams : List (List ℕ)) → IsMeasureIn file one → joined ≡ with_content one count content streams
      → HasSamples joined → IsMeasureIn file joined
  stands_with one joined count content streams stands is samples =
      let here : IsMeasureIn file (with_content one count content streams) = record {
        row = stands.row;
        no_values = stands.no_values;
        place = stands.place;
        comment = stands.comment;
        ruled = stands.ruled;
        shape = stands.shape;
        samples = subst (λ (m : Measure). HasSamples m) is samples;
      } in
      subst (λ (m : Measure). IsMeasureIn file m) (sym is) here

  pub laid : (groups : List Measure) → AllByRecursion (IsMeasureIn file) groups → AllByRecursion IsLaid groups
  laid [] stand = tt
  laid (m ∷ groups) stand = (record { samples = stand.0.samples; shape = stand.0.shape; own = stand.0.no_values }, laid groups stand.1)

  groups_stand : (groups others joined : List Measure) → AllByRecursion (IsMeasureIn file) groups → AllByRecursion IsLaid groups → AllByRecursion IsLaid others
      → AreAlike groups others → AreJoined groups others joined → AllByRecursion (IsMeasureIn file) joined
  groups_stand groups others joined stand first second alike are =
      all_of (IsMeasureIn file) joined (λ k d below.
      let inside : k < length groups = omega (arith, below, are.count) in
      let one = one_of IsLaid groups k d first inside in
      let other = one_of IsLaid others k d second (omega (arith, inside, alike.count)) in
      let is = are.each k d inside in
      let shape = same_shape (get_or groups k d) (get_or others k d) one other (alike.each k inside d) in
      stands_with (get_or groups k d) (get_or joined k d) _ _ _ (one_of (IsMeasureIn file) groups k d stand inside) is.is
      (group_samples (get_or groups k d) (get_or others k d) (get_or joined k d) one.samples other.samples shape is))

  pub joined_stands : (one other joined : Measured) → StandsIn file one → AllByRecursion IsLaid one.groups → AllByRecursion IsLaid other.groups
      → AreAlike one.groups other.groups → IsJoined one other joined → StandsIn file joined
  joined_stands one other joined stands first second alike is =
      let here : StandsIn file (record one { groups = joined.groups }) = record {
        bytes = stands.bytes;
        head = stands.head;
        groups = groups_stand one.groups other.groups joined.groups stands.groups first second alike is.groups;
      } in
      subst (λ (m : Measured). StandsIn file m) (sym is.rest) here
