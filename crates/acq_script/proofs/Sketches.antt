-- What holds of the plan whose groups are being named, and of the plan that has ended.
use Rattle.std.proofs.Common.{◌≡◌, ◌≢◌, ◌∙◌, sym, ap, subst, ℕ, zero, suc, ◌+◌, ◌/◌, ◌%◌, ◌<◌, ◌≤◌, ◌⊎◌, inl, inr, Bool, true, false, cond, Option, Some, None, List, [], ◌∷◌, ◌++◌, length, get_or, map, refl, arith, length-append}
use Rattle.std.specs.Prelude.{nat_eq, nat_lt, nat_le, ◌&&◌, not, All, filter, sum_by, unwrap_or}
use Rattle.std.specs.List.{AllByRecursion}
use Rattle.std.specs.Option.{option_map}
use Rattle.std.proofs.lemmas.Bool.{leb-true, leb-false, ltb-true, and_parts, false≢true, eqb-true, not-true}
use Rattle.std.proofs.lemmas.List.{length-replicate}
use Rattle.std.proofs.lemmas.List.Elements.{filter-append, All-append, All-weaker, All-nil, All-cons, All-replicate}
use Rattle.std.proofs.lemmas.List.Sums.{sum_by-append, sum_by-cons}
use Rattle.std.proofs.lemmas.Option.{slice_get-get_or}
use Rattle.mdf_format.specs.Field.{HasBit}
use Rattle.mdf_format.specs.Row.{RowNumbers, BreaksRowRule}
use Rattle.mdf_group.specs.Recordable.{numbers_of, is_of_values, ArePlaced, IsRecordableChannel, IsRecordableGroup}
use Rattle.mdf_group.specs.declared.row.ChannelRow.{ChannelRow}
use Rattle.mdf_group.specs.declared.row.GroupRow.{GroupRow}
use Rattle.mdf_layout.specs.Row.{field_row, kind_in}
use Rattle.mdf_layout.specs.Rule.{is_variable, is_variable_kind, breaks_row_rule, IsFirstBad}
use Rattle.mdf_layout.specs.Written.{IsApart, AreApart}
use Rattle.mdf_layout.specs.Layout.{Layout}
use Rattle.mdf_layout.specs.Behind.{variables}
use Rattle.mdf_layout.specs.Stored.{IsStored}
use Rattle.mdf_layout.specs.declared.field.FieldKind.TheVariants as kinds
use Rattle.mdf_layout.specs.declared.field.FieldRow.{FieldRow}
use Rattle.mdf_layout.proofs.Numbers.{same_spot}
use Rattle.script_line.specs.Text.{is_name}
use Rattle.script_line.specs.Line.{IsForm}
use Rattle.acq_script.specs.Draft.{drawn, with_channel, with_unit, group_row}
use Rattle.acq_script.specs.Plan.{layout_of, HasPlace, IsGroup, IsPlan, AreLimits, MOST_SOURCES, TaskFits, IsTaskOf}
use Rattle.acq_script.specs.Sketch.{opening_of, first_of, first_sketch, more_sources, grouped, with_group, has_room, counted, sketch_with, channel_in, unit_in, all_rows, plan_with, script_with, begun, IsDraft, IsSketch}
use Rattle.acq_script.specs.Stage.{IsLimit, IsScript}
use Rattle.script_line.specs.declared.line.ChannelForm.{ChannelForm}
use Rattle.acq_script.specs.declared.draft.Draft.{Draft}
use Rattle.acq_script.specs.declared.sketch.Opening.{Opening}
use Rattle.acq_script.specs.declared.sketch.Preamble.{Preamble}
use Rattle.acq_script.specs.declared.sketch.Sketch.{Sketch}
use Rattle.acq_script.specs.declared.script.Script.{Script}
use Rattle.script_line.proofs.Entries.{kept, mapped}
use Rattle.acq_script.proofs.Layings.{only_one, form_by, form_is, test_values, test_signed, test_number}
use Rattle.acq_script.proofs.Drafts.{each_more, new_is, drawn_is, unit_is, group_is}

low_limit : (most default_ : ℕ) (o : Option ℕ) → IsLimit most o → 1 ≤ default_ → default_ ≤ most → (1 ≤ unwrap_or o default_) × (unwrap_or o default_ ≤ most)
low_limit most default_ None is some few = (some, few)
low_limit most default_ (Some limit) is some few = is

pub opening_is : (said : Preamble) → IsLimit 16777216 said.block → IsLimit 268435456 said.session → AreLimits (opening_of said).block (opening_of said).session
opening_is said one two =
    let first = low_limit 16777216 65536 said.block one (omega arith) (omega arith) in
    let second = low_limit 268435456 268435456 said.session two (omega arith) (omega arith) in
    record { block_low = first.0; block_high = first.1; session_low = second.0; session_high = second.1 }

pub first_is : (opening : Opening) (source : ℕ) (name : List ℕ) (sketch : Sketch) → AreLimits opening.block opening.session → is_name name ≡ true → first_sketch opening source name ≡ Some sketch → IsSketch sketch
first_is opening source name sketch are ok e =
    let both : (nat_lt source MOST_SOURCES ≡ true) × (Some (first_of opening source name) ≡ Some sketch) = kept (nat_lt source MOST_SOURCES) (Some (first_of opening source name)) sketch e in
    let same : first_of opening source name ≡ sketch = cc in
    let low : source < MOST_SOURCES = ltb-true _ _ both.0 in
    subst IsSketch same (record {
      limits = are;
      few = omega arith;
      each = tt;
      draft = new_is name ok;
      channels_are = refl;
      channels = omega arith;
      variable_are = refl;
      variable = omega arith;
      owners = refl;
      owned = only_one (λ s. s < source + 1) source (omega arith);
      sources = (omega arith, omega (arith, low));
    })

more_by : (b : Bool) (sources source : ℕ) → nat_le sources source ≡ b → source < MOST_SOURCES → sources ≤ MOST_SOURCES
    → (sources ≤ cond b (source + 1) sources) × (source < cond b (source + 1) sources) × (cond b (source + 1) sources ≤ MOST_SOURCES)
more_by true sources source test low few = (omega (arith, leb-true _ _ test), omega arith, omega (arith, low))
more_by false sources source test low few = (omega arith, omega (arith, leb-false _ _ test), few)

pub group_more : (sketch : Sketch) (source : ℕ) (name : List ℕ) (changed : Sketch) → IsSketch sketch → is_name name ≡ true → with_group sketch source name ≡ Some changed → IsSketch changed
group_more sketch source name changed is ok e =
    let test = nat_lt source MOST_SOURCES && nat_lt 0 (length sketch.draft.channels) && nat_lt (length sketch.rows + 1) 64 in
    let both : (test ≡ true) × (Some (grouped sketch source name) ≡ Some changed) = kept test (Some (grouped sketch source name)) changed e in
    let same : grouped sketch source name ≡ changed = cc in
    let outer = and_parts (nat_lt source MOST_SOURCES && nat_lt 0 (length sketch.draft.channels)) (nat_lt (length sketch.rows + 1) 64) both.0 in
    let inner = and_parts (nat_lt source MOST_SOURCES) (nat_lt 0 (length sketch.draft.channels)) outer.0 in
    let low : source < MOST_SOURCES = ltb-true _ _ inner.0 in
    let some : 0 < length sketch.draft.channels = ltb-true _ _ inner.1 in
    let few : length sketch.rows + 1 < 64 = ltb-true _ _ outer.1 in
    let more = more_by (nat_le sketch.counts.sources source) sketch.counts.sources source refl low is.sources.1 in
    let row : GroupRow = group_row sketch.draft in
    let long = length-append sketch.rows (row ∷ []) in
    let owners = length-append sketch.owners (source ∷ []) in
    let sums = sum_by-append (λ (r : GroupRow). length r.channels) sketch.rows (row ∷ []) in
    let values = sum_by-append (λ (r : GroupRow). length (filter is_of_values r.channels)) sketch.rows (row ∷ []) in
    subst IsSketch same (record {
      limits = is.limits;
      few = omega (arith, long, few);
      each = each_more IsRecordableGroup sketch.rows row is.each (group_is sketch.draft is.draft (omega (arith, some)));
      draft = new_is name ok;
      channels_are = omega (arith, is.channels_are, sums);
      channels = is.channels;
      variable_are = omega (arith, is.variable_are, values);
      variable = is.variable;
      owners = omega (arith, owners, long, is.owners);
      owned = All-append (λ s. s < more_sources sketch.counts.sources source) sketch.owners (source ∷ [])
          (All-weaker (λ s. s < sketch.counts.sources) (λ s. s < more_sources sketch.counts.sources source) (λ s less. omega (arith, less, more.0)) sketch.owners is.owned)
          (only_one (λ s. s < more_sources sketch.counts.sources source) source more.1);
      sources = (omega (arith, is.sources.0, more.0), more.2);
    })

values_of_one : (v : Bool) (m : Bool) (row : ChannelRow) → row.kind ≡ cond v 1 (cond m 2 0) → length (cond (nat_eq row.kind 1) (row ∷ []) []) ≡ cond v 1 0
values_of_one true m row is = ap (λ k. length (cond (nat_eq k 1) (row ∷ []) [])) is
values_of_one false true row is = ap (λ k. length (cond (nat_eq k 1) (row ∷ []) [])) is
values_of_one false false row is = ap (λ k. length (cond (nat_eq k 1) (row ∷ []) [])) is

room_left : (v : Bool) (n : ℕ) → not (v && nat_le 128 n) ≡ true → n ≤ 128 → cond v (n + 1) n ≤ 128
room_left true n test few = omega (arith, leb-false _ _ (not-true (nat_le 128 n) test))
room_left false n test few = few

pub channel_more : (sketch : Sketch) (name : List ℕ) (form : ChannelForm) (changed : Sketch) → IsSketch sketch → is_name name ≡ true → IsForm form → channel_in sketch name form ≡ Some changed → IsSketch changed
channel_more sketch name form changed is ok said e =
    let both = kept (has_room sketch.counts form) (option_map (sketch_with sketch (counted sketch.counts form)) (with_channel sketch.draft name form)) changed e in
    let found = mapped (sketch_with sketch (counted sketch.counts form)) (with_channel sketch.draft name form) changed both.1 in
    let test = nat_lt (length sketch.draft.channels) 256 && not (sketch.draft.master && form.master) in
    let admitted = kept test (Some (drawn sketch.draft name form)) found.0 found.1 in
    let drawn_same : drawn sketch.draft name form ≡ found.0 = some_same (drawn sketch.draft name form) found.0 admitted.1 in
    let few : length sketch.draft.channels < 256 = ltb-true _ _ (and_parts (nat_lt (length sketch.draft.channels) 256) (not (sketch.draft.master && form.master)) admitted.0).0 in
    let room = and_parts (nat_lt sketch.counts.channels 1024) (not (form.kind.variable && nat_le 128 sketch.counts.variable)) both.0 in
    let here = drawn_is sketch.draft name form is.draft ok said few in
    subst IsSketch found.2 (subst (λ d. IsSketch (sketch_with sketch (counted sketch.counts form) d)) drawn_same (sketch_is here room.0 room.1))
  where
    some_same : (a b : Draft) → Some a ≡ Some b → a ≡ b
    some_same a b same = cc

    sketch_is : IsDraft (drawn sketch.draft name form) → nat_lt sketch.counts.channels 1024 ≡ true → not (form.kind.variable && nat_le 128 sketch.counts.variable) ≡ true
        → IsSketch (sketch_with sketch (counted sketch.counts form) (drawn sketch.draft name form))
    sketch_is here below room =
        let row = Rattle.acq_script.specs.Draft.channel_row name form (Rattle.acq_script.specs.Draft.start_of form.kind sketch.draft.free) sketch.draft.positions in
        let long = length-append sketch.draft.channels (row ∷ []) in
        let filtered = ap length (filter-append is_of_values sketch.draft.channels (row ∷ [])) ∙ length-append (filter is_of_values sketch.draft.channels) (filter is_of_values (row ∷ [])) in
        let one : length (filter is_of_values (row ∷ [])) ≡ cond form.kind.variable 1 0 = values_of_one form.kind.variable form.master row refl in
        record {
          limits = is.limits;
          few = is.few;
          each = is.each;
          draft = here;
          channels_are = omega (arith, is.channels_are, long);
          channels = omega (arith, ltb-true _ _ below);
          variable_are = variable_same form.kind.variable (length (filter is_of_values (sketch.draft.channels ++ row ∷ []))) (omega (arith, filtered, one));
          variable = room_left form.kind.variable sketch.counts.variable room is.variable;
          owners = is.owners;
          owned = is.owned;
          sources = is.sources;
        }
      where
        variable_same : (v : Bool) (n : ℕ) → n ≡ length (filter is_of_values sketch.draft.channels) + cond v 1 0
            → cond v (sketch.counts.variable + 1) sketch.counts.variable ≡ sum_by (λ (r : GroupRow). length (filter is_of_values r.channels)) sketch.rows + n
        variable_same true n same = omega (arith, same, is.variable_are)
        variable_same false n same = omega (arith, same, is.variable_are)

pub unit_more : (sketch : Sketch) (unit : List ℕ) (changed : Sketch) → IsSketch sketch → is_name unit ≡ true → unit_in sketch unit ≡ Some changed → IsSketch changed
unit_more sketch unit changed is ok e =
    let found = mapped (sketch_with sketch sketch.counts) (with_unit sketch.draft unit) changed e in
    let here = unit_is sketch.draft found.0 unit is.draft ok found.1 in
    subst IsSketch found.2 (record {
      limits = is.limits;
      few = is.few;
      each = is.each;
      draft = here.0;
      channels_are = omega (arith, is.channels_are, here.1);
      channels = is.channels;
      variable_are = omega (arith, is.variable_are, here.2);
      variable = is.variable;
      owners = is.owners;
      owned = is.owned;
      sources = is.sources;
    })

used_position : (b : Bool) (position p : ℕ) → cond b (Some position) None ≡ Some p → (b ≡ true) × (position ≡ p)
used_position true position p e = (refl, cc)
used_position false position p e = absurd (cc)

fields_apart : (data_bytes inval_bytes : ℕ) (rows : List RowNumbers) → ArePlaced data_bytes inval_bytes rows → (i j : ℕ) (d : RowNumbers) → i < j → j < length rows → IsApart (field_row (get_or rows i d)) (field_row (get_or rows j d))
fields_apart data_bytes inval_bytes rows placed i j d before within =
    let one = get_or rows i d in
    let other = get_or rows j d in
    record {
      fields = λ p first second. placed.bits i j d before within (record { p = p; first = subst (λ s. HasBit s p) (same_spot one) first; second = subst (λ s. HasBit s p) (same_spot other) second });
      positions = λ p first second.
          let a = used_position (nat_eq (one.flags / 2 % 2) 1) one.inval p first in
          let b = used_position (nat_eq (other.flags / 2 % 2) 1) other.inval p second in
          placed.positions i j d before within (eqb-true _ _ a.0) (eqb-true _ _ b.0) (a.1 ∙ sym b.1);
    }

-- an item of a mapped list
got_mapped : {A B : Type 0} (f : A → B) (xs : List A) (k : ℕ) (x : A) (y : B) → k < length xs → get_or (map f xs) k y ≡ f (get_or xs k x)
got_mapped f [] k x y below = absurd (omega (arith, below))
got_mapped f (z ∷ xs) zero x y below = refl
got_mapped f (z ∷ xs) (suc k) x y below = got_mapped f xs k x y (omega (arith, below))

pub long_mapped : {A B : Type 0} (f : A → B) (xs : List A) → length (map f xs) ≡ length xs
long_mapped f [] = refl
long_mapped f (x ∷ xs) = ap suc (long_mapped f xs)

abbrev field_of : ChannelRow → FieldRow
field_of channel = field_row (numbers_of channel)

-- a channel of a list that has one
some_channel : (channels : List ChannelRow) {j : ℕ} → j < length channels → ChannelRow
some_channel [] below = absurd (omega (arith, below))
some_channel (channel ∷ channels) below = channel

-- the field of a channel, from its numbers
field_at : (channels : List ChannelRow) {j : ℕ} (k : ℕ) (d : FieldRow) → k < length channels → (below : j < length channels)
    → get_or (map field_of channels) k d ≡ field_row (get_or (map numbers_of channels) k (numbers_of (some_channel channels below)))
field_at channels k d within below =
    got_mapped field_of channels k (some_channel channels below) d within
    ∙ ap field_row (sym (got_mapped numbers_of channels k (some_channel channels below) (numbers_of (some_channel channels below)) within))

rows_apart : (data_bytes inval_bytes : ℕ) (channels : List ChannelRow) → ArePlaced data_bytes inval_bytes (map numbers_of channels) → AreApart (map field_of channels)
rows_apart data_bytes inval_bytes channels placed i j d before within =
    let last : j < length channels = omega (arith, within, long_mapped field_of channels) in
    let numbers : j < length (map numbers_of channels) = omega (arith, last, long_mapped numbers_of channels) in
    let pair = fields_apart data_bytes inval_bytes (map numbers_of channels) placed i j (numbers_of (some_channel channels last)) before numbers in
    subst (λ r. IsApart r (get_or (map field_of channels) j d)) (sym (field_at channels i d (omega (arith, before, last)) last))
    (subst (IsApart (field_row (get_or (map numbers_of channels) i (numbers_of (some_channel channels last))))) (sym (field_at channels j d last last)) pair)

mapped_twice : (channels : List ChannelRow) → map field_of channels ≡ map field_row (map numbers_of channels)
mapped_twice [] = refl
mapped_twice (channel ∷ channels) = ap (λ rows. field_of channel ∷ rows) (mapped_twice channels)

-- channels that keep the rules are never a bad layout
pub never_bad : (data_bytes inval_bytes : ℕ) (channels : List ChannelRow) (channel : ℕ) → ArePlaced data_bytes inval_bytes (map numbers_of channels)
    → ((rows : List RowNumbers) (k : ℕ) (row : RowNumbers) → breaks_row_rule data_bytes inval_bytes (map field_row rows) k (field_row row) ≡ true → BreaksRowRule data_bytes inval_bytes rows k row)
    → IsFirstBad data_bytes inval_bytes (map field_of channels) channel → ⊥
never_bad data_bytes inval_bytes channels channel placed law first =
    let below : channel < length channels = omega (arith, first.there, long_mapped field_of channels) in
    let numbers = map numbers_of channels in
    let row = get_or numbers channel (numbers_of (some_channel channels below)) in
    let d = field_row row in
    let breaks = subst (λ rows. breaks_row_rule data_bytes inval_bytes rows channel (get_or (map field_of channels) channel d) ≡ true) (mapped_twice channels) (first.breaks d) in
    let here = subst (λ r. breaks_row_rule data_bytes inval_bytes (map field_row numbers) channel r ≡ true) (field_at channels channel d below below) breaks in
    placed.rules channel row (slice_get-get_or numbers channel (numbers_of (some_channel channels below)) (omega (arith, below, long_mapped numbers_of channels))) (law numbers channel row here)

-- the kind of a field that is stored, by the tests on its row
real_by : (a b c : Bool) → kind_in (form_by a b c) ≢ kinds.Virtual
real_by true b c wrong = let w : kinds.Variable ≡ kinds.Virtual = wrong in cc
real_by false true c wrong = let w : kinds.Signed ≡ kinds.Virtual = wrong in cc
real_by false false true wrong = let w : kinds.Unsigned ≡ kinds.Virtual = wrong in cc
real_by false false false wrong = let w : kinds.Fixed ≡ kinds.Virtual = wrong in cc

wide_by : (a b c : Bool) → kind_in (form_by a b c) ≡ kinds.Variable → a ≡ true
wide_by true b c is = refl
wide_by false true c wrong = let w : kinds.Signed ≡ kinds.Variable = wrong in absurd (cc)
wide_by false false true wrong = let w : kinds.Unsigned ≡ kinds.Variable = wrong in absurd (cc)
wide_by false false false wrong = let w : kinds.Fixed ≡ kinds.Variable = wrong in absurd (cc)

varies_by : (a b c : Bool) → is_variable_kind (kind_in (form_by a b c)) ≡ a
varies_by true b c = refl
varies_by false true c = refl
varies_by false false true = refl
varies_by false false false = refl

some_valid : (flags : ℕ) → (flags ≡ 0) ⊎ (flags ≡ 2) → nat_eq (flags % 2) 1 ≡ false
some_valid flags (inl none) = ap (λ n. nat_eq (n % 2) 1) none
some_valid flags (inr two) = ap (λ n. nat_eq (n % 2) 1) two

stored : (channel : ChannelRow) → IsRecordableChannel channel → IsStored (field_of channel)
stored channel is =
    let row = numbers_of channel in
    let form = form_is row is.kind in
    record {
      real = λ wrong. real_by (test_values row) (test_signed row) (test_number row) (ap kind_in (sym form) ∙ wrong);
      valid = some_valid channel.flags is.flags;
      wide = λ varies. is.long (eqb-true _ _ (wide_by (test_values row) (test_signed row) (test_number row) (ap kind_in (sym form) ∙ varies)));
    }

all_stored : (channels : List ChannelRow) → AllByRecursion IsRecordableChannel channels → All IsStored (map field_of channels)
all_stored [] each = All-nil IsStored
all_stored (channel ∷ channels) each = All-cons IsStored (field_of channel) (map field_of channels) (stored channel each.0) (all_stored channels each.1)

groups_are : (rows : List GroupRow) → AllByRecursion IsRecordableGroup rows → All IsGroup (map layout_of rows)
groups_are [] each = All-nil IsGroup
groups_are (row ∷ rows) each = All-cons IsGroup (layout_of row) (map layout_of rows)
    (record { apart = rows_apart row.data_bytes row.inval_bytes row.channels each.0.placed; stored = all_stored row.channels each.0.each })
    (groups_are rows each.1)

-- as many fields as channels, and as many of variable length
fields_of : (rows : List GroupRow) → sum_by (λ (layout : Layout). length layout.rows) (map layout_of rows) ≡ sum_by (λ (row : GroupRow). length row.channels) rows
fields_of [] = refl
fields_of (row ∷ rows) = omega (
  arith,
  fields_of rows,
  sum_by-cons (λ (layout : Layout). length layout.rows) (layout_of row) (map layout_of rows),
  sum_by-cons (λ (row : GroupRow). length row.channels) row rows,
  long_mapped field_of row.channels,
)

count_both : {A B : Type 0} (a b : Bool) (x : A) (y : B) (xs : List A) (ys : List B) → a ≡ b → length xs ≡ length ys → length (cond a (x ∷ xs) xs) ≡ length (cond b (y ∷ ys) ys)
count_both true true x y xs ys same long = ap suc long
count_both true false x y xs ys same long = absurd (false≢true (sym same))
count_both false true x y xs ys same long = absurd (false≢true same)
count_both false false x y xs ys same long = long

variables_same : (channels : List ChannelRow) → AllByRecursion IsRecordableChannel channels → length (variables (map field_of channels)) ≡ length (filter is_of_values channels)
variables_same [] each = refl
variables_same (channel ∷ channels) each =
    let row = numbers_of channel in
    count_both (is_variable (field_of channel)) (is_of_values channel) (field_of channel) channel (variables (map field_of channels)) (filter is_of_values channels)
    (ap (λ f. is_variable_kind (kind_in f)) (form_is row each.0.kind) ∙ varies_by (test_values row) (test_signed row) (test_number row))
    (variables_same channels each.1)

variable_of : (rows : List GroupRow) → AllByRecursion IsRecordableGroup rows → sum_by (λ (layout : Layout). length (variables layout.rows)) (map layout_of rows) ≡ sum_by (λ (row : GroupRow). length (filter is_of_values row.channels)) rows
variable_of [] each = refl
variable_of (row ∷ rows) each = omega (
  arith,
  variable_of rows each.1,
  sum_by-cons (λ (layout : Layout). length (variables layout.rows)) (layout_of row) (map layout_of rows),
  sum_by-cons (λ (row : GroupRow). length (filter is_of_values row.channels)) row rows,
  variables_same row.channels each.0.each,
)

-- each group has its place
pub have_place : (rows : List GroupRow) → AllByRecursion IsRecordableGroup rows → All HasPlace rows
have_place [] each = All-nil HasPlace
have_place (row ∷ rows) each = All-cons HasPlace row rows each.0.placed (have_place rows each.1)

-- the rows of a plan that has ended
pub rows_are : (sketch : Sketch) → IsSketch sketch → 1 ≤ length sketch.draft.channels → AllByRecursion IsRecordableGroup (all_rows sketch)
rows_are sketch is some = each_more IsRecordableGroup sketch.rows (group_row sketch.draft) is.each (group_is sketch.draft is.draft some)

pub plan_is : (sketch : Sketch) → IsSketch sketch → 1 ≤ length sketch.draft.channels → IsPlan (plan_with sketch)
plan_is sketch is some =
    let row : GroupRow = group_row sketch.draft in
    let each = rows_are sketch is some in
    let long = length-append sketch.rows (row ∷ []) in
    let sums = sum_by-append (λ (r : GroupRow). length r.channels) sketch.rows (row ∷ []) in
    let values = sum_by-append (λ (r : GroupRow). length (filter is_of_values r.channels)) sketch.rows (row ∷ []) in
    record {
      planned = record {
        some = omega (arith, long);
        few = omega (arith, long, is.few);
        channels = omega (arith, sums, is.channels_are, is.channels);
        variable = omega (arith, values, is.variable_are, is.variable);
        each = each;
      };
      shapes = refl;
      groups = groups_are (all_rows sketch) each;
      few_groups = omega (arith, long_mapped layout_of (all_rows sketch), long, is.few);
      fields = omega (arith, fields_of (all_rows sketch), sums, is.channels_are, is.channels);
      variable = omega (arith, variable_of (all_rows sketch) each, values, is.variable_are, is.variable);
      owners = omega (arith, is.owners, long);
      owned = is.owned;
      some_sources = is.sources.0;
      few_sources = is.sources.1;
      limits = is.limits;
    }

pub begun_is : (sketch : Sketch) (script : Script) → IsSketch sketch → begun sketch ≡ Some script → IsScript script
begun_is sketch script is e =
    let both : (nat_lt 0 (length sketch.draft.channels) ≡ true) × (Some (script_with sketch) ≡ Some script) = kept (nat_lt 0 (length sketch.draft.channels)) (Some (script_with sketch)) script e in
    let same : script_with sketch ≡ script = cc in
    let some : 0 < length sketch.draft.channels = ltb-true _ _ both.0 in
    subst IsScript same (record {
      plan = plan_is sketch is (omega (arith, some));
      lists = length-replicate sketch.counts.sources [];
      fit = λ s d within. All-replicate (All (TaskFits (plan_with sketch))) sketch.counts.sources [] (All-nil (TaskFits (plan_with sketch))) s d within;
      own = λ s d within. All-replicate (All (IsTaskOf (plan_with sketch) s)) sketch.counts.sources [] (All-nil (IsTaskOf (plan_with sketch) s)) s d within;
    })
