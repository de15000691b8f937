-- What holds of the group whose channels are being named.
use Rattle.std.proofs.Common.{◌≡◌, ◌≢◌, sym, ap, subst, ℕ, suc, ◌+◌, ◌<◌, ◌≤◌, ◌⊎◌, inl, inr, Bool, true, false, cond, Some, None, List, [], ◌∷◌, ◌++◌, length, map, refl, arith, length-append}
use Rattle.std.specs.Prelude.{nat_lt, nat_le, ◌&&◌, filter}
use Rattle.std.specs.List.{AllByRecursion, list_all}
use Rattle.std.specs.Char.{is_ascii_graphic}
use Rattle.std.proofs.lemmas.Bool.{leb-true, ltb-true, and_parts, false≢true}
use Rattle.std.proofs.lemmas.List.{map-append}
use Rattle.std.proofs.lemmas.List.Elements.{All-nil}
use Rattle.mdf_group.specs.Recordable.{numbers_of, is_of_values, IsShortText, IsRecordableChannel, IsRecordableGroup}
use Rattle.mdf_group.specs.declared.row.ChannelRow.{ChannelRow}
use Rattle.script_line.specs.Text.{is_name}
use Rattle.script_line.specs.Line.{IsForm}
use Rattle.acq_script.specs.Draft.{start_of, free_behind, channel_row, new_draft, drawn, measured, set_unit, unit_draft, with_unit, group_row}
use Rattle.acq_script.specs.Plan.{AreLaid}
use Rattle.acq_script.specs.Sketch.{IsDraft}
use Rattle.script_line.specs.declared.line.ChannelForm.{ChannelForm}
use Rattle.acq_script.specs.declared.draft.Draft.{Draft}
use Rattle.acq_script.proofs.Layings.{kind_low, kind_of_values, grows, laid_more, laid_placed}

-- each item of a list and of one item more
pub each_more : {A : Type 0} (P : A → Type 0) (xs : List A) (x : A) → AllByRecursion P xs → P x → AllByRecursion P (xs ++ x ∷ [])
each_more P [] x each here = (here, tt)
each_more P (y ∷ xs) x each here = (each.0, each_more P xs x each.1 here)

not_zero : (b : ℕ) → is_ascii_graphic b ≡ true → b ≢ 0
not_zero b e is = false≢true (subst (λ c. is_ascii_graphic c ≡ true) is e)

none_zero : (word : List ℕ) → list_all is_ascii_graphic word ≡ true → AllByRecursion (λ byte. byte ≢ 0) word
none_zero [] e = tt
none_zero (b ∷ word) e = let both = and_parts (is_ascii_graphic b) (list_all is_ascii_graphic word) e in (not_zero b both.0, none_zero word both.1)

-- a name is a short text
pub name_short : (word : List ℕ) → is_name word ≡ true → IsShortText word
name_short word e =
    let outer = and_parts (nat_lt 0 (length word) && nat_le (length word) 64) (list_all is_ascii_graphic word) e in
    let inner = and_parts (nat_lt 0 (length word)) (nat_le (length word) 64) outer.0 in
    record { some = omega (arith, ltb-true _ _ inner.0); few = leb-true _ _ inner.1; whole = none_zero word outer.1 }

abbrev flags_by : Bool → ℕ
flags_by b = cond b 2 0

flags_are : (b : Bool) → (flags_by b ≡ 0) ⊎ (flags_by b ≡ 2)
flags_are true = inr refl
flags_are false = inl refl

-- a channel of a form can be recorded
recordable : (name : List ℕ) (form : ChannelForm) (start position : ℕ) → is_name name ≡ true → IsForm form → IsRecordableChannel (channel_row name form start position)
recordable name form start position ok is = record {
  kind = kind_low form;
  data_type = is.kind.data_type;
  flags = flags_are form.inval;
  long = λ of_values. (is.kind.long (kind_of_values form of_values)).0;
  name = name_short name ok;
  unit = tt;
  source = refl;
  conv = refl;
  comment = refl;
  values = refl;
  extra = refl;
}

pub new_is : (name : List ℕ) → is_name name ≡ true → IsDraft (new_draft name)
new_is name ok = record {
  name = name_short name ok;
  few = omega arith;
  each = tt;
  laid = record { each = All-nil _; apart = λ i j d before within. absurd (omega (arith, within)) };
  free = omega arith;
  positions = omega arith;
}

positions_more : (b : Bool) (n m k : ℕ) → n ≤ m → k ≡ m + 1 → cond b (n + 1) n ≤ k
positions_more true n m k few is = omega (arith, few, is)
positions_more false n m k few is = omega (arith, few, is)

-- one channel more
pub drawn_is : (draft : Draft) (name : List ℕ) (form : ChannelForm) → IsDraft draft → is_name name ≡ true → IsForm form → length draft.channels < 256 → IsDraft (drawn draft name form)
drawn_is draft name form is ok said room =
    let row : ChannelRow = channel_row name form (start_of form.kind draft.free) draft.positions in
    let long : length (draft.channels ++ row ∷ []) ≡ length draft.channels + 1 = length-append draft.channels (row ∷ []) in
    record {
      name = is.name;
      few = omega (arith, long, room);
      each = each_more IsRecordableChannel draft.channels row is.each (recordable name form (start_of form.kind draft.free) draft.positions ok said);
      laid = subst (AreLaid (free_behind form.kind draft.free) (cond form.inval (draft.positions + 1) draft.positions)) (sym (map-append numbers_of draft.channels (row ∷ [])))
          (laid_more form draft.free draft.positions (map numbers_of draft.channels) said.kind is.laid);
      free = omega (arith, long, is.free, grows form.kind draft.free said.kind);
      positions = positions_more form.inval draft.positions (length draft.channels) (length (draft.channels ++ row ∷ [])) is.positions long;
    }

-- a unit changes nothing else
measured_recordable : (unit : List ℕ) (row : ChannelRow) → is_name unit ≡ true → IsRecordableChannel row → IsRecordableChannel (measured unit row)
measured_recordable unit row ok is = record {
  kind = is.kind;
  data_type = is.data_type;
  flags = is.flags;
  long = is.long;
  name = is.name;
  unit = name_short unit ok;
  source = is.source;
  conv = is.conv;
  comment = is.comment;
  values = is.values;
  extra = is.extra;
}

unit_each : (unit : List ℕ) (rows : List ChannelRow) → is_name unit ≡ true → AllByRecursion IsRecordableChannel rows → AllByRecursion IsRecordableChannel (set_unit unit rows)
unit_each unit [] ok each = tt
unit_each unit (row ∷ []) ok each = (measured_recordable unit row ok each.0, tt)
unit_each unit (row ∷ next ∷ rows) ok each = (each.0, unit_each unit (next ∷ rows) ok each.1)

pub unit_last : (unit : List ℕ) (front : List ChannelRow) (row : ChannelRow) → set_unit unit (front ++ row ∷ []) ≡ front ++ measured unit row ∷ []
unit_last unit [] row = refl
unit_last unit (first ∷ []) row = refl
unit_last unit (first ∷ next ∷ front) row = ap (λ rows. first ∷ rows) (unit_last unit (next ∷ front) row)

unit_numbers : (unit : List ℕ) (rows : List ChannelRow) → map numbers_of (set_unit unit rows) ≡ map numbers_of rows
unit_numbers unit [] = refl
unit_numbers unit (row ∷ []) = refl
unit_numbers unit (row ∷ next ∷ rows) = ap (λ ns. numbers_of row ∷ ns) (unit_numbers unit (next ∷ rows))

pub unit_long : (unit : List ℕ) (rows : List ChannelRow) → length (set_unit unit rows) ≡ length rows
unit_long unit [] = refl
unit_long unit (row ∷ []) = refl
unit_long unit (row ∷ next ∷ rows) = ap suc (unit_long unit (next ∷ rows))

values_by : (b : Bool) (row other : ChannelRow) (rows others : List ChannelRow) → length rows ≡ length others → length (cond b (row ∷ rows) rows) ≡ length (cond b (other ∷ others) others)
values_by true row other rows others same = ap suc same
values_by false row other rows others same = same

pub unit_values : (unit : List ℕ) (rows : List ChannelRow) → length (filter is_of_values (set_unit unit rows)) ≡ length (filter is_of_values rows)
unit_values unit [] = refl
unit_values unit (row ∷ []) = values_by (is_of_values row) (measured unit row) row [] [] refl
unit_values unit (row ∷ next ∷ rows) = values_by (is_of_values row) row row (filter is_of_values (set_unit unit (next ∷ rows))) (filter is_of_values (next ∷ rows)) (unit_values unit (next ∷ rows))

pub unit_is : (draft changed : Draft) (unit : List ℕ) → IsDraft draft → is_name unit ≡ true → with_unit draft unit ≡ Some changed
    → IsDraft changed × (length changed.channels ≡ length draft.channels) × (length (filter is_of_values changed.channels) ≡ length (filter is_of_values draft.channels))
unit_is draft changed unit is ok e = by draft.unit e where
  here : IsDraft (unit_draft draft unit)
  here =
      let long = unit_long unit draft.channels in
      record {
        name = is.name;
        few = omega (arith, long, is.few);
        each = unit_each unit draft.channels ok is.each;
        laid = subst (AreLaid draft.free draft.positions) (sym (unit_numbers unit draft.channels)) is.laid;
        free = omega (arith, long, is.free);
        positions = omega (arith, long, is.positions);
      }

  by : (b : Bool) → cond b (Some (unit_draft draft unit)) None ≡ Some changed
      → IsDraft changed × (length changed.channels ≡ length draft.channels) × (length (filter is_of_values changed.channels) ≡ length (filter is_of_values draft.channels))
  by true is_some =
      let same : unit_draft draft unit ≡ changed = cc in
      subst (λ d. IsDraft d × (length d.channels ≡ length draft.channels) × (length (filter is_of_values d.channels) ≡ length (filter is_of_values draft.channels))) same
      (here, unit_long unit draft.channels, unit_values unit draft.channels)
  by false none = absurd (cc)

-- the group can be recorded once it has a channel
pub group_is : (draft : Draft) → IsDraft draft → 1 ≤ length draft.channels → IsRecordableGroup (group_row draft)
group_is draft is some = record {
  flags = refl;
  name = is.name;
  source = refl;
  comment = refl;
  some = some;
  few = is.few;
  each = is.each;
  placed = laid_placed draft.free draft.positions (map numbers_of draft.channels) is.laid;
}
