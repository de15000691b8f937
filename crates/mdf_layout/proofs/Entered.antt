-- The entries of the first channels, and one more.
use Rattle.std.proofs.Common.{◌≡◌, ◌<◌, ◌≤◌, ◌+◌, ℕ, suc, Bool, true, false, List, [], ◌∷◌, ◌++◌, length, get_or, take, map, refl, sym, ◌∙◌, ap, arith, Option, Some, None}
use Rattle.std.specs.Prelude.{filter, slice_get, if◌then◌else◌}
use Rattle.std.specs.Option.{option_map, option_and_then}
use Rattle.std.proofs.lemmas.List.{take_more, drop-drop, drop-map, drop_more}
use Rattle.std.proofs.lemmas.Option.{slice_get_within, get_or_from_slice_get}
use Rattle.std.proofs.lemmas.List.Filters.{length-filter_more}
use Rattle.mdf_vlsd.specs.Value.{value_at}
use Rattle.mdf_layout.specs.Rule.{is_variable}
use Rattle.mdf_layout.specs.Fault.{LackCause, MissingCause, missing_at}
use Rattle.mdf_num.specs.Halt.{HaltReason}
use Rattle.mdf_num.specs.declared.halt.Halt.{Halt}
use Rattle.mdf_num.specs.declared.halt.Halt.TheVariants.{Fault, Failed, Memory}
use Rattle.mdf_layout.specs.Values.{Finder, entry_of, first_finder, finders_behind, finder_at, sample_by, streams_before}
use Rattle.mdf_layout.specs.declared.field.FieldRow.{FieldRow}
use Rattle.mdf_layout.specs.declared.sample.Entry.{Entry}

-- the parts of a list of entries that is defined
pub parts_of_entries : (one : Option Entry) (rest : Option (List Entry)) (entries : List Entry)
    → option_and_then (λ entry. option_map (λ entries. entry ∷ entries) rest) one ≡ Some entries
    → (entry : Entry) × (behind : List Entry) × (one ≡ Some entry) × (rest ≡ Some behind) × (entry ∷ behind ≡ entries)
parts_of_entries None rest entries is = let wrong : ◌≡◌ {A = Option (List Entry)} None (Some entries) = is in cc
parts_of_entries (Some entry) None entries is = let wrong : ◌≡◌ {A = Option (List Entry)} None (Some entries) = is in cc
parts_of_entries (Some entry) (Some behind) entries is = let same : Some (entry ∷ behind) ≡ Some entries = is in (entry, behind, refl, refl, cc)

-- the finder of a channel behind this one
pub finder_behind : (b : Bool) (row : FieldRow) (rows : List FieldRow) (finders : List Finder) → is_variable row ≡ b
    → finder_at (finders_behind row finders) (length (filter is_variable rows)) ≡ finder_at finders (length (filter is_variable (row ∷ rows)))
finder_behind true row rows finders is =
    let n = length (filter is_variable rows) in
    let count : 1 + n ≡ suc n = omega arith in
    rw is (ap first_finder (drop-drop n 1 finders) ∙ ap (finder_at finders) count)
finder_behind false row rows finders is = rw is refl

-- a channel more at the end
pub sample_push : (rows : List FieldRow) (row : FieldRow) (bytes inval : List ℕ) (finders : List Finder) (index : ℕ) (entries : List Entry) (entry : Entry)
    → sample_by rows bytes inval finders index ≡ Some entries
    → entry_of row bytes inval (finder_at finders (length (filter is_variable rows))) index ≡ Some entry
    → sample_by (rows ++ row ∷ []) bytes inval finders index ≡ Some (entries ++ entry ∷ [])
unfolding sample_by
sample_push [] row bytes inval finders index entries entry before here =
    let none : Some [] ≡ Some entries = before in
    let same : [] ≡ entries = cc in
    ap (option_and_then (λ (entry : Entry). Some (entry ∷ []))) here ∙ ap (λ (xs : List Entry). Some (xs ++ entry ∷ [])) same
sample_push (first ∷ rows) row bytes inval finders index entries entry before here =
    let found = parts_of_entries (entry_of first bytes inval (first_finder finders) index) (sample_by rows bytes inval (finders_behind first finders) index) entries before in
    let finder = finder_behind (is_variable first) first rows finders refl in
    let more = sample_push rows row bytes inval (finders_behind first finders) index found.1 entry found.3
    (ap (λ (find : Finder). entry_of row bytes inval find index) finder ∙ here) in
    ap (option_and_then (λ (entry : Entry). option_map (λ entries. entry ∷ entries) (sample_by (rows ++ row ∷ []) bytes inval (finders_behind first finders) index))) found.2
    ∙ ap (option_map (λ (entries : List Entry). found.0 ∷ entries)) more
    ∙ ap (λ (xs : List Entry). Some (xs ++ entry ∷ [])) found.4

-- the entry of channel k behind those of the channels before it
pub sample_more : (rows : List FieldRow) (k : ℕ) (row : FieldRow) (bytes inval : List ℕ) (finders : List Finder) (index : ℕ) (entries : List Entry) (entry : Entry)
    → slice_get rows k ≡ Some row → sample_by (take k rows) bytes inval finders index ≡ Some entries
    → entry_of row bytes inval (finder_at finders (streams_before rows k)) index ≡ Some entry
    → sample_by (take (k + 1) rows) bytes inval finders index ≡ Some (entries ++ entry ∷ [])
sample_more rows k row bytes inval finders index entries entry there before here =
    let within = slice_get_within rows k row there in
    let is = get_or_from_slice_get rows k row row there in
    ap (λ (front : List FieldRow). sample_by front bytes inval finders index) (take_more rows k row within ∙ ap (λ (r : FieldRow). take k rows ++ r ∷ []) is)
    ∙ sample_push (take k rows) row bytes inval finders index entries entry before here

-- how many streams belong to the channels before the next one
pub streams_more : (rows : List FieldRow) (k : ℕ) (row : FieldRow) → slice_get rows k ≡ Some row
    → streams_before rows (k + 1) ≡ streams_before rows k + (if is_variable row then 1 else 0)
streams_more rows k row there =
    length-filter_more is_variable rows k row (slice_get_within rows k row there)
    ∙ ap (λ (r : FieldRow). streams_before rows k + (if is_variable r then 1 else 0)) (get_or_from_slice_get rows k row row there)

pub few_more : (b : Bool) (n k : ℕ) → n ≤ k → n + (if b then 1 else 0) ≤ k + 1
few_more true n k few = omega arith
few_more false n k few = omega arith

-- a channel whose offset meets no value, behind channels with entries
pub missing_behind : (rows : List FieldRow) (k : ℕ) (row : FieldRow) (bytes inval : List ℕ) (finders : List Finder) (index : ℕ) (entries : List Entry) (lack : Halt ℕ)
    → slice_get rows k ≡ Some row → sample_by (take k rows) bytes inval finders index ≡ Some entries
    → LackCause row bytes (finder_at finders (streams_before rows k)) lack → MissingCause rows bytes inval finders index (missing_at k lack)
missing_behind rows k row bytes inval finders index entries (Fault offset) there before lacks = record {
  row = row;
  there = there;
  kind = lacks.kind;
  offset_is = lacks.offset_is;
  missing = lacks.missing;
  entries = entries;
  earlier = before;
}
missing_behind rows k row bytes inval finders index entries Failed there before lacks = tt
missing_behind rows k row bytes inval finders index entries Memory there before lacks = tt

pub reason_at : (before now channel : ℕ) (lack : Halt ℕ) → HaltReason true before now lack → HaltReason true before now (missing_at channel lack)
reason_at before now channel (Fault offset) reason = tt
reason_at before now channel Failed reason = reason
reason_at before now channel Memory reason = tt

-- the finder of a stream
pub finder_found : (streams : List (List ℕ)) (n : ℕ) (stream : List ℕ) → n < length streams → stream ≡ get_or streams n stream
    → finder_at (map value_at streams) n ≡ value_at stream
finder_found streams n stream within is =
    ap first_finder (drop-map value_at n streams ∙ ap (map value_at) (drop_more streams n stream within)) ∙ ap value_at (sym is)
