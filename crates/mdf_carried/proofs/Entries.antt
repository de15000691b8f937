-- Where the records of groups are read as samples, each record of a group has its entries, counted by the samples of the group
-- before it; and each offset meets a value.
use Rattle.std.proofs.Common.{◌≡◌, ◌≢◌, ◌+◌, ◌-◌, ◌<◌, ℕ, zero, suc, true, false, List, [], ◌∷◌, ◌++◌, length, get_or, take, drop, map, refl, sym, ◌∙◌, ap, subst, inl, inr, arith, length-append}
use Rattle.std.proofs.lemmas.Bool.{cases_eq, eq-eqb, ne_eqb, leb-false, cond-true, cond-false}
use Rattle.std.proofs.lemmas.List.Elements.{filter-append}
use Rattle.std.proofs.lemmas.Option.{slice_get_within, same_Some}
use Rattle.std.specs.Prelude.{Bool, ◌==◌, nat_eq, nat_le, filter, slice_get, Option, Some, None, if◌then◌else◌}
use Rattle.std.specs.List.{AllByRecursion, AllZip}
use Rattle.std.specs.Option.{option_map, option_and_then}
use Rattle.mdf_format.specs.Field.{field_number}
use Rattle.mdf_format.specs.Value.{IsValueAt}
use Rattle.mdf_vlsd.specs.Value.{value_at}
use Rattle.mdf_layout.specs.History.{group_samples}
use Rattle.mdf_layout.specs.Layout.{Layout}
use Rattle.mdf_layout.specs.Rule.{spot_in, is_variable, is_variable_kind}
use Rattle.mdf_layout.specs.Values.{Finder, value_in, entry_of, is_valid, finders_behind, first_finder, sample_by, sample_of}
use Rattle.mdf_layout.specs.Behind.{variables, first_id}
use Rattle.mdf_layout.specs.Read.{Piece, IsPiece, streams_from, values_of, samples_from}
use Rattle.mdf_layout.specs.declared.field.FieldKind.{FieldKind}
use Rattle.mdf_layout.specs.declared.field.FieldKind.TheVariants.{Unsigned, Signed, Fixed, Variable, Virtual}
use Rattle.mdf_layout.specs.declared.field.FieldRow.{FieldRow}
use Rattle.mdf_layout.specs.declared.sample.Value.{Value}
use Rattle.mdf_layout.specs.declared.sample.Value.TheVariants as values
use Rattle.mdf_layout.specs.declared.sample.Entry.{Entry}
use Rattle.mdf_layout.specs.declared.sample.Sample.{Sample}
use Rattle.mdf_layout.proofs.Entered.{parts_of_entries}
use Rattle.mdf_content.proofs.Samples.{value_stands}
use Rattle.mdf_block.proofs.Cases.{two_ways}
use Rattle.mdf_carried.proofs.Records.{own, is_own}
use Rattle.mdf_carried.proofs.Lists.{zip_both}

-- the entries of a record
abbrev pub entries_in : Layout → List (List ℕ) → ℕ → List ℕ → Option (List Entry)
entries_in layout streams index content =
    sample_of layout.rows (take layout.data_bytes content) (drop layout.data_bytes content) streams index

-- records of a group have entries, counted from a number on
abbrev pub HaveEntries : Layout → List (List ℕ) → ℕ → List (List ℕ) → Type 0
HaveEntries layout streams index [] = Unit {0}
HaveEntries layout streams index (content ∷ contents) =
    ((entries : List Entry) × (entries_in layout streams index content ≡ Some entries)) × HaveEntries layout streams (index + 1) contents

from_here : (n : ℕ) → n ≡ n + 0
from_here n = omega arith

one_on : (n k : ℕ) → n + 1 + k ≡ n + suc k
one_on n k = omega arith

pub entries_at : (layout : Layout) (streams : List (List ℕ)) (index i : ℕ) (contents : List (List ℕ)) → HaveEntries layout streams index contents
    → i < length contents → (entries : List Entry) × (entries_in layout streams (index + i) (get_or contents i []) ≡ Some entries)
entries_at layout streams index i [] have below = absurd (omega (arith, below))
entries_at layout streams index zero (content ∷ contents) have below =
    (have.0.0, ap (λ (n : ℕ). entries_in layout streams n content) (sym (from_here index)) ∙ have.0.1)
entries_at layout streams index (suc i) (content ∷ contents) have below =
    let rest = entries_at layout streams (index + 1) i contents have.1 (omega (arith, below)) in
    (rest.0, ap (λ (n : ℕ). entries_in layout streams n (get_or contents i [])) (sym (one_on index i)) ∙ rest.1)

-- the parts of a sample that is read, and of what follows it
pub record IsNext (layouts : List Layout) (all : List Piece) (before : List Sample) (piece : Piece) (pieces : List Piece) (samples : List Sample) : Type 0 where
  pub layout : Layout
  pub laid : slice_get layouts (piece.id - 1) ≡ Some layout
  pub entries : List Entry
  pub values : values_of layouts all before (piece.id - 1) layout piece.content ≡ Some entries
  pub rest : List Sample
  pub behind : samples_from layouts all (before ++ record { group = piece.id - 1; values = entries } ∷ []) pieces ≡ Some rest
  pub are : record { group = piece.id - 1; values = entries } ∷ rest ≡ samples

module _ (layouts : List Layout) (all : List Piece) where
  abbrev Sampled : ℕ → List Entry → Sample
  Sampled group entries = record { group = group; values = entries }

  rest_parts : (one : Sample) (rest : Option (List Sample)) (samples : List Sample) → option_map (λ (more : List Sample). one ∷ more) rest ≡ Some samples
      → (more : List Sample) × (rest ≡ Some more) × (one ∷ more ≡ samples)
  rest_parts one None samples same = let wrong : ◌≡◌ {A = Option (List Sample)} None (Some samples) = same in cc
  rest_parts one (Some more) samples same = (more, refl, same_Some (one ∷ more) samples same)

  abbrev with_rest : List Sample → List Piece → Sample → Option (List Sample)
  with_rest before pieces sample = option_map (λ (samples : List Sample). sample ∷ samples) (samples_from layouts all (before ++ sample ∷ []) pieces)

  values_parts : (before : List Sample) (piece : Piece) (pieces : List Piece) (samples : List Sample) (layout : Layout) (laid : slice_get layouts (piece.id - 1) ≡ Some layout)
      (found : Option (List Entry)) → values_of layouts all before (piece.id - 1) layout piece.content ≡ found
      → option_and_then (with_rest before pieces) (option_map (Sampled (piece.id - 1)) found) ≡ Some samples → IsNext layouts all before piece pieces samples
  values_parts before piece pieces samples layout laid None is same = let wrong : ◌≡◌ {A = Option (List Sample)} None (Some samples) = same in cc
  values_parts before piece pieces samples layout laid (Some entries) is same =
      let rest = rest_parts (Sampled (piece.id - 1) entries) (samples_from layouts all (before ++ Sampled (piece.id - 1) entries ∷ []) pieces) samples same in
      record {
        layout = layout;
        laid = laid;
        entries = entries;
        values = is;
        rest = rest.0;
        behind = rest.1;
        are = rest.2;
      }

  layout_parts : (before : List Sample) (piece : Piece) (pieces : List Piece) (samples : List Sample) (found : Option Layout) → slice_get layouts (piece.id - 1) ≡ found
      → option_and_then (with_rest before pieces)
      (option_and_then (λ (layout : Layout). option_map (Sampled (piece.id - 1)) (values_of layouts all before (piece.id - 1) layout piece.content)) found) ≡ Some samples
      → IsNext layouts all before piece pieces samples
  layout_parts before piece pieces samples None is same = let wrong : ◌≡◌ {A = Option (List Sample)} None (Some samples) = same in cc
  layout_parts before piece pieces samples (Some layout) is same =
      values_parts before piece pieces samples layout is (values_of layouts all before (piece.id - 1) layout piece.content) refl same

  -- the next piece is a record of a group, or one of a value
  pub next_is : (before : List Sample) (piece : Piece) (pieces : List Piece) (samples : List Sample) → nat_le piece.id (length layouts) ≡ true
      → samples_from layouts all before (piece ∷ pieces) ≡ Some samples → IsNext layouts all before piece pieces samples
  unfolding samples_from
  next_is before piece pieces samples first same =
      layout_parts before piece pieces samples (slice_get layouts (piece.id - 1)) refl
      (sym (cond-true (nat_le piece.id (length layouts)) _ _ first) ∙ same)

  pub next_passes : (before : List Sample) (piece : Piece) (pieces : List Piece) (samples : List Sample) → nat_le piece.id (length layouts) ≡ false
      → samples_from layouts all before (piece ∷ pieces) ≡ Some samples → samples_from layouts all before pieces ≡ Some samples
  unfolding samples_from
  next_passes before piece pieces samples later same = sym (cond-false (nat_le piece.id (length layouts)) _ _ later) ∙ same

-- a sample counts for its own group alone
pub one_more : (before : List Sample) (sample : Sample) (g : ℕ) → sample.group ≡ g
    → length (group_samples (before ++ sample ∷ []) g) ≡ length (group_samples before g) + 1
one_more before sample g same =
    let one : group_samples (sample ∷ []) g ≡ sample ∷ [] = cond-true (sample.group == g) (sample ∷ []) [] (eq-eqb sample.group g same) in
    ap length (filter-append (λ (s : Sample). s.group == g) before (sample ∷ []) ∙ ap (λ (ss : List Sample). group_samples before g ++ ss) one)
    ∙ length-append (group_samples before g) (sample ∷ [])

pub no_more : (before : List Sample) (sample : Sample) (g : ℕ) → sample.group ≢ g
    → length (group_samples (before ++ sample ∷ []) g) ≡ length (group_samples before g)
no_more before sample g other =
    let none : group_samples (sample ∷ []) g ≡ [] = cond-false (sample.group == g) (sample ∷ []) [] (ne_eqb sample.group g other) in
    ap length (filter-append (λ (s : Sample). s.group == g) before (sample ∷ []) ∙ ap (λ (ss : List Sample). group_samples before g ++ ss) none)
    ∙ length-append (group_samples before g) [] ∙ sym (from_here (length (group_samples before g)))

module _ (layouts : List Layout) (all : List Piece) (g : ℕ) (layout : Layout) (laid : slice_get layouts g ≡ Some layout) where
  abbrev own_streams : List (List ℕ)
  own_streams = streams_from all (first_id layouts g) (variables layout.rows)

  -- those of group g
  pub entries_have : (before samples : List Sample) (pieces : List Piece) → samples_from layouts all before pieces ≡ Some samples
      → AllByRecursion (IsPiece layouts) pieces → HaveEntries layout own_streams (length (group_samples before g)) (own g pieces)
  entries_have before samples [] is each = tt
  entries_have before samples (piece ∷ pieces) is each =
      let below : g < length layouts = slice_get_within layouts g layout laid in
      let mine = filter (is_own g) pieces in
      let content : Piece → List ℕ = λ p. p.content in
      let index = length (group_samples before g) in
      let Have : List Piece → Type 0 = λ ps. HaveEntries layout own_streams index (map content ps) in
      elim (two_ways (nat_le piece.id (length layouts))) [
        | inr later ↦
            let over = leb-false piece.id (length layouts) later in
            let other : piece.id ≢ g + 1 = λ same. omega (arith, same, over, below) in
            subst Have (sym (cond-false (nat_eq piece.id (g + 1)) (piece ∷ mine) mine (ne_eqb piece.id (g + 1) other)))
            (entries_have before samples pieces (next_passes layouts all before piece pieces samples later is) each.1)
        | inl first ↦
            let next = next_is layouts all before piece pieces samples first is in
            let one : Sample = record { group = piece.id - 1; values = next.entries } in
            let rest = entries_have (before ++ one ∷ []) next.rest pieces next.behind each.1 in
            elim (cases_eq piece.id (g + 1)) [
              | inl same ↦
                  let which : piece.id - 1 ≡ g = omega (arith, same) in
                  let layouts_same : next.layout ≡ layout = same_Some next.layout layout (sym next.laid ∙ ap (slice_get layouts) which ∙ laid) in
                  let here : entries_in layout own_streams index piece.content ≡ Some next.entries =
                  ap (λ (l : Layout). values_of layouts all before g l piece.content) (sym layouts_same)
                  ∙ ap (λ (n : ℕ). values_of layouts all before n next.layout piece.content) (sym which)
                  ∙ next.values in
                  subst Have (sym (cond-true (nat_eq piece.id (g + 1)) (piece ∷ mine) mine (eq-eqb piece.id (g + 1) same)))
                  ((next.entries, here), subst (λ (n : ℕ). HaveEntries layout own_streams n (own g pieces)) (one_more before one g which) rest)
              | inr other ↦
                  let which : piece.id - 1 ≢ g = λ same. other (omega (arith, same, each.0.some)) in
                  subst Have (sym (cond-false (nat_eq piece.id (g + 1)) (piece ∷ mine) mine (ne_eqb piece.id (g + 1) other)))
                  (subst (λ (n : ℕ). HaveEntries layout own_streams n (own g pieces)) (no_more before one g which) rest)
            ]
      ]

-- the offset of a channel in a record meets a value
abbrev pub IsMet : List ℕ → FieldRow → List ℕ → Type 0
IsMet bytes row stream = (value : List ℕ) × IsValueAt stream (field_number (spot_in row) bytes) value

-- a channel of variable length that has an entry
found_met : (row : FieldRow) (bytes inval stream : List ℕ) (entry : Entry) (found : Option (List ℕ)) → value_at stream (field_number (spot_in row) bytes) ≡ found
    → option_map (λ (v : Value). record { value = v; valid = is_valid row inval }) (option_map values.Bytes found) ≡ Some entry → IsMet bytes row stream
found_met row bytes inval stream entry None is told = let wrong : ◌≡◌ {A = Option Entry} None (Some entry) = told in cc
found_met row bytes inval stream entry (Some value) is told = (value, value_stands stream (field_number (spot_in row) bytes) value is)

kind_met : (kind : FieldKind) (row : FieldRow) (bytes inval stream : List ℕ) (index : ℕ) (entry : Entry) → is_variable_kind kind ≡ true
    → option_map (λ (v : Value). record { value = v; valid = is_valid row inval }) (value_in kind (spot_in row) bytes (value_at stream) index) ≡ Some entry
    → IsMet bytes row stream
kind_met Unsigned row bytes inval stream index entry is told = let wrong : false ≡ true = is in cc
kind_met Signed row bytes inval stream index entry is told = let wrong : false ≡ true = is in cc
kind_met Fixed row bytes inval stream index entry is told = let wrong : false ≡ true = is in cc
kind_met Variable row bytes inval stream index entry is told =
    found_met row bytes inval stream entry (value_at stream (field_number (spot_in row) bytes)) refl told
kind_met Virtual row bytes inval stream index entry is told = let wrong : false ≡ true = is in cc

-- each channel of variable length of a record with entries
behind_first : (row : FieldRow) (rows : List FieldRow) (bytes inval : List ℕ) (finders : List Finder) (index : ℕ) (entries : List Entry) (b : Bool)
    → is_variable row ≡ b → sample_by rows bytes inval (finders_behind row finders) index ≡ Some entries
    → sample_by rows bytes inval (if b then drop 1 finders else finders) index ≡ Some entries
behind_first row rows bytes inval finders index entries b is told =
    ap (λ (c : Bool). sample_by rows bytes inval (if c then drop 1 finders else finders) index) (sym is) ∙ told

entries_met : (rows : List FieldRow) (bytes inval : List ℕ) (streams : List (List ℕ)) (index : ℕ) (entries : List Entry)
    → sample_by rows bytes inval (map value_at streams) index ≡ Some entries → length streams ≡ length (variables rows)
    → AllZip (IsMet bytes) (variables rows) streams
unfolding sample_by
entries_met [] bytes inval [] index entries is many = tt
entries_met [] bytes inval (stream ∷ streams) index entries is many = absurd (omega (arith, many))
entries_met (row ∷ rows) bytes inval [] index entries is many =
    let found = parts_of_entries (entry_of row bytes inval (first_finder []) index) (sample_by rows bytes inval (finders_behind row []) index) entries is in
    let later = variables rows in
    elim (two_ways (is_variable row)) [
      | inl variable ↦ absurd (omega (arith, many, ap length (cond-true (is_variable row) (row ∷ later) later variable)))
      | inr other ↦
          let here : variables (row ∷ rows) ≡ later = cond-false (is_variable row) (row ∷ later) later other in
          subst (λ (vs : List FieldRow). AllZip (IsMet bytes) vs []) (sym here)
          (entries_met rows bytes inval [] index found.1 (behind_first row rows bytes inval [] index found.1 false other found.3) (many ∙ ap length here))
    ]
entries_met (row ∷ rows) bytes inval (stream ∷ streams) index entries is many =
    let finders = map value_at (stream ∷ streams) in
    let found = parts_of_entries (entry_of row bytes inval (first_finder finders) index) (sample_by rows bytes inval (finders_behind row finders) index) entries is in
    let later = variables rows in
    elim (two_ways (is_variable row)) [
      | inl variable ↦
          let here : variables (row ∷ rows) ≡ row ∷ later = cond-true (is_variable row) (row ∷ later) later variable in
          subst (λ (vs : List FieldRow). AllZip (IsMet bytes) vs (stream ∷ streams)) (sym here) (
            kind_met row.kind row bytes inval stream index found.0 variable found.2,
            entries_met rows bytes inval streams index found.1 (behind_first row rows bytes inval finders index found.1 true variable found.3)
                (omega (arith, many, ap length here)),
          )
      | inr other ↦
          let here : variables (row ∷ rows) ≡ later = cond-false (is_variable row) (row ∷ later) later other in
          subst (λ (vs : List FieldRow). AllZip (IsMet bytes) vs (stream ∷ streams)) (sym here)
          (entries_met rows bytes inval (stream ∷ streams) index found.1 (behind_first row rows bytes inval finders index found.1 false other found.3)
          (many ∙ ap length here))
    ]

-- in all records
abbrev pub AreMet : Layout → List (List ℕ) → FieldRow → List ℕ → Type 0
AreMet layout contents row stream = AllByRecursion (λ (content : List ℕ). IsMet (take layout.data_bytes content) row stream) contents

nothing_met : (layout : Layout) (rows : List FieldRow) (streams : List (List ℕ)) → length streams ≡ length rows → AllZip (AreMet layout []) rows streams
nothing_met layout [] [] many = tt
nothing_met layout [] (stream ∷ streams) many = absurd (omega (arith, many))
nothing_met layout (row ∷ rows) [] many = absurd (omega (arith, many))
nothing_met layout (row ∷ rows) (stream ∷ streams) many = (tt, nothing_met layout rows streams (omega (arith, many)))

pub all_met : (layout : Layout) (streams : List (List ℕ)) (index : ℕ) (contents : List (List ℕ)) → length streams ≡ length (variables layout.rows)
    → HaveEntries layout streams index contents → AllZip (AreMet layout contents) (variables layout.rows) streams
all_met layout streams index [] many have = nothing_met layout (variables layout.rows) streams many
all_met layout streams index (content ∷ contents) many have =
    let bytes = take layout.data_bytes content in
    let here = entries_met layout.rows bytes (drop layout.data_bytes content) streams index have.0.0 have.0.1 many in
    zip_both (IsMet bytes) (AreMet layout contents) (AreMet layout (content ∷ contents)) (λ row stream one rest. (one, rest)) (variables layout.rows) streams here
    (all_met layout streams (index + 1) contents many have.1)
