-- Where the next values go, when a sample was passed.
use Rattle.std.proofs.Common.{◌≡◌, ◌≢◌, ◌<◌, ◌≤◌, ◌+◌, ◌^◌, ℕ, zero, suc, Bool, true, false, List, [], ◌∷◌, ◌++◌, length, get_or, set, take, drop, replicate, refl, sym, ◌∙◌, ap, subst, arith, inl, inr, Some, None, length-append}
use Rattle.std.specs.Prelude.{slice_get, sum_by, All, if◌then◌else◌, ◌==◌}
use Rattle.std.specs.Option.{option_map_or}
use Rattle.std.proofs.lemmas.Bool.{cases_eq, cases_lt, cond-true, cond-false, eq-eqb, eqb-true, ne_eqb}
use Rattle.std.proofs.lemmas.List.{append_assoc, append-nil, take-append-drop, drop_more, drop-set-lt, take_more_set, length-set, get_or-set_same, get_or-set_other}
use Rattle.std.proofs.Math.ListN.{get_or-append}
use Rattle.std.proofs.Math.Seq.{get_or-append_seam}
use Rattle.std.proofs.lemmas.List.Elements.{filter-append}
use Rattle.std.proofs.lemmas.List.Sums.{sum_by-cons, sum_by-le-sum_by, sum_by_more}
use Rattle.std.proofs.lemmas.Option.{slice_get_within, get_or_from_slice_get, slice_get-get_or, same_Some}
use Rattle.mdf_layout.specs.History.{group_samples}
use Rattle.mdf_layout.specs.Layout.{Layout, record_size}
use Rattle.mdf_layout.specs.Rule.{is_variable}
use Rattle.mdf_layout.specs.Values.{bytes_in}
use Rattle.mdf_layout.specs.Written.{AreEntriesOf}
use Rattle.mdf_layout.specs.Record.{long_value, long_values, long_size, value_record_size, encoded_size, history_size, SampleFits}
use Rattle.mdf_layout.specs.Behind.{variables, first_id, value_size, offsets_from, offsets_behind}
use Rattle.mdf_layout.specs.Next.{Next, next_behind, AreNext, added, value_sizes}
use Rattle.mdf_layout.specs.declared.field.FieldRow.{FieldRow}
use Rattle.mdf_layout.specs.declared.sample.Entry.{Entry}
use Rattle.mdf_layout.specs.declared.sample.Sample.{Sample}
use Rattle.mdf_layout.proofs.Bridge.{head_of, offsets-append}
use Rattle.mdf_layout.proofs.Sizes.{long_size-cons}
use Rattle.mdf_layout.proofs.Longs.{long_values-none}

-- One channel more is passed: its offset has grown by what its value adds.
passed_step : (b : Bool) (v : List ℕ) (whole old new : List ℕ) (stream : ℕ) (rest : List (List ℕ)) → (b ≡ true → stream < length old)
    → (b ≡ true → new ≡ set old stream (get_or old stream 0 + (4 + length v))) → (b ≡ false → new ≡ old)
    → whole ≡ take stream old ++ added (drop stream old) (value_sizes ((if b then v ∷ [] else []) ++ rest))
    → whole ≡ take (stream + (if b then 1 else 0)) new ++ added (drop (stream + (if b then 1 else 0)) new) (value_sizes rest)
passed_step true v whole old new stream rest there set_is same before =
    let x = get_or old stream 0 in
    let y = x + (4 + length v) in
    let left : drop (stream + 1) new ≡ drop (stream + 1) old = ap (drop (stream + 1)) (set_is refl) ∙ drop-set-lt (stream + 1) old stream y (omega arith) in
    let front : take (stream + 1) new ≡ take stream old ++ y ∷ [] = ap (take (stream + 1)) (set_is refl) ∙ take_more_set old stream y (there refl) in
    before
    ∙ ap (λ xs. take stream old ++ added xs ((4 + length v) ∷ value_sizes rest)) (drop_more old stream 0 (there refl))
    ∙ sym (append_assoc (take stream old) (y ∷ []) (added (drop (stream + 1) old) (value_sizes rest)))
    ∙ ap (λ xs. xs ++ added (drop (stream + 1) old) (value_sizes rest)) (sym front)
    ∙ ap (λ xs. take (stream + 1) new ++ added xs (value_sizes rest)) (sym left)
passed_step false v whole old new stream rest there set_is same before =
    let none : stream + 0 ≡ stream = omega arith in
    before
    ∙ ap (λ xs. take stream xs ++ added (drop stream xs) (value_sizes rest)) (sym (same refl))
    ∙ ap (λ n. take n new ++ added (drop n new) (value_sizes rest)) (sym none)

pub passed_more : (row : FieldRow) (entry : Entry) (whole old new : List ℕ) (stream : ℕ) (rest : List (List ℕ)) → (is_variable row ≡ true → stream < length old)
    → (is_variable row ≡ true → new ≡ set old stream (get_or old stream 0 + (4 + length (bytes_in entry.value)))) → (is_variable row ≡ false → new ≡ old)
    → whole ≡ take stream old ++ added (drop stream old) (value_sizes (long_value row entry ++ rest))
    → whole ≡ take (stream + (if is_variable row then 1 else 0)) new ++ added (drop (stream + (if is_variable row then 1 else 0)) new) (value_sizes rest)
passed_more row entry whole old new stream rest = passed_step (is_variable row) (bytes_in entry.value) whole old new stream rest

-- the offsets that were not passed yet are still small
small_step : (b : Bool) (n : ℕ) (old new : List ℕ) (stream : ℕ) → (b ≡ true → new ≡ set old stream n) → (b ≡ false → new ≡ old)
    → ((j : ℕ) → stream ≤ j → get_or old j 0 < 2 ^ 62) → (j : ℕ) → stream + (if b then 1 else 0) ≤ j → get_or new j 0 < 2 ^ 62
small_step true n old new stream set_is same small j over =
    let still : get_or new j 0 ≡ get_or old j 0 = ap (λ xs. get_or xs j 0) (set_is refl) ∙ get_or-set_other old stream j n 0 (λ is. omega (arith, is, over)) in
    omega (arith, still, small j (omega (arith, over)))
small_step false n old new stream set_is same small j over =
    omega (arith, ap (λ xs. get_or xs j 0) (same refl), small j (omega (arith, over)))

pub small_more : (row : FieldRow) (n : ℕ) (old new : List ℕ) (stream : ℕ) → (is_variable row ≡ true → new ≡ set old stream n) → (is_variable row ≡ false → new ≡ old)
    → ((j : ℕ) → stream ≤ j → get_or old j 0 < 2 ^ 62) → (j : ℕ) → stream + (if is_variable row then 1 else 0) ≤ j → get_or new j 0 < 2 ^ 62
small_more row n old new stream = small_step (is_variable row) n old new stream

-- no channel is left
added_nothing : (xs : List ℕ) → added xs [] ≡ xs
added_nothing [] = refl
added_nothing (x ∷ xs) = refl

pub all_passed : (whole new : List ℕ) (stream : ℕ) (rows : List FieldRow) (entries : List Entry) → rows ≡ []
    → whole ≡ take stream new ++ added (drop stream new) (value_sizes (long_values rows entries)) → new ≡ whole
all_passed whole new stream rows entries none passed =
    sym (passed ∙ ap (λ (rs : List FieldRow). take stream new ++ added (drop stream new) (value_sizes (long_values rs entries))) none
    ∙ ap (λ vs. take stream new ++ added (drop stream new) (value_sizes vs)) (long_values-none entries)
    ∙ ap (λ xs. take stream new ++ xs) (added_nothing (drop stream new))
    ∙ take-append-drop stream new)

-- an item of a list of small numbers, or past its end
pub small_at : (offsets : List ℕ) → All (λ offset. offset < 2 ^ 62) offsets → (j : ℕ) → get_or offsets j 0 < 2 ^ 62
small_at [] small j = omega arith
small_at (x ∷ xs) small zero = small 0 0 (omega arith)
small_at (x ∷ xs) small (suc j) = small_at xs (λ k d within. small (suc k) d (omega (arith, within))) j

-- what one sample adds to the offsets
adds_step : (b : Bool) (k : ℕ) (s : Sample) (entry : Entry) (rest : List ℕ) (vs : List (List ℕ)) → slice_get s.values k ≡ Some entry → rest ≡ value_sizes vs
    → (if b then sum_by (value_size k) (s ∷ []) ∷ rest else rest) ≡ value_sizes (if b then bytes_in entry.value ∷ vs else vs)
adds_step true k s entry rest vs there is =
    let size : value_size k s ≡ 4 + length (bytes_in entry.value) = ap (λ found. option_map_or (λ e. 4 + length (bytes_in e.value)) found 0) there in
    let sum : sum_by (value_size k) (s ∷ []) ≡ 4 + length (bytes_in entry.value) = omega (arith, size, sum_by-cons (value_size k) s []) in
    ap (λ n. n ∷ rest) sum ∙ ap (λ ns. (4 + length (bytes_in entry.value)) ∷ ns) is
adds_step false k s entry rest vs there is = is

sample_adds : (rows : List FieldRow) (k : ℕ) (s : Sample) (entries : List Entry) → drop k s.values ≡ entries → length entries ≡ length rows
    → offsets_from k rows (s ∷ []) ≡ value_sizes (long_values rows entries)
unfolding offsets_from long_values
sample_adds [] k s entries left count = refl
sample_adds (row ∷ rows) k s [] left count = absurd (omega (arith, count))
sample_adds (row ∷ rows) k s (entry ∷ entries) left count =
    let here = head_of s.values k entry entries left in
    let next : k + 1 ≡ suc k = omega arith in
    adds_step (is_variable row) k s entry (offsets_from (k + 1) rows (s ∷ [])) (long_values rows entries) here.0
    (sample_adds rows (k + 1) s entries (ap (λ n. drop n s.values) next ∙ here.1) (omega (arith, count)))

-- a list with one item changed
get_set_same : {A : Type 0} (xs : List A) (i : ℕ) (x y : A) → slice_get xs i ≡ Some x → slice_get (set xs i y) i ≡ Some y
get_set_same xs i x y there =
    let within = slice_get_within xs i x there in
    slice_get-get_or (set xs i y) i y (omega (arith, within, length-set xs i y)) ∙ ap Some (get_or-set_same xs i y y within)

get_set_other : {A : Type 0} (xs : List A) (i j : ℕ) (x y : A) → j ≢ i → slice_get xs j ≡ Some x → slice_get (set xs i y) j ≡ Some x
get_set_other xs i j x y differs there =
    let within = slice_get_within xs j x there in
    slice_get-get_or (set xs i y) j x (omega (arith, within, length-set xs i y))
    ∙ ap Some (get_or-set_other xs i j y x differs ∙ get_or_from_slice_get xs j x x there)

-- where the values behind a sample go
pub next_more : (layouts : List Layout) (before : List Sample) (sample : Sample) (layout : Layout) (nexts : List Next) (next : Next)
    → slice_get layouts sample.group ≡ Some layout → length sample.values ≡ length layout.rows → AreNext layouts before nexts
    → next ≡ record { id = first_id layouts sample.group; offsets = added (offsets_behind layout.rows (group_samples before sample.group)) (value_sizes (long_values layout.rows sample.values)) }
    → AreNext layouts (before ++ sample ∷ []) (set nexts sample.group next)
next_more layouts before sample layout nexts next known count are is = record {
  each = λ group other there. elim (cases_eq group sample.group) [
    | inl same ↦
        let mine : slice_get nexts sample.group ≡ Some (next_behind layouts before sample.group layout) = are.each sample.group layout known in
        let layout_is : layout ≡ other = same_Some layout other (sym known ∙ ap (slice_get layouts) (sym same) ∙ there) in
        let one : group_samples (sample ∷ []) sample.group ≡ sample ∷ [] = cond-true (sample.group == sample.group) (sample ∷ []) [] (eq-eqb sample.group sample.group refl) in
        let grown : group_samples (before ++ sample ∷ []) sample.group ≡ group_samples before sample.group ++ sample ∷ [] =
        filter-append (λ (s : Sample). s.group == sample.group) before (sample ∷ []) ∙ ap (λ ss. group_samples before sample.group ++ ss) one in
        let offsets : added (offsets_behind layout.rows (group_samples before sample.group)) (value_sizes (long_values layout.rows sample.values))
        ≡ offsets_behind layout.rows (group_samples (before ++ sample ∷ []) sample.group) =
        ap (added (offsets_behind layout.rows (group_samples before sample.group))) (sym (sample_adds layout.rows 0 sample sample.values refl count))
        ∙ sym (offsets-append 0 layout.rows (group_samples before sample.group) (sample ∷ []))
        ∙ ap (offsets_behind layout.rows) (sym grown) in
        let here : slice_get (set nexts sample.group next) sample.group ≡ Some (next_behind layouts (before ++ sample ∷ []) sample.group layout) =
        get_set_same nexts sample.group (next_behind layouts before sample.group layout) next mine
        ∙ ap Some (is ∙ ap (λ (os : List ℕ). record { id = first_id layouts sample.group; offsets = os }) offsets) in
        subst (λ g. slice_get (set nexts sample.group next) g ≡ Some (next_behind layouts (before ++ sample ∷ []) g other)) (sym same)
        (subst (λ l. slice_get (set nexts sample.group next) sample.group ≡ Some (next_behind layouts (before ++ sample ∷ []) sample.group l)) layout_is here)
    | inr differs ↦
        let none : group_samples (sample ∷ []) group ≡ [] = cond-false (sample.group == group) (sample ∷ []) [] (ne_eqb sample.group group (λ same. differs (sym same))) in
        let still : group_samples before group ≡ group_samples (before ++ sample ∷ []) group =
        sym (filter-append (λ (s : Sample). s.group == group) before (sample ∷ []) ∙ ap (λ ss. group_samples before group ++ ss) none ∙ append-nil (group_samples before group)) in
        get_set_other nexts sample.group group (next_behind layouts before group other) next differs (are.each group other there)
        ∙ ap (λ (ss : List Sample). Some (record { id = first_id layouts group; offsets = offsets_behind other.rows ss })) still
  ];
}

-- what is left of entries, and of those behind the first of them
drop_none : (k : ℕ) (xs : List Entry) → drop k xs ≡ [] → (slice_get xs k ≡ None) × (drop (suc k) xs ≡ [])
drop_none zero [] is = (refl, refl)
drop_none zero (x ∷ xs) is = cc
drop_none (suc k) [] is = (refl, refl)
drop_none (suc k) (x ∷ xs) is = drop_none k xs is

no_entries : (rows : List FieldRow) → long_size rows [] ≡ 0
unfolding long_values
no_entries [] = refl
no_entries (row ∷ rows) = refl

-- The records of a channel's value and of those behind it are longer than those behind it, and than what it adds.
later_in : (row : FieldRow) (rows : List FieldRow) (k : ℕ) (entries left : List Entry) → drop k entries ≡ left
    → long_size rows (drop (suc k) entries) ≤ long_size (row ∷ rows) left
later_in row rows k entries [] is = omega (arith, ap (long_size rows) (drop_none k entries is).1, no_entries rows)
later_in row rows k entries (e ∷ es) is = omega (arith, ap (long_size rows) (head_of entries k e es is).1, long_size-cons row rows e es)

value_in : (row : FieldRow) (rows : List FieldRow) (k : ℕ) (s : Sample) (left : List Entry) → is_variable row ≡ true → drop k s.values ≡ left
    → value_size k s ≤ long_size (row ∷ rows) left
value_in row rows k s [] variable is = omega (arith, ap (λ found. option_map_or (λ e. 4 + length (bytes_in e.value)) found 0) (drop_none k s.values is).0)
value_in row rows k s (e ∷ es) variable is =
    let size : value_size k s ≡ 4 + length (bytes_in e.value) = ap (λ found. option_map_or (λ e. 4 + length (bytes_in e.value)) found 0) (head_of s.values k e es is).0 in
    let own : value_record_size row e ≡ 5 + length (bytes_in e.value) = ap (λ (b : Bool). if b then 5 + length (bytes_in e.value) else 0) variable in
    omega (arith, size, own, long_size-cons row rows e es)

-- the records of values of samples, from channel k on
abbrev sizes_from : ℕ → List FieldRow → List Sample → ℕ
sizes_from k rows samples = sum_by (λ (s : Sample). long_size rows (drop k s.values)) samples

within_step : (b : Bool) (row : FieldRow) (rows : List FieldRow) (k : ℕ) (samples : List Sample) (rest : List ℕ) → is_variable row ≡ b
    → ((j d : ℕ) → j < length rest → get_or rest j d ≤ sizes_from (suc k) rows samples) → (j d : ℕ)
    → j < length (if b then sum_by (value_size k) samples ∷ rest else rest)
    → get_or (if b then sum_by (value_size k) samples ∷ rest else rest) j d ≤ sizes_from k (row ∷ rows) samples
within_step true row rows k samples rest is behind zero d within =
    sum_by-le-sum_by (value_size k) (λ (s : Sample). long_size (row ∷ rows) (drop k s.values)) samples (λ s. value_in row rows k s (drop k s.values) is refl)
within_step true row rows k samples rest is behind (suc j) d within =
    let more = sum_by-le-sum_by (λ (s : Sample). long_size rows (drop (suc k) s.values)) (λ (s : Sample). long_size (row ∷ rows) (drop k s.values)) samples
    (λ s. later_in row rows k s.values (drop k s.values) refl) in
    omega (arith, behind j d (omega (arith, within)), more)
within_step false row rows k samples rest is behind j d within =
    let more = sum_by-le-sum_by (λ (s : Sample). long_size rows (drop (suc k) s.values)) (λ (s : Sample). long_size (row ∷ rows) (drop k s.values)) samples
    (λ s. later_in row rows k s.values (drop k s.values) refl) in
    omega (arith, behind j d within, more)

offsets_within : (rows : List FieldRow) (k : ℕ) (samples : List Sample) (j d : ℕ) → j < length (offsets_from k rows samples)
    → get_or (offsets_from k rows samples) j d ≤ sizes_from k rows samples
unfolding offsets_from
offsets_within [] k samples j d within = absurd (omega (arith, within))
offsets_within (row ∷ rows) k samples j d within =
    let next : k + 1 ≡ suc k = omega arith in
    within_step (is_variable row) row rows k samples (offsets_from (k + 1) rows samples) refl
    (λ j d inside. subst (λ n. get_or (offsets_from (k + 1) rows samples) j d ≤ sizes_from n rows samples) next (offsets_within rows (k + 1) samples j d inside)) j d within

-- the records of values of a group's samples are among those of all samples
group_step : (b : Bool) (layouts : List Layout) (layout : Layout) (s : Sample) (mine : List Sample) (all : ℕ) → (b ≡ true → slice_get layouts s.group ≡ Some layout)
    → sizes_from 0 layout.rows mine ≤ all → sizes_from 0 layout.rows (if b then s ∷ mine else mine) ≤ encoded_size layouts s + all
group_step true layouts layout s mine all known less =
    let size : encoded_size layouts s ≡ 1 + record_size layout + long_size layout.rows s.values =
    ap (λ found. option_map_or (λ layout. 1 + record_size layout + long_size layout.rows s.values) found 0) (known refl) in
    omega (arith, size, sum_by-cons (λ (s : Sample). long_size layout.rows (drop 0 s.values)) s mine, less)
group_step false layouts layout s mine all known less = omega (arith, less)

in_group : (layouts : List Layout) (group : ℕ) (layout : Layout) (before : List Sample) → slice_get layouts group ≡ Some layout
    → sizes_from 0 layout.rows (group_samples before group) ≤ history_size layouts before
in_group layouts group layout [] known = omega arith
in_group layouts group layout (s ∷ before) known =
    let one = group_step (s.group == group) layouts layout s (group_samples before group) (history_size layouts before)
    (λ same. ap (slice_get layouts) (eqb-true s.group group same) ∙ known) (in_group layouts group layout before known) in
    omega (arith, one, sum_by-cons (encoded_size layouts) s before)

pub offsets_small : (layouts : List Layout) (group : ℕ) (layout : Layout) (before : List Sample) → slice_get layouts group ≡ Some layout → history_size layouts before < 2 ^ 62
    → All (λ offset. offset < 2 ^ 62) (offsets_behind layout.rows (group_samples before group))
offsets_small layouts group layout before known short = λ j d within.
    omega (arith, offsets_within layout.rows 0 (group_samples before group) j d within, in_group layouts group layout before known, short)

-- one offset for each channel of variable length; behind no sample each is 0
count_step : (b : Bool) (row : FieldRow) (rows : List FieldRow) (offset : ℕ) (rest : List ℕ) → length rest ≡ length rows
    → length (if b then offset ∷ rest else rest) ≡ length (if b then row ∷ rows else rows)
count_step true row rows offset rest same = omega (arith, same)
count_step false row rows offset rest same = same

pub offsets-count : (rows : List FieldRow) (k : ℕ) (samples : List Sample) → length (offsets_from k rows samples) ≡ length (variables rows)
unfolding offsets_from
offsets-count [] k samples = refl
offsets-count (row ∷ rows) k samples =
    count_step (is_variable row) row (variables rows) (sum_by (value_size k) samples) (offsets_from (k + 1) rows samples) (offsets-count rows (k + 1) samples)

zeros_step : (b : Bool) (row : FieldRow) (rows : List FieldRow) (rest : List ℕ) → rest ≡ replicate (length rows) 0
    → (if b then 0 ∷ rest else rest) ≡ replicate (length (if b then row ∷ rows else rows)) 0
zeros_step true row rows rest same = ap (λ ns. 0 ∷ ns) same
zeros_step false row rows rest same = same

pub first_offsets : (rows : List FieldRow) (k : ℕ) → offsets_from k rows [] ≡ replicate (length (variables rows)) 0
unfolding offsets_from
first_offsets [] k = refl
first_offsets (row ∷ rows) k = zeros_step (is_variable row) row (variables rows) (offsets_from (k + 1) rows []) (first_offsets rows (k + 1))

-- the first values of one group more
pub first_more : (layouts : List Layout) (k : ℕ) (layout : Layout) (nexts : List Next) (next : Next) → slice_get layouts k ≡ Some layout → length nexts ≡ k
    → ((g : ℕ) (l : Layout) → g < k → slice_get layouts g ≡ Some l → slice_get nexts g ≡ Some (next_behind layouts [] g l)) → next ≡ next_behind layouts [] k layout
    → (g : ℕ) (l : Layout) → g < k + 1 → slice_get layouts g ≡ Some l → slice_get (nexts ++ next ∷ []) g ≡ Some (next_behind layouts [] g l)
first_more layouts k layout nexts next known long before is g l within there = elim (cases_lt g k) [
  | inl below ↦
      let mine = before g l below there in
      let blank = next_behind layouts [] g l in
      slice_get-get_or (nexts ++ next ∷ []) g blank (omega (arith, length-append nexts (next ∷ []), long, within))
      ∙ ap Some (get_or-append nexts (next ∷ []) blank g (omega (arith, long, below)) ∙ get_or_from_slice_get nexts g blank blank mine)
  | inr not ↦
      let same : length nexts ≡ g = omega (arith, not, within, long) in
      let blank = next_behind layouts [] g l in
      let layout_is : layout ≡ l = same_Some layout l (sym known ∙ ap (slice_get layouts) (sym long ∙ same) ∙ there) in
      slice_get-get_or (nexts ++ next ∷ []) g blank (omega (arith, length-append nexts (next ∷ []), long, within))
      ∙ ap (λ n. Some (get_or (nexts ++ next ∷ []) n blank)) (sym same)
      ∙ ap Some (get_or-append_seam nexts next [] blank ∙ is ∙ ap (λ n. next_behind layouts [] n layout) (sym long ∙ same) ∙ ap (next_behind layouts [] g) layout_is)
]

pub first_id_more : (layouts : List Layout) (k : ℕ) (layout : Layout) → slice_get layouts k ≡ Some layout
    → first_id layouts (k + 1) ≡ first_id layouts k + length (variables layout.rows)
first_id_more layouts k layout known =
    let next = sum_by_more (λ (l : Layout). length (variables l.rows)) layouts k layout (slice_get_within layouts k layout known) in
    let here = ap (λ (l : Layout). length (variables l.rows)) (get_or_from_slice_get layouts k layout layout known) in
    omega (arith, next, here)

-- what is so of each layout, and the entries of a sample of one
pub of_layout : (P : Layout → Type 0) (layouts : List Layout) (group : ℕ) (layout : Layout) → slice_get layouts group ≡ Some layout → All P layouts → P layout
of_layout P layouts group layout known all =
    subst P (get_or_from_slice_get layouts group layout layout known) (all group layout (slice_get_within layouts group layout known))

pub entries_of : (layouts : List Layout) (sample : Sample) (layout : Layout) → slice_get layouts sample.group ≡ Some layout → SampleFits layouts sample
    → AreEntriesOf layout.rows sample.values
entries_of layouts sample layout known fits =
    subst (λ (l : Layout). AreEntriesOf l.rows sample.values) (same_Some fits.layout layout (sym fits.known ∙ known)) fits.entries

-- the values of a group that come next behind a history
pub next_there : (layouts : List Layout) (before : List Sample) (group : ℕ) (layout : Layout) (nexts : List Next) (next : Next) → slice_get layouts group ≡ Some layout
    → AreNext layouts before nexts → next ≡ get_or nexts group next → next ≡ next_behind layouts before group layout
next_there layouts before group layout nexts next known are is = is ∙ get_or_from_slice_get nexts group (next_behind layouts before group layout) next (are.each group layout known)
