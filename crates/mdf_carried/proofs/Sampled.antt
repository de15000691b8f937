-- The samples that the records are read as by the layouts are those of the groups that stand in the file.
use Rattle.std.proofs.Common.{◌≡◌, ◌≢◌, ◌+◌, ◌-◌, ◌<◌, ◌≤◌, ℕ, zero, suc, true, false, List, [], ◌∷◌, ◌++◌, length, get_or, take, drop, map, refl, sym, ◌∙◌, ap, subst, inl, inr, arith, length-append, append_assoc}
use Rattle.std.proofs.lemmas.Bool.{cases_eq, eq-eqb, ne_eqb, leb-true, leb-false, cond-true, cond-false}
use Rattle.std.proofs.lemmas.List.{take_at}
use Rattle.std.proofs.lemmas.List.Elements.{filter-append}
use Rattle.std.proofs.lemmas.Option.{slice_get-get_or, same_Some}
use Rattle.std.specs.Prelude.{not, nat_eq, nat_le, filter, slice_get, Some}
use Rattle.std.specs.List.{AllByRecursion, AllZip, enumerate_from}
use Rattle.mdf_data.specs.Split.{Record}
use Rattle.mdf_head.specs.declared.entry.Head.{Head}
use Rattle.mdf_head.specs.declared.entry.History.{History}
use Rattle.mdf_group.specs.declared.row.GroupRow.{GroupRow}
use Rattle.mdf_group.specs.declared.row.DataRow.{DataRow}
use Rattle.mdf_group.specs.Group.{is_variable}
use Rattle.mdf_layout.specs.History.{group_samples}
use Rattle.mdf_layout.specs.Layout.{Layout}
use Rattle.mdf_layout.specs.Behind.{variables, first_id}
use Rattle.mdf_layout.specs.Read.{Piece, IsPiece, streams_from, samples_from}
use Rattle.mdf_layout.specs.declared.sample.Sample.{Sample}
use Rattle.mdf_model.specs.Measurement.{holds_samples}
use Rattle.mdf_data.specs.Bodies.{is_of}
use Rattle.mdf_block.proofs.Cases.{two_ways}
use Rattle.mdf_carried.specs.Recovered.{Recovery}
use Rattle.mdf_carried.specs.Samples.{is_sample_in, is_sample, sample_number, index_of, body_of, IsSampleOf}
use Rattle.mdf_carried.proofs.Rows.{values_in, AreFronts, IsRecorded, fronts_many}
use Rattle.mdf_carried.proofs.Records.{record_of, own_body, front_holds, back_holds, which_below}
use Rattle.mdf_carried.proofs.Entries.{entries_in, next_is, next_passes, one_more, no_more}
use Rattle.mdf_carried.proofs.Holds.{contents_at, contents_from, contents_there, no_group}

-- the first groups all hold samples
numbers_pass : (at : ℕ → ℕ) (n k : ℕ) (front : List GroupRow) (rest : List Layout) (back : List GroupRow) → AreFronts at n front rest → k ≤ length front
    → length (filter holds_samples (take k (front ++ back))) ≡ k
numbers_pass at n zero front rest back are few = refl
numbers_pass at n (suc k) [] rest back are few = absurd (omega (arith, few))
numbers_pass at n (suc k) (group ∷ front) [] back are few = absurd are
numbers_pass at n (suc k) (group ∷ front) (layout ∷ rest) back are few =
    let more = filter holds_samples (take k (front ++ back)) in
    ap length (cond-true (not (is_variable group)) (group ∷ more) more (ap not are.0.samples))
    ∙ ap suc (numbers_pass at (n + values_in layout) k front rest back are.1 (omega (arith, few)))

-- one more record
one_of : (k : ℕ) (seen : List Record) (r : Record) → r.which ≡ k → length (filter (is_of k) (seen ++ r ∷ [])) ≡ length (filter (is_of k) seen) + 1
one_of k seen r same =
    let one : filter (is_of k) (r ∷ []) ≡ r ∷ [] = cond-true (nat_eq r.which k) (r ∷ []) [] (eq-eqb r.which k same) in
    ap length (filter-append (is_of k) seen (r ∷ []) ∙ ap (λ (rs : List Record). filter (is_of k) seen ++ rs) one)
    ∙ length-append (filter (is_of k) seen) (r ∷ [])

none_of : (k : ℕ) (seen : List Record) (r : Record) → r.which ≢ k → length (filter (is_of k) (seen ++ r ∷ [])) ≡ length (filter (is_of k) seen)
none_of k seen r other =
    let none : filter (is_of k) (r ∷ []) ≡ [] = cond-false (nat_eq r.which k) (r ∷ []) [] (ne_eqb r.which k other) in
    let all : length (filter (is_of k) (seen ++ r ∷ [])) ≡ length (filter (is_of k) seen) + 0 =
    ap length (filter-append (is_of k) seen (r ∷ []) ∙ ap (λ (rs : List Record). filter (is_of k) seen ++ rs) none)
    ∙ length-append (filter (is_of k) seen) [] in
    omega (arith, all)

zero_on : (n : ℕ) → 0 + n ≡ n
zero_on n = omega arith

module _ (head : Head) (history : List History) (rows : List DataRow) (layouts : List Layout) (row : DataRow) (is : IsRecorded layouts row)
    (pieces : List Piece) where
  abbrev count : ℕ
  count = length layouts

  abbrev records : List Record
  records = map (record_of count) pieces

  abbrev pub recovery : Recovery
  recovery = record {
    head = head;
    history = history;
    rows = rows;
    row = row;
    records = records;
    groups = contents_from layouts pieces 0 layouts;
  }

  number_is : (k : ℕ) → k < count → sample_number row k ≡ k
  number_is k below =
      ap (λ (gs : List GroupRow). length (filter holds_samples (take k gs))) is.groups_are
      ∙ numbers_pass is.at 0 k is.front layouts is.back is.fronts (omega (arith, below, fronts_many is.at 0 is.front layouts is.fronts))

  -- which records are samples
  group_get : (k : ℕ) → k < length row.groups → slice_get row.groups k ≡ Some (get_or row.groups k no_group)
  group_get k below = slice_get-get_or row.groups k no_group below

  passes : (n : ℕ) (piece : Piece) → IsPiece layouts piece → nat_le piece.id count ≡ true → is_sample row (n, record_of count piece) ≡ true
  passes n piece is_piece first =
      let k = piece.id - 1 in
      let below : k < count = omega (arith, is_piece.some, leb-true piece.id count first) in
      ap is_sample_in (group_get k (which_below layouts row is piece is_piece)) ∙ ap not (front_holds layouts row is k no_group below)

  drops : (n : ℕ) (piece : Piece) → IsPiece layouts piece → nat_le piece.id count ≡ false → is_sample row (n, record_of count piece) ≡ false
  drops n piece is_piece later =
      let k = piece.id - 1 in
      let past : count ≤ k = omega (arith, leb-false piece.id count later) in
      let below = which_below layouts row is piece is_piece in
      ap is_sample_in (group_get k below) ∙ ap not (back_holds layouts row is k no_group past below)

  -- as many samples of each group as records
  abbrev Counted : List Sample → List Record → Type 0
  Counted before seen = (g : ℕ) → g < count → length (group_samples before g) ≡ length (filter (is_of g) seen)

  counted_more : (before : List Sample) (seen : List Record) (sample : Sample) (r : Record) → sample.group ≡ r.which → Counted before seen
      → Counted (before ++ sample ∷ []) (seen ++ r ∷ [])
  counted_more before seen sample r same counted = λ g below. elim (cases_eq r.which g) [
    | inl here ↦ one_more before sample g (same ∙ here) ∙ ap (λ (n : ℕ). n + 1) (counted g below) ∙ sym (one_of g seen r here)
    | inr other ↦ no_more before sample g (λ is_g. other (sym same ∙ is_g)) ∙ counted g below ∙ sym (none_of g seen r other)
  ]

  counted_still : (before : List Sample) (seen : List Record) (r : Record) → count ≤ r.which → Counted before seen → Counted before (seen ++ r ∷ [])
  counted_still before seen r past counted = λ g below. counted g below ∙ sym (none_of g seen r (λ same. omega (arith, same, past, below)))

  -- the sample of a record
  one_is : (n : ℕ) (piece : Piece) (before : List Sample) (seen rest : List Record) (layout : Layout) (sample : Sample) → IsPiece layouts piece
      → nat_le piece.id count ≡ true → records ≡ seen ++ rest → length seen ≡ n → Counted before seen → slice_get layouts (piece.id - 1) ≡ Some layout
      → sample.group ≡ piece.id - 1
      → entries_in layout (streams_from pieces (first_id layouts (piece.id - 1)) (variables layout.rows)) (length (group_samples before (piece.id - 1))) piece.content
      ≡ Some sample.values
      → IsSampleOf recovery (n, record_of count piece) sample
  one_is n piece before seen rest layout sample is_piece first split long counted laid group values =
      let k = piece.id - 1 in
      let below : k < count = omega (arith, is_piece.some, leb-true piece.id count first) in
      let number = number_is k below in
      let streams = streams_from pieces (first_id layouts k) (variables layout.rows) in
      let body : body_of row (n, record_of count piece) ≡ piece.content =
      ap (λ (m : ℕ). drop m (record_of count piece).bytes) is.id_size ∙ own_body layouts piece first in
      let front : take n records ≡ seen = ap (take n) split ∙ take_at seen rest n long in
      let index : index_of records (n, record_of count piece) ≡ length (group_samples before k) =
      ap (λ (rs : List Record). length (filter (is_of k) rs)) front ∙ sym (counted k below) in
      record {
        contents = contents_at layouts pieces k layout;
        holds =
            ap (slice_get (contents_from layouts pieces 0 layouts)) number
            ∙ contents_there layouts pieces 0 k layouts layout laid
            ∙ ap (λ (m : ℕ). Some (contents_at layouts pieces m layout)) (zero_on k);
        group = group ∙ sym number;
        values =
            ap (λ (m : ℕ). entries_in layout streams m (body_of row (n, record_of count piece))) index
            ∙ ap (entries_in layout streams (length (group_samples before k))) body
            ∙ values;
      }

  pub samples_are : (n : ℕ) (before samples : List Sample) (seen : List Record) (rest : List Piece) → AllByRecursion (IsPiece layouts) rest
      → records ≡ seen ++ map (record_of count) rest → length seen ≡ n → Counted before seen → samples_from layouts pieces before rest ≡ Some samples
      → AllZip (IsSampleOf recovery) (filter (is_sample row) (enumerate_from n (map (record_of count) rest))) samples
  unfolding samples_from
  samples_are n before samples seen [] each split long counted read =
      subst (λ (xs : List Sample). AllZip (IsSampleOf recovery) [] xs) (same_Some [] samples read) tt
  samples_are n before samples seen (piece ∷ rest) each split long counted read =
      let r = record_of count piece in
      let more = filter (is_sample row) (enumerate_from (n + 1) (map (record_of count) rest)) in
      let grown : records ≡ (seen ++ r ∷ []) ++ map (record_of count) rest = split ∙ sym (append_assoc seen (r ∷ []) (map (record_of count) rest)) in
      let longer : length (seen ++ r ∷ []) ≡ n + 1 = omega (arith, length-append seen (r ∷ []), long) in
      elim (two_ways (nat_le piece.id count)) [
        | inl first ↦
            let next = next_is layouts pieces before piece rest samples first read in
            let one : Sample = record { group = piece.id - 1; values = next.entries } in
            let here = one_is n piece before seen (r ∷ map (record_of count) rest) next.layout one each.0 first split long counted next.laid refl next.values in
            let behind = samples_are (n + 1) (before ++ one ∷ []) next.rest (seen ++ r ∷ []) rest each.1 grown longer
            (counted_more before seen one r refl counted) next.behind in
            subst (λ (xs : List (ℕ × Record)). AllZip (IsSampleOf recovery) xs samples)
            (sym (cond-true (is_sample row (n, r)) ((n, r) ∷ more) more (passes n piece each.0 first)))
            (subst (λ (xs : List Sample). AllZip (IsSampleOf recovery) ((n, r) ∷ more) xs) next.are (here, behind))
        | inr later ↦
            let past : count ≤ r.which = omega (arith, leb-false piece.id count later) in
            let behind = samples_are (n + 1) before samples (seen ++ r ∷ []) rest each.1 grown longer (counted_still before seen r past counted)
            (next_passes layouts pieces before piece rest samples later read) in
            subst (λ (xs : List (ℕ × Record)). AllZip (IsSampleOf recovery) xs samples)
            (sym (cond-false (is_sample row (n, r)) ((n, r) ∷ more) more (drops n piece each.0 later))) behind
      ]
