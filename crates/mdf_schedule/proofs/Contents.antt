-- What the groups of a recording hold follows from the records of each id.
use Rattle.std.proofs.Common.{◌≡◌, ◌+◌, ◌<◌, ℕ, suc, List, [], ◌∷◌, ◌++◌, length, map, refl, sym, ◌∙◌, ap, subst, inl, inr, arith}
use Rattle.std.proofs.lemmas.Bool.{cond-true, cond-false}
use Rattle.std.specs.Prelude.{nat_eq, filter, slice_get, Some}
use Rattle.std.specs.List.{flat_map}
use Rattle.mdf_vlsd.specs.Value.{value_bytes}
use Rattle.mdf_layout.specs.Layout.{Layout}
use Rattle.mdf_layout.specs.Behind.{variables, first_id}
use Rattle.mdf_layout.specs.Read.{Piece, stream_of, streams_from}
use Rattle.mdf_layout.specs.declared.field.FieldRow.{FieldRow}
use Rattle.mdf_content.specs.declared.contents.Contents.{Contents}
use Rattle.mdf_data.specs.Bodies.{joined}
use Rattle.mdf_block.proofs.Cases.{two_ways}
use Rattle.mdf_carried.proofs.Holds.{contents_at, contents_from}
use Rattle.mdf_schedule.specs.Records.{IsIdOf, has_id, records_with}

-- a stream is the values of the records with its id
stream_is : (pieces : List Piece) (id : ℕ) → stream_of pieces id ≡ flat_map value_bytes (records_with id pieces)
stream_is [] id = refl
stream_is (piece ∷ pieces) id =
    let rest = stream_is pieces id in
    let more = filter (has_id id) pieces in
    elim (two_ways (nat_eq piece.id id)) [
      | inl same ↦
          ap (λ (xs : List ℕ). xs ++ stream_of pieces id) (cond-true (nat_eq piece.id id) (value_bytes piece.content) [] same)
          ∙ ap (λ (xs : List ℕ). value_bytes piece.content ++ xs) rest
          ∙ ap (λ (ps : List Piece). flat_map value_bytes (map (λ (p : Piece). p.content) ps)) (sym (cond-true (nat_eq piece.id id) (piece ∷ more) more same))
      | inr other ↦
          ap (λ (xs : List ℕ). xs ++ stream_of pieces id) (cond-false (nat_eq piece.id id) (value_bytes piece.content) [] other)
          ∙ rest
          ∙ ap (λ (ps : List Piece). flat_map value_bytes (map (λ (p : Piece). p.content) ps)) (sym (cond-false (nat_eq piece.id id) (piece ∷ more) more other))
    ]

module _ (layouts : List Layout) (pieces others : List Piece) where
  -- the records of each id of a group are the same
  abbrev pub SameOf : ℕ → Layout → Type 0
  SameOf k layout = (id : ℕ) → IsIdOf layouts k layout id → records_with id pieces ≡ records_with id others

  streams_same : (from : ℕ) (rows : List FieldRow) → ((j : ℕ) → j < length rows → records_with (from + j) pieces ≡ records_with (from + j) others)
      → streams_from pieces from rows ≡ streams_from others from rows
  streams_same from [] same = refl
  streams_same from (row ∷ rows) same =
      let here : from + 0 ≡ from = omega arith in
      let first : records_with from pieces ≡ records_with from others =
      subst (λ (id : ℕ). records_with id pieces ≡ records_with id others) here (same 0 (omega arith)) in
      let one : stream_of pieces from ≡ stream_of others from = stream_is pieces from ∙ ap (flat_map value_bytes) first ∙ sym (stream_is others from) in
      ap (λ (s : List ℕ). s ∷ streams_from pieces (from + 1) rows) one
      ∙ ap (λ (ss : List (List ℕ)). stream_of others from ∷ ss)
      (streams_same (from + 1) rows (λ j below.
      let next : from + suc j ≡ from + 1 + j = omega arith in
      subst (λ (id : ℕ). records_with id pieces ≡ records_with id others) next (same (suc j) (omega (arith, below)))))

  one_same : (k : ℕ) (layout : Layout) → SameOf k layout → contents_at layouts pieces k layout ≡ contents_at layouts others k layout
  one_same k layout same =
      let own : records_with (k + 1) pieces ≡ records_with (k + 1) others = same (k + 1) (inl refl) in
      let from = first_id layouts k in
      let streams : streams_from pieces from (variables layout.rows) ≡ streams_from others from (variables layout.rows) =
      streams_same from (variables layout.rows) (λ j below. same (from + j) (inr (omega arith, omega (arith, below)))) in
      ap (λ (xs : List (List ℕ)).
      record { shape = layout; count = length xs; content = joined xs; streams = streams_from pieces from (variables layout.rows) }) own
      ∙ ap (λ (ss : List (List ℕ)).
      record { shape = layout; count = length (records_with (k + 1) others); content = joined (records_with (k + 1) others); streams = ss }) streams

  pub contents_same : (k : ℕ) (rest : List Layout) → ((j : ℕ) (layout : Layout) → slice_get rest j ≡ Some layout → SameOf (k + j) layout)
      → contents_from layouts pieces k rest ≡ contents_from layouts others k rest
  contents_same k [] same = refl
  contents_same k (layout ∷ rest) same =
      let here : k + 0 ≡ k = omega arith in
      let one = one_same k layout (subst (λ (n : ℕ). SameOf n layout) here (same 0 layout refl)) in
      ap (λ (c : Contents). c ∷ contents_from layouts pieces (k + 1) rest) one
      ∙ ap (λ (cs : List Contents). contents_at layouts others k layout ∷ cs)
      (contents_same (k + 1) rest (λ j l there.
      let next : k + suc j ≡ k + 1 + j = omega arith in
      subst (λ (n : ℕ). SameOf n l) next (same (suc j) l there)))
