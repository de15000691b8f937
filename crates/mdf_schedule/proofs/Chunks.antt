-- The records of a history, group by group.
use Rattle.std.proofs.Common.{◌≡◌, ◌≢◌, ◌+◌, ◌<◌, ◌≤◌, ◌⊎◌, ℕ, List, [], ◌∷◌, ◌++◌, length, map, refl, sym, ◌∙◌, ap, subst, inl, inr, arith, append-nil}
use Rattle.std.proofs.lemmas.Bool.{cases_eq, cases_order, eq-eqb, ne_eqb, cond-true, cond-false}
use Rattle.std.proofs.lemmas.List.{map-append}
use Rattle.std.proofs.lemmas.List.Concat.{flat_map-append}
use Rattle.std.proofs.lemmas.List.Elements.{filter-append, All-nil, All-append}
use Rattle.std.proofs.lemmas.Option.{slice_get_within}
use Rattle.std.specs.Prelude.{◌==◌, nat_eq, filter, slice_get, Some}
use Rattle.std.specs.List.{flat_map}
use Rattle.mdf_layout.specs.History.{group_samples}
use Rattle.mdf_layout.specs.Layout.{Layout}
use Rattle.mdf_layout.specs.Behind.{variables, first_id, IsEncodingBehind, AreEncodingsBehind}
use Rattle.mdf_layout.specs.Read.{Piece, piece_bytes, IsPiece}
use Rattle.mdf_layout.specs.declared.sample.Sample.{Sample}
use Rattle.mdf_layout.proofs.Once.{ids_rise}
use Rattle.mdf_layout.proofs.Bridge.{value_pieces, own_bytes, each_own}
use Rattle.mdf_schedule.specs.Records.{AreBytes, AreStored, AreRecords, IsIdOf, has_id, records_with}
use Rattle.mdf_schedule.proofs.Bits.{bytes_first, bytes_behind}
use Rattle.mdf_schedule.proofs.Owns.{Own, IsOwn, AreOwn, owns_once, own_of, is_own}
use Rattle.mdf_schedule.proofs.Pieces.{records_once}

-- records behind records
with-append : (id : ℕ) (xs ys : List Piece) → records_with id (xs ++ ys) ≡ records_with id xs ++ records_with id ys
with-append id xs ys =
    ap (map (λ (piece : Piece). piece.content)) (filter-append (has_id id) xs ys)
    ∙ map-append (λ (piece : Piece). piece.content) (filter (has_id id) xs) (filter (has_id id) ys)

other_id : (id : ℕ) (piece : Piece) (pieces : List Piece) → piece.id ≢ id → records_with id (piece ∷ pieces) ≡ records_with id pieces
other_id id piece pieces differs =
    ap (map (λ (p : Piece). p.content))
    (cond-false (nat_eq piece.id id) (piece ∷ filter (has_id id) pieces) (filter (has_id id) pieces) (ne_eqb piece.id id differs))

no_value : (id from : ℕ) (vs : List (List ℕ)) → (id < from) ⊎ (from + length vs ≤ id) → records_with id (value_pieces from vs) ≡ []
no_value id from [] apart = refl
no_value id from (v ∷ vs) apart =
    let differs : from ≢ id = elim apart [ inl less ↦ λ same. omega (arith, less, same) | inr more ↦ λ same. omega (arith, more, same) ] in
    let still : (id < from + 1) ⊎ (from + 1 + length vs ≤ id) = elim apart [ inl less ↦ inl (omega (arith, less)) | inr more ↦ inr (omega (arith, more)) ] in
    other_id id (record { id = from; content = v }) (value_pieces (from + 1) vs) differs ∙ no_value id (from + 1) vs still

-- the record of a sample's group, and all of its records
abbrev own_piece : ℕ → Own → Piece
own_piece group own = record { id = group + 1; content = own.data_bytes ++ own.inval_bytes }

abbrev pieces_of : List Layout → ℕ → Own → List Piece
pieces_of layouts group own = value_pieces (first_id layouts group) own.values ++ own_piece group own ∷ []

-- none of them has an id of another group
none_with : (layouts : List Layout) (k g : ℕ) (layout other : Layout) (own : Own) (id : ℕ) → slice_get layouts k ≡ Some layout → slice_get layouts g ≡ Some other
    → g ≢ k → length own.values ≡ length (variables other.rows) → IsIdOf layouts k layout id → records_with id (pieces_of layouts g own) ≡ []
none_with layouts k g layout other own id known there differs count is =
    let in_k : k < length layouts = slice_get_within layouts k layout known in
    let in_g : g < length layouts = slice_get_within layouts g other there in
    let group : g + 1 ≢ id = elim is [ inl same ↦ λ h. differs (omega (arith, same, h)) | inr within ↦ λ h. omega (arith, within.0, h, in_g) ] in
    let apart : (id < first_id layouts g) ⊎ (first_id layouts g + length own.values ≤ id) = elim is [
      | inl same ↦ inl (omega (arith, same, in_k))
      | inr within ↦ elim (cases_order g k) [
        | inl same ↦ absurd (differs same)
        | inr (inl less) ↦ inr (omega (arith, count, within.0, ids_rise layouts g k other there less))
        | inr (inr more) ↦ inl (omega (arith, within.1, ids_rise layouts k g layout known more))
      ]
    ] in
    with-append id (value_pieces (first_id layouts g) own.values) (own_piece g own ∷ [])
    ∙ ap (λ (xs : List (List ℕ)). xs ++ records_with id (own_piece g own ∷ [])) (no_value id (first_id layouts g) own.values apart)
    ∙ other_id id (own_piece g own) [] group

-- a sample of a group, and one of another
one_more : (xs : List Sample) (sample : Sample) (k : ℕ) → sample.group ≡ k → group_samples (xs ++ sample ∷ []) k ≡ group_samples xs k ++ sample ∷ []
one_more xs sample k same =
    filter-append (λ (s : Sample). s.group == k) xs (sample ∷ [])
    ∙ ap (λ (ys : List Sample). group_samples xs k ++ ys) (cond-true (sample.group == k) (sample ∷ []) [] (eq-eqb sample.group k same))

no_more : (xs : List Sample) (sample : Sample) (k : ℕ) → sample.group ≢ k → group_samples (xs ++ sample ∷ []) k ≡ group_samples xs k
no_more xs sample k other =
    filter-append (λ (s : Sample). s.group == k) xs (sample ∷ [])
    ∙ ap (λ (ys : List Sample). group_samples xs k ++ ys) (cond-false (sample.group == k) (sample ∷ []) [] (ne_eqb sample.group k other))
    ∙ append-nil (group_samples xs k)

one_first : (sample : Sample) (xs : List Sample) (k : ℕ) → sample.group ≡ k → group_samples (sample ∷ xs) k ≡ sample ∷ group_samples xs k
one_first sample xs k same = cond-true (sample.group == k) (sample ∷ group_samples xs k) (group_samples xs k) (eq-eqb sample.group k same)

none_first : (sample : Sample) (xs : List Sample) (k : ℕ) → sample.group ≢ k → group_samples (sample ∷ xs) k ≡ group_samples xs k
none_first sample xs k other = cond-false (sample.group == k) (sample ∷ group_samples xs k) (group_samples xs k) (ne_eqb sample.group k other)

-- the records of a sample
module _ (layouts : List Layout) (before : List Sample) (bytes : List ℕ) (sample : Sample) (e : IsEncodingBehind layouts before bytes sample) where
  abbrev own : Own
  own = own_of layouts before bytes sample e

  abbrev mine : List Piece
  mine = pieces_of layouts sample.group own

-- the records of samples, and those of group k among them
record Chunks (layouts : List Layout) (k : ℕ) (layout : Layout) (before : List Sample) (bytes : List ℕ) (samples : List Sample) : Type 0 where
  pub pieces : List Piece
  pub are : AreRecords layouts bytes pieces
  pub owns : List Own
  pub own : AreOwn layout (group_samples before k) (group_samples samples k) owns
  pub same : (id : ℕ) → IsIdOf layouts k layout id → records_with id pieces ≡ records_with id (flat_map (pieces_of layouts k) owns)

module _ (layouts : List Layout) (k : ℕ) (layout : Layout) (known : slice_get layouts k ≡ Some layout) where
  -- one sample, and more
  module _ (before : List Sample) (first rest : List ℕ) (sample : Sample) (samples : List Sample) (e : IsEncodingBehind layouts before first sample)
      (small : AreBytes first) (more : Chunks layouts k layout (before ++ sample ∷ []) rest samples) where
    abbrev all : List Piece
    all = mine layouts before first sample e ++ more.pieces

    are_all : AreRecords layouts (first ++ rest) all
    are_all =
        let groups = length layouts in
        let front = mine layouts before first sample e in record {
          each = All-append (IsPiece layouts) front more.pieces (each_own layouts before first sample e.is) more.are.each;
          bytes_are =
              ap (λ (xs : List ℕ). xs ++ rest) (own_bytes layouts before first sample e.is)
              ∙ ap (λ (xs : List ℕ). flat_map (piece_bytes groups) front ++ xs) more.are.bytes_are
              ∙ sym (flat_map-append (piece_bytes groups) front more.pieces);
        }

    of_group : sample.group ≡ k → Chunks layouts k layout before (first ++ rest) (sample ∷ samples)
    of_group is =
        let mine_own = own_of layouts before first sample e in
        let there : slice_get layouts sample.group ≡ Some layout = ap (slice_get layouts) is ∙ known in
        let one : IsOwn layout (group_samples before k) sample mine_own =
        subst (λ (g : ℕ). IsOwn layout (group_samples before g) sample mine_own) is (is_own layouts before first sample e layout there small) in
        let behind : AreOwn layout (group_samples before k ++ sample ∷ []) (group_samples samples k) more.owns =
        subst (λ (xs : List Sample). AreOwn layout xs (group_samples samples k) more.owns) (one_more before sample k is) more.own in
        let both : AreOwn layout (group_samples before k) (sample ∷ group_samples samples k) (mine_own ∷ more.owns) = (one, behind) in
        record {
          pieces = all;
          are = are_all;
          owns = mine_own ∷ more.owns;
          own = subst (λ (xs : List Sample). AreOwn layout (group_samples before k) xs (mine_own ∷ more.owns)) (sym (one_first sample samples k is)) both;
          same = λ id of_k.
              with-append id (mine layouts before first sample e) more.pieces
              ∙ ap (λ (g : ℕ). records_with id (pieces_of layouts g mine_own) ++ records_with id more.pieces) is
              ∙ ap (λ (xs : List (List ℕ)). records_with id (pieces_of layouts k mine_own) ++ xs) (more.same id of_k)
              ∙ sym (with-append id (pieces_of layouts k mine_own) (flat_map (pieces_of layouts k) more.owns));
        }

    of_other : sample.group ≢ k → Chunks layouts k layout before (first ++ rest) (sample ∷ samples)
    of_other other =
        let moved : AreOwn layout (group_samples before k) (group_samples samples k) more.owns =
        subst (λ (xs : List Sample). AreOwn layout xs (group_samples samples k) more.owns) (no_more before sample k other) more.own in
        record {
          pieces = all;
          are = are_all;
          owns = more.owns;
          own = subst (λ (xs : List Sample). AreOwn layout (group_samples before k) xs more.owns) (sym (none_first sample samples k other)) moved;
          same = λ id of_k.
              with-append id (mine layouts before first sample e) more.pieces
              ∙ ap (λ (xs : List (List ℕ)). xs ++ records_with id more.pieces)
              (none_with layouts k sample.group layout e.is.layout (own_of layouts before first sample e) id known e.is.known other e.is.count of_k)
              ∙ more.same id of_k;
        }

  chunks : (before : List Sample) (bytes : List ℕ) (samples : List Sample) → AreBytes bytes → AreEncodingsBehind layouts before bytes samples
      → Chunks layouts k layout before bytes samples
  unfolding AreEncodingsBehind
  chunks before bytes [] small none = record {
    pieces = [];
    are = record { each = All-nil (IsPiece layouts); bytes_are = none };
    owns = [];
    own = tt;
    same = λ id of_k. refl;
  }
  chunks before bytes (sample ∷ samples) small (first, rest, whole, one, behind) =
      let both : AreBytes (first ++ rest) = subst AreBytes whole small in
      let front = bytes_first first rest both in
      let more = chunks (before ++ sample ∷ []) rest samples (bytes_behind first rest both) behind in
      subst (λ (xs : List ℕ). Chunks layouts k layout before xs (sample ∷ samples)) (sym whole) (elim (cases_eq sample.group k) [
        | inl is ↦ of_group before first rest sample samples one front more is
        | inr other ↦ of_other before first rest sample samples one front more other
      ])

pub content_once : (layouts : List Layout) (bytes more : List ℕ) (history other : List Sample) (records others : List Piece) (k : ℕ) (layout : Layout)
    → slice_get layouts k ≡ Some layout → AreStored layout → AreBytes bytes → AreBytes more
    → AreEncodingsBehind layouts [] bytes history → AreEncodingsBehind layouts [] more other
    → AreRecords layouts bytes records → AreRecords layouts more others
    → group_samples history k ≡ group_samples other k
    → (id : ℕ) → IsIdOf layouts k layout id → records_with id records ≡ records_with id others
content_once layouts bytes more history other records others k layout known stored small small' written written' are are' agree id of_k =
    let one = chunks layouts k layout known [] bytes history small written in
    let two = chunks layouts k layout known [] more other small' written' in
    let moved : AreOwn layout [] (group_samples history k) two.owns = subst (λ (xs : List Sample). AreOwn layout [] xs two.owns) (sym agree) two.own in
    let owns : one.owns ≡ two.owns = owns_once layout [] (group_samples history k) one.owns two.owns stored one.own moved in
    ap (records_with id) (records_once layouts bytes records one.pieces are one.are)
    ∙ one.same id of_k
    ∙ ap (λ (os : List Own). records_with id (flat_map (pieces_of layouts k) os)) owns
    ∙ sym (two.same id of_k)
    ∙ ap (records_with id) (sym (records_once layouts more others two.pieces are' two.are))
