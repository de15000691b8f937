-- Where the records of a stream with ids end, and why.
use Rattle.std.proofs.Common.{◌≡◌, ◌+◌, ◌-◌, ◌<◌, ◌≤◌, ℕ, zero, suc, List, [], ◌∷◌, length, Option, Some, None, Ok, Err, refl, sym, ◌∙◌, ap, inl, inr, arith}
use Rattle.std.specs.Prelude.{Bool, true, false, nat_eq, nat_lt, if◌then◌else◌}
use Rattle.std.proofs.lemmas.Bool.{cases_eq, eq-eqb, ltb-false}
use Rattle.mdf_format.specs.Number.{le_number, bytes_at}
use Rattle.mdf_block.specs.Refusal.{Refusal, UnknownId, Cut, Read, ◌>>=◌}
use Rattle.mdf_block.proofs.Truths.{Refusing, refusing_none, refusing_one, refusing_then, refusing_if}
use Rattle.mdf_data.specs.declared.known.Known.{Known}
use Rattle.mdf_data.specs.declared.known.Group.{Group}
use Rattle.mdf_data.specs.declared.known.Piece.{Piece}
use Rattle.mdf_data.specs.Record.{group_of, body_size, id_at, whole_piece, group_piece, piece_with, piece_at}
use Rattle.mdf_data.specs.Places.{pieces_after, pieces_from}

-- the place of a refusal
module _ (stream : List ℕ) (total id_size : ℕ) (known : List Known) where
  abbrev IsPlaced : Refusal → Type 0
  IsPlaced refusal = (place : ℕ) × (piece_at stream id_size known place (total - place) ≡ Err refusal)

  refused_after : (most : ℕ) (next : Option Piece) → ((at : ℕ) → Refusing IsPlaced (pieces_from stream total id_size known most at))
      → Refusing IsPlaced (pieces_after (pieces_from stream total id_size known most) next)
  refused_after most None deeper = refusing_none IsPlaced []
  refused_after most (Some piece) deeper =
      refusing_then IsPlaced (pieces_from stream total id_size known most (piece.at + piece.len)) (λ pieces. Ok (piece ∷ pieces))
      (deeper (piece.at + piece.len)) (λ pieces _. refusing_none IsPlaced (piece ∷ pieces))

  pub refused_place : (most at : ℕ) → Refusing IsPlaced (pieces_from stream total id_size known most at)
  unfolding pieces_from
  refused_place zero at = refusing_none IsPlaced []
  refused_place (suc most) at =
      refusing_then IsPlaced (piece_at stream id_size known at (total - at)) (pieces_after (pieces_from stream total id_size known most))
      (record { tells = λ refusal is. (at, is) }) (λ next _. refused_after most next (refused_place most))

-- why no record begins at a place
pub data IsStop (stream : List ℕ) (id_size : ℕ) (known : List Known) (place : ℕ) (refusal : Refusal) : Type 0 where
  IsUnknown : (id : ℕ) → refusal ≡ UnknownId id place → id_size ≤ length stream - place → id ≡ le_number (bytes_at id_size stream place)
      → group_of known id 0 ≡ None → IsStop stream id_size known place refusal
  IsShort : refusal ≡ Cut place → IsStop stream id_size known place refusal

module _ (stream : List ℕ) (id_size : ℕ) (known : List Known) (place : ℕ) where
  abbrev rest : ℕ
  rest = length stream - place

  abbrev Stops : Refusal → Type 0
  Stops refusal = IsStop stream id_size known place refusal

  sized_stop : (which : ℕ) (size : Option ℕ) → Refusing Stops (whole_piece which place id_size size)
  sized_stop which None = refusing_one Stops (Cut place) (IsShort refl)
  sized_stop which (Some n) = refusing_none Stops _

  group_stop : (id : ℕ) (found : Option Group) → id_size ≤ rest → id ≡ le_number (bytes_at id_size stream place) → group_of known id 0 ≡ found
      → Refusing Stops (group_piece stream id_size place rest id found)
  unfolding group_piece
  group_stop id None whole is_id none = refusing_one Stops (UnknownId id place) (IsUnknown id refl whole is_id none)
  group_stop id (Some group) whole is_id some = sized_stop group.which (body_size stream (place + id_size) (rest - id_size) group.size)

  id_by : (none short : Bool) (here id : ℕ)
      → ◌≡◌ {A = Read (Option ℕ)} (if none then Ok None else (if short then Err (Cut place) else Ok (Some here))) (Ok (Some id))
      → (short ≡ false) × (id ≡ here)
  id_by true short here id is = let wrong : ◌≡◌ {A = Read (Option ℕ)} (Ok None) (Ok (Some id)) = is in cc
  id_by false true here id is = let wrong : ◌≡◌ {A = Read (Option ℕ)} (Err (Cut place)) (Ok (Some id)) = is in cc
  id_by false false here id is = let same : ◌≡◌ {A = Read (Option ℕ)} (Ok (Some here)) (Ok (Some id)) = is in (refl, cc)

  with_stop : (id : Option ℕ) → id_at stream id_size place rest ≡ Ok id → Refusing Stops (piece_with stream id_size known place rest id)
  unfolding id_at
  with_stop None is_id = refusing_none Stops None
  with_stop (Some id) is_id =
      let read = id_by (nat_eq rest 0) (nat_lt rest id_size) (le_number (bytes_at id_size stream place)) id is_id in
      refusing_then Stops (group_piece stream id_size place rest id (group_of known id 0)) (λ piece. Ok (Some piece))
      (group_stop id (group_of known id 0) (ltb-false rest id_size read.0) read.1 refl) (λ piece _. refusing_none Stops (Some piece))

  id_stop : Refusing Stops (id_at stream id_size place rest)
  unfolding id_at
  id_stop =
      refusing_if Stops (nat_eq rest 0) (Ok None) _ (λ _. refusing_none Stops None)
      (λ _. refusing_if Stops (nat_lt rest id_size) (Err (Cut place)) (Ok (Some (le_number (bytes_at id_size stream place))))
      (λ _. refusing_one Stops (Cut place) (IsShort refl)) (λ _. refusing_none Stops (Some (le_number (bytes_at id_size stream place)))))

  pub piece_stop : Refusing Stops (piece_at stream id_size known place rest)
  unfolding piece_at
  piece_stop = refusing_then Stops (id_at stream id_size place rest) (piece_with stream id_size known place rest) id_stop with_stop

  -- something is left there
  none_ends : rest ≡ 0 → id_at stream id_size place rest ≡ Ok None
  unfolding id_at
  none_ends none = ap (λ (b : Bool). if b then Ok None else (if nat_lt rest id_size then Err (Cut place) else Ok (Some (le_number (bytes_at id_size stream place))))) (eq-eqb rest 0 none)

  pub some_left : (refusal : Refusal) → piece_at stream id_size known place rest ≡ Err refusal → place < length stream
  unfolding piece_at
  some_left refusal is =
      elim (cases_eq rest 0) [
        | inl none ↦
            let wrong : ◌≡◌ {A = Read (Option Piece)} (Ok None) (Err refusal) =
            sym (ap (λ (read : Read (Option ℕ)). read >>= piece_with stream id_size known place rest) (none_ends none)) ∙ is in cc
        | inr some ↦ grind (arith, some)
      ]
