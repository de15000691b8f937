-- Records gathered one by one: what they lead to is the same all along.
use Rattle.std.proofs.Common.{◌≡◌, ◌+◌, ◌-◌, ◌<◌, ◌≤◌, ℕ, zero, suc, List, [], ◌∷◌, ◌++◌, length, get_or, set, replicate, Option, Some, None, Ok, Err, refl, sym, ◌∙◌, ap, subst, inl, inr, arith}
use Rattle.std.specs.List.{AllByRecursion}
use Rattle.std.specs.Prelude.{IfSome}
use Rattle.std.proofs.lemmas.Bool.{cases_eq}
use Rattle.std.proofs.lemmas.Grind.{get_or-set_at}
use Rattle.std.proofs.lemmas.List.{get_or-set_other, get_or-replicate}
use Rattle.mdf_num.specs.declared.halt.Halt.{Halt}
use Rattle.mdf_block.specs.Refusal.{Refusal, Read, ◌>>=◌, Halts}
use Rattle.mdf_block.proofs.Refusals.{halts_then}
use Rattle.mdf_data.specs.declared.known.Known.{Known}
use Rattle.mdf_data.specs.declared.known.Piece.{Piece}
use Rattle.mdf_data.specs.Record.{least_size, piece_at, IsPieceAt, IsIdSize}
use Rattle.mdf_data.specs.Table.{IsTable}
use Rattle.mdf_data.specs.declared.known.Group.{Group}
use Rattle.mdf_data.specs.declared.known.Size.TheVariants as sizes
use Rattle.mdf_data.specs.Places.{pieces_after, pieces_from, pieces, with_place, spread, places, HaveRoom}
use Rattle.mdf_stream.proofs.Links.{all_more}
use Rattle.mdf_block.proofs.Cases.{some_injective}

-- the places so far, with those of the records that follow
abbrev gathered : ℕ → List (List ℕ) → Read (List Piece) → Read (List (List ℕ))
gathered id_size groups read = read >>= λ found. Ok (spread id_size groups found)

-- the records from a place on lead to the whole; so many may still come, which is more than there are bytes
abbrev pub Leads : List ℕ → ℕ → ℕ → List Known → List (List ℕ) → ℕ → Read (List (List ℕ)) → Type 0
Leads stream total id_size known groups at whole =
    (most : ℕ) × (total - at < most) × (gathered id_size groups (pieces_from stream total id_size known most at) ≡ whole)

module _ (stream : List ℕ) (total id_size : ℕ) (known : List Known) where
  pub begins : Leads stream total id_size known (replicate (length known) []) 0 (places stream total id_size known)
  unfolding places
  begins = (total + 1, omega arith, refl)

  -- one record more
  moved : (groups : List (List ℕ)) (piece : Piece) (rest : Read (List Piece)) → gathered id_size groups (rest >>= λ pieces. Ok (piece ∷ pieces))
      ≡ gathered id_size (with_place groups piece.which (piece.at + id_size)) rest
  unfolding spread
  moved groups piece (Ok pieces) = refl
  moved groups piece (Err refusal) = refl

  further : (groups : List (List ℕ)) (at : ℕ) (piece : Piece) (whole : Read (List (List ℕ)))
      → piece_at stream id_size known at (total - at) ≡ Ok (Some piece) → piece.at + piece.len ≤ total → at < piece.at + piece.len
      → (most : ℕ) → total - at < most → gathered id_size groups (pieces_from stream total id_size known most at) ≡ whole
      → Leads stream total id_size known (with_place groups piece.which (piece.at + id_size)) (piece.at + piece.len) whole
  unfolding pieces_from
  further groups at piece whole found ends more zero less is = absurd (omega (arith, less))
  further groups at piece whole found ends more (suc most) less is = (
    most,
    omega (arith, less, ends, more),
    sym (moved groups piece (pieces_from stream total id_size known most (piece.at + piece.len)))
        ∙ sym (ap (λ (read : Read (Option Piece)). gathered id_size groups (read >>= pieces_after (pieces_from stream total id_size known most))) found)
        ∙ is,
  )

  pub goes_on : (groups : List (List ℕ)) (at : ℕ) (piece : Piece) (whole : Read (List (List ℕ)))
      → piece_at stream id_size known at (total - at) ≡ Ok (Some piece) → piece.at + piece.len ≤ total → at < piece.at + piece.len
      → Leads stream total id_size known groups at whole
      → Leads stream total id_size known (with_place groups piece.which (piece.at + id_size)) (piece.at + piece.len) whole
  goes_on groups at piece whole found ends more leads = further groups at piece whole found ends more leads.0 leads.1 leads.2

  -- the end of the stream
  last_done : (groups : List (List ℕ)) (at : ℕ) (whole : Read (List (List ℕ))) → piece_at stream id_size known at (total - at) ≡ Ok None
      → (most : ℕ) → total - at < most → gathered id_size groups (pieces_from stream total id_size known most at) ≡ whole → whole ≡ Ok groups
  unfolding pieces_from spread
  last_done groups at whole found zero less is = absurd (omega (arith, less))
  last_done groups at whole found (suc most) less is =
      sym is ∙ ap (λ (read : Read (Option Piece)). gathered id_size groups (read >>= pieces_after (pieces_from stream total id_size known most))) found

  pub is_done : (groups : List (List ℕ)) (at : ℕ) (whole : Read (List (List ℕ))) → piece_at stream id_size known at (total - at) ≡ Ok None
      → Leads stream total id_size known groups at whole → whole ≡ Ok groups
  is_done groups at whole found leads = last_done groups at whole found leads.0 leads.1 leads.2

  -- the next record is refused
  last_ends : {E : Type 0} (refusal : E → Option Refusal) (halt : Halt E) (groups : List (List ℕ)) (at : ℕ) (whole : Read (List (List ℕ)))
      → Halts refusal halt (piece_at stream id_size known at (total - at))
      → (most : ℕ) → total - at < most → gathered id_size groups (pieces_from stream total id_size known most at) ≡ whole → Halts refusal halt whole
  unfolding pieces_from
  last_ends refusal halt groups at whole halted zero less is = absurd (omega (arith, less))
  last_ends refusal halt groups at whole halted (suc most) less is =
      subst (Halts refusal halt) is
      (halts_then refusal halt (piece_at stream id_size known at (total - at) >>= pieces_after (pieces_from stream total id_size known most))
      (λ found. Ok (spread id_size groups found))
      (halts_then refusal halt (piece_at stream id_size known at (total - at)) (pieces_after (pieces_from stream total id_size known most)) halted))

  pub ends : {E : Type 0} (refusal : E → Option Refusal) (halt : Halt E) (groups : List (List ℕ)) (at : ℕ) (whole : Read (List (List ℕ)))
      → Halts refusal halt (piece_at stream id_size known at (total - at))
      → Leads stream total id_size known groups at whole → Halts refusal halt whole
  ends refusal halt groups at whole halted leads = last_ends refusal halt groups at whole halted leads.0 leads.1 leads.2

-- nothing is found where all that is found would contradict itself
pub none_of : {A : Type 0} (found : Option A) → ((x : A) → found ≡ Some x → ⊥) → found ≡ None
none_of None none = refl
none_of (Some x) none = absurd (none x refl)

-- one more place has room
pub room_more : (total id_size : ℕ) (known : List Known) (lists : List (List ℕ)) (at : ℕ) (piece : Piece) → HaveRoom total known lists
    → length lists ≡ length known → IsPieceAt total id_size known at piece
    → HaveRoom total known (with_place lists piece.which (piece.at + id_size))
room_more total id_size known lists at piece room long stands = λ k d e below.
    elim (cases_eq k piece.which) [
      | inl same ↦
          let P : ℕ → Type 0 = λ place. place + least_size (get_or known k d).size ≤ total in
          let here : get_or (set lists piece.which (get_or lists piece.which [] ++ (piece.at + id_size) ∷ [])) k e
          ≡ get_or lists k [] ++ (piece.at + id_size) ∷ [] =
          get_or-set_at lists piece.which k (get_or lists piece.which [] ++ (piece.at + id_size) ∷ []) e same (omega (arith, long, stands.which))
          ∙ ap (λ (n : ℕ). get_or lists n [] ++ (piece.at + id_size) ∷ []) (sym same) in
          let least : id_size + least_size (get_or known k d).size ≤ piece.len =
          subst (λ (n : ℕ). id_size + least_size (get_or known n d).size ≤ piece.len) (sym same) (stands.least d) in
          let fits : piece.at + id_size + least_size (get_or known k d).size ≤ total = omega (arith, least, stands.begins, stands.ends) in
          subst (AllByRecursion P) (sym here) (all_more P (get_or lists k []) ((piece.at + id_size) ∷ []) (room k d [] below) (fits, tt))
      | inr other ↦
          subst (AllByRecursion (λ (place : ℕ). place + least_size (get_or known k d).size ≤ total))
          (sym (get_or-set_other lists piece.which k (get_or lists piece.which [] ++ (piece.at + id_size) ∷ []) e other)) (room k d e below)
    ]

-- lists of no places have room
pub room_none : (total : ℕ) (known : List Known) (n k : ℕ) (d : Known) (e : List ℕ) → k < n
    → AllByRecursion (λ (place : ℕ). place + least_size (get_or known k d).size ≤ total) (get_or (replicate {A = List ℕ} n []) k e)
room_none total known n k d e below =
    subst (AllByRecursion (λ (place : ℕ). place + least_size (get_or known k d).size ≤ total)) (sym (get_or-replicate n k [] e below)) tt

-- what a table finds is found among the groups
pub some_stands : (total id_size : ℕ) (known : List Known) (find : ℕ → Option Group) (at : ℕ) (found : Option Piece) (piece : Piece) → found ≡ Some piece
    → IfSome found (λ (p : Piece). (groups : List Known) → IsTable groups find → IsPieceAt total id_size groups at p) → IsTable known find
    → IsPieceAt total id_size known at piece
some_stands total id_size known find at None piece is stands table = let wrong : ◌≡◌ {A = Option Piece} None (Some piece) = is in cc
some_stands total id_size known find at (Some p) piece is stands table =
    subst (IsPieceAt total id_size known at) (some_injective p piece is) (stands known table)

-- a record is not empty
pub at_least_one : (n : ℕ) → IsIdSize n → 1 ≤ n
at_least_one n is = grind arith

pub moves_on : (total id_size : ℕ) (known : List Known) (at : ℕ) (piece : Piece) → IsIdSize id_size → IsPieceAt total id_size known at piece
    → at < piece.at + piece.len
moves_on total id_size known at piece is stands =
    let none : Known = record { id = 0; size = sizes.Variable } in
    omega (arith, at_least_one id_size is, stands.least none, stands.begins)

pub shrinks : (total at next : ℕ) → at < next → next ≤ total → total - next < total - at
shrinks total at next more within = omega arith
