-- Bytes are read as one list of samples.
use Rattle.std.proofs.Common.{◌≡◌, ◌<◌, ◌-◌, ℕ, Bool, true, false, List, [], ◌∷◌, ◌++◌, length, get_or, drop, refl, sym, ◌∙◌, ap, subst, arith}
use Rattle.std.specs.Prelude.{All, nat_le, if◌then◌else◌}
use Rattle.std.specs.List.{flat_map}
use Rattle.std.proofs.lemmas.Bool.{leb-true, leb-false}
use Rattle.std.proofs.lemmas.List.Elements.{All-head, All-tail}
use Rattle.std.proofs.lemmas.Option.{slice_get-get_or, same_Some}
use Rattle.mdf_vlsd.specs.Value.{value_bytes}
use Rattle.mdf_layout.specs.Layout.{Layout}
use Rattle.mdf_layout.specs.Read.{Piece, piece_body, piece_bytes, IsPiece, samples_from, AreRead}
use Rattle.mdf_layout.specs.declared.sample.Sample.{Sample}
use Rattle.mdf_layout.proofs.Once.{part_once, value_once}

-- the contents of two records with one id at the front of the same bytes
no_layout : Layout
no_layout = record { rows = []; data_bytes = 0; inval_bytes = 0 }

content_once : (layouts : List Layout) (id : ℕ) (xs ys more more' : List ℕ) (of_group : Bool) → nat_le id (length layouts) ≡ of_group
    → IsPiece layouts (record { id = id; content = xs }) → IsPiece layouts (record { id = id; content = ys })
    → (if of_group then xs else value_bytes xs) ++ more ≡ (if of_group then ys else value_bytes ys) ++ more' → (xs ≡ ys) × (more ≡ more')
content_once layouts id xs ys more more' true is one two same =
    let within : id - 1 < length layouts = omega (arith, one.some, leb-true id (length layouts) is) in
    let layout = get_or layouts (id - 1) no_layout in
    let known = slice_get-get_or layouts (id - 1) no_layout within in
    part_once xs ys more more' (one.whole layout known ∙ sym (two.whole layout known)) same
content_once layouts id xs ys more more' false is one two same =
    let over = leb-false id (length layouts) is in
    value_once xs ys more more' (one.short over) (two.short over) same

-- one list of bytes is one list of records
pub pieces_once : (layouts : List Layout) (pieces others : List Piece) → All (IsPiece layouts) pieces → All (IsPiece layouts) others
    → flat_map (piece_bytes (length layouts)) pieces ≡ flat_map (piece_bytes (length layouts)) others → pieces ≡ others
pieces_once layouts [] [] each each' same = refl
pieces_once layouts [] (piece ∷ others) each each' same = absurd (omega (arith, ap length same))
pieces_once layouts (piece ∷ pieces) [] each each' same = absurd (omega (arith, ap length same))
pieces_once layouts (piece ∷ pieces) (other ∷ others) each each' same =
    let id : piece.id ≡ other.id = ap (λ bytes. get_or bytes 0 0) same in
    let one = All-head (IsPiece layouts) piece pieces each in
    let two : IsPiece layouts (record { id = piece.id; content = other.content }) =
    subst (λ n. IsPiece layouts (record { id = n; content = other.content })) (sym id) (All-head (IsPiece layouts) other others each') in
    let groups = length layouts in
    let behind : piece_body groups piece ++ flat_map (piece_bytes groups) pieces ≡ piece_body groups (record { id = piece.id; content = other.content }) ++ flat_map (piece_bytes groups) others =
    ap (drop 1) same ∙ ap (λ n. piece_body groups (record { id = n; content = other.content }) ++ flat_map (piece_bytes groups) others) (sym id) in
    let both = content_once layouts piece.id piece.content other.content (flat_map (piece_bytes groups) pieces) (flat_map (piece_bytes groups) others)
    (nat_le piece.id groups) refl one two behind in
    let content : piece ≡ record { id = piece.id; content = other.content } = ap (λ xs. record { id = piece.id; content = xs }) both.0 in
    let whole : piece ≡ other = content ∙ ap (λ n. record { id = n; content = other.content }) id in
    ap (λ x. x ∷ pieces) whole
    ∙ ap (λ xs. other ∷ xs) (pieces_once layouts pieces others (All-tail (IsPiece layouts) piece pieces each) (All-tail (IsPiece layouts) other others each') both.1)

pub read_once : (layouts : List Layout) (bytes : List ℕ) (samples others : List Sample) → AreRead layouts bytes samples → AreRead layouts bytes others → samples ≡ others
read_once layouts bytes samples others one two =
    let pieces = pieces_once layouts one.pieces two.pieces one.each two.each (sym one.bytes_are ∙ two.bytes_are) in
    same_Some samples others (sym one.samples_are ∙ ap (λ ps. samples_from layouts ps [] ps) pieces ∙ two.samples_are)
