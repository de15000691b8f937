-- A relation between a row and the rows behind it.
use Rattle.std.proofs.Common.{ℕ, ◌≡◌, ◌+◌, ◌-◌, ◌<◌, List, get_or, drop, length, sym, subst, arith, length-drop}
use Rattle.std.proofs.lemmas.List.{get_or_default, get_or-drop}
use Rattle.std.specs.List.{All, AllPairs}
use Rattle.mdf_layout.specs.declared.field.FieldRow.{FieldRow}

pub row_and_later : (R : FieldRow → FieldRow → Type 0) (rows : List FieldRow) (i : ℕ) (e : FieldRow) → i < length rows → All (R (get_or rows i e)) (drop (i + 1) rows)
    → (j : ℕ) (d : FieldRow) → i < j → j < length rows → R (get_or rows i d) (get_or rows j d)
row_and_later R rows i e within all j d later below =
    let place : i + 1 + (j - (i + 1)) ≡ j = omega arith in
    let there = all (j - (i + 1)) d (omega (arith, length-drop (i + 1) rows)) in
    let at_j = subst (R (get_or rows i e)) (get_or-drop (i + 1) rows (j - (i + 1)) d) there in
    let right = subst (λ n. R (get_or rows i e) (get_or rows n d)) place at_j in
    subst (λ row. R row (get_or rows j d)) (get_or_default rows i e d within) right

pub later_rows : (R : FieldRow → FieldRow → Type 0) (rows : List FieldRow) (i : ℕ) (e : FieldRow) → i < length rows → AllPairs R rows → All (R (get_or rows i e)) (drop (i + 1) rows)
later_rows R rows i e within pairs k d below =
    let right = pairs i (i + 1 + k) d (omega arith) (omega (arith, length-drop (i + 1) rows)) in
    let row = subst (λ row. R row (get_or rows (i + 1 + k) d)) (get_or_default rows i d e within) right in
    subst (R (get_or rows i e)) (sym (get_or-drop (i + 1) rows k d)) row
