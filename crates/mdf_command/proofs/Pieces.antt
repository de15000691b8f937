-- The parts of a line, given one behind the other.
use Rattle.std.proofs.Common.{◌≡◌, ◌≤◌, ◌<◌, ◌+◌, Option, Some, Result, Ok, Err, map, arith, ℕ, zero, suc, List, [], ◌∷◌, ◌++◌, length, take, drop, get_or, refl, sym, ◌∙◌, ap, subst, add-one, append_assoc, append-nil, take-append-drop}
use Rattle.std.proofs.Math.Seq.{take-suc}
use Rattle.std.proofs.lemmas.Grind.{flat_map-append}
use Rattle.std.specs.Io.KnownBytes.{Appends}
use Rattle.mdf_port.specs.State.{SinkState}
use Rattle.std.specs.List.{flat_map}
use Rattle.mdf_command.specs.Texts.{Gives, line, numbered, piece_text, pieces_text, shown}
use Rattle.std.proofs.lemmas.List.Concat.{flat_map-cons}
use Rattle.mdf_port.proofs.Streams.{appends_more}
use Rattle.mdf_command.specs.declared.report.Piece.{Piece}

-- a text behind a text that was given
pub gives_behind : {E : Type 0} (xs ys : List ℕ) (old mid new : SinkState) (result : Result Unit E)
    → Appends old.held mid.held xs → old.faults ≤ mid.faults → Gives ys mid new result → Gives (xs ++ ys) old new result
gives_behind xs ys old mid new (Ok done) first later gives = record {
  ok = appends_more old.held mid.held new.held xs ys first gives.ok;
  err = tt;
  cause = record { later = omega (arith, gives.cause.later); failed = tt };
}
gives_behind xs ys old mid new (Err e) first later gives = record {
  ok = tt;
  err = let front = gives.err in
      (xs ++ front.0, (front.1.0, append_assoc xs front.0 front.1.0 ∙ ap (λ zs. xs ++ zs) front.1.1), appends_more old.held mid.held new.held xs front.0 first front.2);
  cause = record { later = omega (arith, gives.cause.later); failed = omega (arith, gives.cause.failed) };
}

-- a longer text, of which giving the first part failed
pub gives_failed : {E F : Type 0} (xs rest : List ℕ) (old new : SinkState) (e : E) (f : F)
    → Gives xs old new (Err e) → Gives (xs ++ rest) old new (Err f)
gives_failed xs rest old new e f gives = record {
  ok = tt;
  err = let front = gives.err in
      (front.0, (front.1.0 ++ rest, sym (append_assoc front.0 front.1.0 rest) ∙ ap (λ zs. zs ++ rest) front.1.1), front.2);
  cause = record { later = gives.cause.later; failed = gives.cause.failed };
}

-- the same text, written in another way
pub gives_same : {E : Type 0} (xs ys : List ℕ) (old new : SinkState) (result : Result Unit E)
    → xs ≡ ys → Gives xs old new result → Gives ys old new result
gives_same xs ys old new result same gives = subst (λ text. Gives text old new result) same gives

-- what a sink holds that held nothing
pub held_alone : (old new : Option (List ℕ)) (bytes text : List ℕ) → old ≡ Some [] → new ≡ Some bytes → Appends old new text → bytes ≡ text
held_alone old new bytes text none holds appends =
    subst (λ (before : Option (List ℕ)). Appends before (Some bytes) text) none (subst (λ (after : Option (List ℕ)). Appends old after text) holds appends)

-- a line is its parts and LF
pub line-pieces : (pieces : List Piece) → line (map piece_text pieces) ≡ pieces_text pieces ++ 10 ∷ []
line-pieces [] = refl
line-pieces (piece ∷ pieces) =
    ap (λ zs. piece_text piece ++ zs) (line-pieces pieces) ∙ sym (append_assoc (piece_text piece) (pieces_text pieces) (10 ∷ []))
    ∙ ap (λ zs. zs ++ 10 ∷ []) (sym (flat_map-cons piece_text piece pieces))

-- the texts of the items up to one, of that one, and of those behind it
module _ {A : Type 0} (text : A → List ℕ) (items : List A) (i : ℕ) (d : A) (within : i < length items) where
  pub each_more : flat_map text (take (i + 1) items) ≡ flat_map text (take i items) ++ text (get_or items i d)
  each_more =
      ap (flat_map text) (ap (λ n. take n items) (add-one i) ∙ take-suc items i d within) ∙ flat_map-append text (take i items) (get_or items i d ∷ [])
      ∙ ap (λ last. flat_map text (take i items) ++ last) (append-nil (text (get_or items i d)))

  pub each_around : flat_map text items ≡ flat_map text (take i items) ++ (text (get_or items i d) ++ flat_map text (drop (i + 1) items))
  each_around =
      sym (ap (flat_map text) (take-append-drop (i + 1) items)) ∙ flat_map-append text (take (i + 1) items) (drop (i + 1) items)
      ∙ ap (λ front. front ++ flat_map text (drop (i + 1) items)) each_more
      ∙ append_assoc (flat_map text (take i items)) (text (get_or items i d)) (flat_map text (drop (i + 1) items))

pub pieces_more : (pieces : List Piece) (i : ℕ) (d : Piece) → i < length pieces
    → pieces_text (take (i + 1) pieces) ≡ pieces_text (take i pieces) ++ piece_text (get_or pieces i d)
pieces_more pieces i d within = each_more piece_text pieces i d within

pub pieces_around : (pieces : List Piece) (i : ℕ) (d : Piece) → i < length pieces
    → pieces_text pieces ≡ pieces_text (take i pieces) ++ (piece_text (get_or pieces i d) ++ pieces_text (drop (i + 1) pieces))
pieces_around pieces i d within = each_around piece_text pieces i d within

pub bytes_more : (bytes : List ℕ) (i d : ℕ) → i < length bytes
    → flat_map shown (take (i + 1) bytes) ≡ flat_map shown (take i bytes) ++ shown (get_or bytes i d)
bytes_more bytes i d within = each_more shown bytes i d within

-- a name of which a front was given, and of the rest a part and what is behind it
module _ (text done rest part behind : List ℕ) (n : ℕ) (split : text ≡ done ++ rest) (front : part ≡ take n rest) (back : behind ≡ drop n rest) where
  parted : part ++ behind ≡ rest
  parted = ap (λ zs. zs ++ behind) front ∙ ap (λ zs. take n rest ++ zs) back ∙ take-append-drop n rest

  pub split_more : text ≡ (done ++ part) ++ behind
  split_more = split ∙ ap (λ zs. done ++ zs) (sym parted) ∙ sym (append_assoc done part behind)

  pub shown_around : flat_map shown text ≡ flat_map shown done ++ (flat_map shown part ++ flat_map shown behind)
  shown_around =
      ap (flat_map shown) (split ∙ ap (λ zs. done ++ zs) (sym parted)) ∙ flat_map-append shown done (part ++ behind)
      ∙ ap (λ zs. flat_map shown done ++ zs) (flat_map-append shown part behind)

pub shown_more : (done part : List ℕ) (old mid new : Option (List ℕ))
    → Appends old mid (flat_map shown done) → Appends mid new (flat_map shown part) → Appends old new (flat_map shown (done ++ part))
shown_more done part old mid new first second =
    subst (Appends old new) (sym (flat_map-append shown done part)) (appends_more old mid new (flat_map shown done) (flat_map shown part) first second)

-- the same of texts with numbers
module _ {A : Type 0} (text : ℕ → A → List ℕ) where
  more_from : (from : ℕ) (xs : List A) (i : ℕ) (d : A) → i < length xs
      → numbered text from (take (suc i) xs) ≡ numbered text from (take i xs) ++ text (from + i) (get_or xs i d)
  more_from from [] i d within = absurd (omega (arith, within))
  more_from from (x ∷ xs) zero d within = let none : from ≡ from + 0 = omega arith in append-nil (text from x) ∙ ap (λ k. text k x) none
  more_from from (x ∷ xs) (suc i) d within =
      let next : from + 1 + i ≡ from + suc i = omega arith in
      ap (λ rest. text from x ++ rest) (more_from (from + 1) xs i d (omega (arith, within)) ∙ ap (λ k. numbered text (from + 1) (take i xs) ++ text k (get_or xs i d)) next)
      ∙ sym (append_assoc (text from x) (numbered text (from + 1) (take i xs)) (text (from + suc i) (get_or xs i d)))

  around_from : (from : ℕ) (xs : List A) (i : ℕ) (d : A) → i < length xs
      → numbered text from xs ≡ numbered text from (take i xs) ++ (text (from + i) (get_or xs i d) ++ numbered text (from + suc i) (drop (suc i) xs))
  around_from from [] i d within = absurd (omega (arith, within))
  around_from from (x ∷ xs) zero d within =
      let none : from ≡ from + 0 = omega arith in
      let next : from + 1 ≡ from + suc zero = omega arith in
      ap (λ k. text k x ++ numbered text (from + 1) xs) none ∙ ap (λ k. text (from + 0) x ++ numbered text k xs) next
  around_from from (x ∷ xs) (suc i) d within =
      let next : from + 1 + i ≡ from + suc i = omega arith in
      let later : from + 1 + suc i ≡ from + suc (suc i) = omega arith in
      ap (λ rest. text from x ++ rest) (around_from (from + 1) xs i d (omega (arith, within))
      ∙ ap (λ k. numbered text (from + 1) (take i xs) ++ (text k (get_or xs i d) ++ numbered text (from + 1 + suc i) (drop (suc i) xs))) next
      ∙ ap (λ k. numbered text (from + 1) (take i xs) ++ (text (from + suc i) (get_or xs i d) ++ numbered text k (drop (suc i) xs))) later)
      ∙ sym (append_assoc (text from x) (numbered text (from + 1) (take i xs)) (text (from + suc i) (get_or xs i d) ++ numbered text (from + suc (suc i)) (drop (suc i) xs)))

  pub numbered_more : (xs : List A) (i : ℕ) (d : A) → i < length xs → numbered text 0 (take (i + 1) xs) ≡ numbered text 0 (take i xs) ++ text i (get_or xs i d)
  numbered_more xs i d within =
      let none : 0 + i ≡ i = omega arith in
      ap (λ k. numbered text 0 (take k xs)) (add-one i) ∙ more_from 0 xs i d within ∙ ap (λ k. numbered text 0 (take i xs) ++ text k (get_or xs i d)) none

  pub numbered_around : (xs : List A) (i : ℕ) (d : A) → i < length xs
      → numbered text 0 xs ≡ numbered text 0 (take i xs) ++ (text i (get_or xs i d) ++ numbered text (0 + suc i) (drop (suc i) xs))
  numbered_around xs i d within =
      let none : 0 + i ≡ i = omega arith in
      around_from 0 xs i d within ∙ ap (λ k. numbered text 0 (take i xs) ++ (text k (get_or xs i d) ++ numbered text (0 + suc i) (drop (suc i) xs))) none

-- a list with an item has a first one
pub first_of : {A : Type 0} (xs : List A) (i : ℕ) → i < length xs → A
first_of [] i within = absurd (omega (arith, within))
first_of (x ∷ xs) i within = x
