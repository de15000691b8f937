-- One more disk behind those that a rotation had before.
use Rattle.std.proofs.Common.{◌≡◌, ◌+◌, ◌<◌, ◌∙◌, ℕ, suc, List, [], ◌∷◌, ◌++◌, length, refl, sym, ap, subst, arith, append-nil, append_assoc, length-append}
use Rattle.std.specs.List.{AllZip}
use Rattle.mdf_disk.specs.State.{DiskState, state_of}
use Rattle.book_owned.specs.Members.{DiskOf}
use Rattle.mdf_record.specs.Record.{Outcome, outcome}
use Rattle.mdf_rotate.specs.Course.{Course}
use Rattle.mdf_rotate.specs.Part.{PartComes, PartsCome, outcomes, states}
use Rattle.mdf_rotate.specs.declared.part.Part.{Part}

-- what is so of each of two lists
pub zip_behind : {A B : Type 0} (R : A → B → Type 0) (xs : List A) (ys more : List B) (x : A) (y : B) → more ≡ ys ++ y ∷ [] → AllZip R xs ys → R x y → AllZip R (xs ++ x ∷ []) more
zip_behind {A} {B} R xs ys more x y grown all one = subst (AllZip R (xs ++ x ∷ [])) (sym grown) (go xs ys all) where
  go : (firsts : List A) (seconds : List B) → AllZip R firsts seconds → AllZip R (firsts ++ x ∷ []) (seconds ++ y ∷ [])
  go [] [] zip = (one, tt)
  go [] (b ∷ seconds) zip = absurd zip
  go (a ∷ firsts) [] zip = absurd zip
  go (a ∷ firsts) (b ∷ seconds) zip = (zip.0, go firsts seconds zip.1)

module _ {C : Type 0} (tells : DiskOf C) (outs : List C) (parts more : List (Part C)) (out : C) (part : Part C) (grown : more ≡ parts ++ part ∷ []) where
  -- of each disk, as it tells it, and what is left of it
  pub left_behind : (R : DiskState → Outcome → Type 0) → AllZip R (states tells outs) (outcomes tells parts)
      → R (state_of tells out) (outcome tells part.out part.history.items part.marks.items) → AllZip R (states tells (outs ++ out ∷ [])) (outcomes tells more)
  left_behind R all one = subst (λ ps. AllZip R (states tells (outs ++ out ∷ [])) (outcomes tells ps)) (sym grown) (go outs parts all) where
    go : (disks : List C) (before : List (Part C)) → AllZip R (states tells disks) (outcomes tells before)
        → AllZip R (states tells (disks ++ out ∷ [])) (outcomes tells (before ++ part ∷ []))
    go [] [] zip = (one, tt)
    go [] (b ∷ before) zip = absurd zip
    go (d ∷ disks) [] zip = absurd zip
    go (d ∷ disks) (b ∷ before) zip = (zip.0, go disks before zip.1)

  -- what came of them
  pub part_behind : (output : List ℕ) (now : ℕ) (first course next : Course) → PartsCome output now 0 (states tells outs) (outcomes tells parts) first course
      → (number : ℕ) → number ≡ length outs → PartComes output now number (state_of tells out) (outcome tells part.out part.history.items part.marks.items) course next
      → PartsCome output now 0 (states tells (outs ++ out ∷ [])) (outcomes tells more) first next
  part_behind output now first course next come number place one =
      subst (λ ps. PartsCome output now 0 (states tells (outs ++ out ∷ [])) (outcomes tells ps) first next) (sym grown)
      (go 0 outs parts first come (let e : number ≡ 0 + length outs = omega (arith, place) in e)) where
        go : (from : ℕ) (disks : List C) (before : List (Part C)) (start : Course) → PartsCome output now from (states tells disks) (outcomes tells before) start course
            → number ≡ from + length disks → PartsCome output now from (states tells (disks ++ out ∷ [])) (outcomes tells (before ++ part ∷ [])) start next
        go from [] [] start some at =
            let here : number ≡ from = omega (arith, at) in (
              next,
              subst (λ c. PartComes output now from (state_of tells out) (outcome tells part.out part.history.items part.marks.items) c next) some
                  (subst (λ n. PartComes output now n (state_of tells out) (outcome tells part.out part.history.items part.marks.items) course next) here one),
              refl,
            )
        go from [] (b ∷ before) start some at = absurd some
        go from (d ∷ disks) [] start some at = absurd some
        go from (d ∷ disks) (b ∷ before) start some at =
            (some.0, some.1, go (suc from) disks before some.0 some.2 (let e : number ≡ suc from + length disks = omega (arith, at) in e))

-- the first of those that were left was taken, and there is room for what becomes of it
pub one_taken : {A : Type 0} (done left rest all : List A) (x : A) → done ++ left ≡ all → left ≡ x ∷ rest → (done ++ x ∷ []) ++ rest ≡ all
one_taken done left rest all x parts is = append_assoc done (x ∷ []) rest ∙ ap (λ l. done ++ l) (sym is) ∙ parts

pub one_fewer : {A B : Type 0} (done left rest all : List A) (x : A) (made : List B) → length made ≡ length done → done ++ left ≡ all → left ≡ x ∷ rest → length made < length all
one_fewer done left rest all x made count parts is = omega (arith, count, ap length parts, length-append done left, ap length is)

pub one_made : {A B : Type 0} (done : List A) (x : A) (made more : List B) (y : B) → more ≡ made ++ y ∷ [] → length made ≡ length done → length more ≡ length (done ++ x ∷ [])
one_made done x made more y grown count = omega (arith, count, ap length grown, length-append made (y ∷ []), length-append done (x ∷ []))

-- where nothing is left, all were taken
pub all_taken : {A : Type 0} (done left all : List A) → done ++ left ≡ all → length left ≡ 0 → done ≡ all
all_taken done [] all parts none = sym (append-nil done) ∙ parts
all_taken done (x ∷ left) all parts none = absurd (omega (arith, none))
