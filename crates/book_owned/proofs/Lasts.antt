-- The last mark.
use Rattle.std.proofs.Common.{◌≡◌, ◌≢◌, ◌-◌, ◌<◌, List, [], ◌∷◌, ◌++◌, length, get_or, slice_get, fold, All, Option, Some, None, refl, sym, ◌∙◌, ap, arith}
use Rattle.std.proofs.lemmas.Grind.{fold-append}
use Rattle.std.proofs.lemmas.List.Elements.{All-head, All-tail}
use Rattle.book_owned.specs.Marks.{last_mark}
use Rattle.book_owned.specs.declared.mark.Mark.{Mark}

abbrev next : Mark → Mark → Mark
next before mark = mark

-- the last of marks is the one behind the others
pub last_mark-append : (marks : List Mark) (mark : Mark) → last_mark (marks ++ mark ∷ []) ≡ mark
last_mark-append marks mark = fold-append next _ marks (mark ∷ [])

last_from : (first : Mark) (marks : List Mark) → slice_get (first ∷ marks) (length marks) ≡ Some (fold next first marks)
last_from first [] = refl
last_from first (mark ∷ marks) = last_from mark marks

fold_at : (first : Mark) (marks : List Mark) (d : Mark) → get_or (first ∷ marks) (length marks) d ≡ fold next first marks
fold_at first [] d = refl
fold_at first (mark ∷ marks) d = fold_at mark marks d

pub last_mark_at : (marks : List Mark) (d : Mark) → 0 < length marks → get_or marks (length marks - 1) d ≡ last_mark marks
last_mark_at [] d some = absurd (omega arith)
last_mark_at (first ∷ marks) d some =
    let place : length (first ∷ marks) - 1 ≡ length marks = omega arith in
    ap (λ n. get_or (first ∷ marks) n d) place ∙ fold_at first marks d

-- where it stands
pub slice_get-last : (marks : List Mark) (found : Option Mark) → slice_get marks (length marks - 1) ≡ found
    → (mark : Mark) → found ≡ Some mark → mark ≡ last_mark marks
slice_get-last [] found is mark some = absurd (none_some (is ∙ some)) where
  none_some : None ≡ Some mark → ⊥
  none_some e = cc
slice_get-last (first ∷ marks) found is mark some =
    let place : length (first ∷ marks) - 1 ≡ length marks = omega arith in
    let both : Some mark ≡ Some (fold next first marks) = sym some ∙ sym is ∙ ap (slice_get (first ∷ marks)) place ∙ last_from first marks in
    cc

pub slice_get-none : (marks : List Mark) → slice_get marks (length marks - 1) ≡ None → last_mark marks ≡ record { moment = 0; through = 0 }
slice_get-none [] none = refl
slice_get-none (first ∷ marks) none =
    let place : length (first ∷ marks) - 1 ≡ length marks = omega arith in
    let both : None ≡ Some (fold next first marks) = sym none ∙ ap (slice_get (first ∷ marks)) place ∙ last_from first marks in
    cc

-- what holds of each mark holds of the last
module _ (P : Mark → Type 0) where
  holds_behind : (mark : Mark) (marks : List Mark) → P mark → All P marks → P (fold next mark marks)
  holds_behind mark [] one all = one
  holds_behind mark (later ∷ marks) one all = holds_behind later marks (All-head P later marks all) (All-tail P later marks all)

  pub last_holds : (marks : List Mark) → marks ≢ [] → All P marks → P (last_mark marks)
  last_holds [] some all = absurd (some refl)
  last_holds (mark ∷ marks) some all = holds_behind mark marks (All-head P mark marks all) (All-tail P mark marks all)
