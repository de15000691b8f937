-- What a crash may leave while a head is written under a seal.
use Rattle.std.proofs.Common.{◌≡◌, inl, inr, ⊎_elim, ℕ, ◌+◌, ◌≤◌, ◌<◌, List, [], ◌∷◌, ◌++◌, length, take, drop, get_or, codes, Option, Some, None, is_some, sym, ◌∙◌, ap, subst, arith, length-append}
use Rattle.std.proofs.lemmas.List.{take_all, take_at, drop_more, get_or-drop, get_or_append_left}
use Rattle.std.proofs.lemmas.Bool.{cases_eq}
use Rattle.mdf_seal.specs.Images.{IsClosed, IsWholeButFirst}
use Rattle.mdf_format.specs.Form.{form_of}
use Rattle.mdf_gate.specs.Gated.{IsRecordingHead}
use Rattle.mdf_disk.specs.Story.{Moment, Story, MayLeave, Agrees, LeftSince, settled}
use Rattle.mdf_disk.specs.Crash.{Adds, NowHas, HoldsSince}
use Rattle.mdf_disk.proofs.Crash.{settled_leaves}
use Rattle.mdf_seal.specs.Seal.{IsKept}
use Rattle.std.specs.Prelude.{IfSome}
use Rattle.mdf_seal.proofs.Marks.{in_mark, closed_unmarked}
use Rattle.mdf_gate.specs.Images.{IsBegun, Opens, head_of}
use Rattle.mdf_gate.proofs.Appends.{none_later}
use Rattle.mdf_gate.proofs.Fronts.{form_stays}
use Rattle.mdf_gate.proofs.Resting.{rests_opens, head_rests}

pub short_begun : (head file : List ℕ) → length file ≤ 1 → IsBegun head file
short_begun head file short = inl (λ mdf. absurd (omega (arith, mdf.long, short)))

pub closed_begun : (head file : List ℕ) → IsClosed file → IsBegun head file
closed_begun head file closed = inl (closed_unmarked file closed)

module _ (head : List ℕ) (recording : IsRecordingHead head) where
  abbrev whole : List ℕ
  whole = head ++ 0 ∷ []

  long : 64 ≤ length head
  long = recording.recording.identified.long

  mark : (place : ℕ) → place < 8 → get_or whole place 0 ≡ get_or (codes "UnFinMF ") place 0
  mark place below =
      get_or_append_left head (0 ∷ []) 0 place (omega (arith, long, below))
      ∙ in_mark head (codes "UnFinMF ") place below recording.recording.form.unfinalized

  opens : Opens head [] (length head) whole
  opens =
      subst (λ (front : List ℕ). Opens front [] (length head) whole) (take_at head (0 ∷ []) (length head) (omega arith))
      (rests_opens (length head) [] (length head) whole (head_rests head recording))

  second : (file : List ℕ) → IsWholeButFirst whole file → get_or file 1 0 ≡ 110
  second file all =
      sym (get_or-drop 1 file 0 0) ∙ ap (λ (bytes : List ℕ). get_or bytes 0 0) all.rest ∙ get_or-drop 1 whole 0 0 ∙ mark 1 (omega arith)

  is_whole : (file : List ℕ) → IsWholeButFirst whole file → get_or file 0 0 ≡ 85 → whole ≡ file
  is_whole file all is_first =
      drop_more whole 0 0 (omega (arith, length-append head (0 ∷ [])))
      ∙ ap (λ (byte : ℕ). byte ∷ drop 1 whole) (mark 0 (omega arith) ∙ sym is_first)
      ∙ ap (λ (rest : List ℕ). get_or file 0 0 ∷ rest) (sym all.rest)
      ∙ sym (drop_more file 0 0 (omega (arith, all.long, length-append head (0 ∷ []))))

  pub whole_begun : (file : List ℕ) → IsWholeButFirst whole file → IsBegun head file
  whole_begun file all = ⊎_elim
      (λ is_first. inr (subst (Opens head [] (length head)) (is_whole file all is_first) opens))
      (λ other. inl (λ mdf. ⊎_elim
      (λ finalized. absurd (omega (arith, second file all, in_mark file (codes "MDF     ") 1 (omega arith) finalized)))
      (λ unfinalized. absurd (other (in_mark file (codes "UnFinMF ") 0 (omega arith) unfinalized)))
      mdf.marked))
      (cases_eq (get_or file 0 0) 85)

-- each file that a crash since the head was begun leaves, where a crash could leave the empty file alone before
pub begun_holds : (head : List ℕ) (old new : Option Story) (content : Option (List ℕ)) (clock : ℕ) → Agrees old content clock
    → NowHas old (λ moment. moment ≡ settled []) → Adds old new (IsBegun head) → HoldsSince new clock (IsBegun head)
begun_holds head None new content clock agrees blank adds = λ file left. ⊎_elim (λ none. absurd none) (λ begun. begun) (adds clock file left)
begun_holds head (Some old) new content clock agrees blank adds = λ file left.
    ⊎_elim (from_blank file) (λ begun. begun) (adds clock file left)
  where
    short : (file : List ℕ) → MayLeave (settled []) file → length file ≤ 1
    short file leaves = omega (arith, ap length (settled_leaves [] file leaves))

    from_blank : (file : List ℕ) → LeftSince (Some old) clock file → IsBegun head file
    from_blank file left = ⊎_elim
        (λ now. short_begun head file (short file (subst (λ m. MayLeave m file) blank now.1)))
        (λ before. absurd (none_later old.past clock file (omega (arith, agrees.moment_is)) before))
        left

-- the same of the head that the file has now
pub begun_since : (head : List ℕ) (new : Option Story) (clock first : ℕ) → IfSome new (λ s. head_of new first ≡ head)
    → HoldsSince new clock (IsBegun head) → HoldsSince new clock (IsBegun (head_of new first))
begun_since head None clock first is holds = λ file left. absurd left
begun_since head (Some new) clock first is holds = λ file left. subst (λ h. IsBegun h file) (sym is) (holds file left)

-- the head of a file that is kept with its closed gate
pub kept_head : (head : List ℕ) (content : Option (List ℕ)) (story : Option Story) → IsKept content story (head ++ 0 ∷ [])
    → IfSome story (λ s. head_of story (length head) ≡ head)
kept_head head content None kept = tt
kept_head head content (Some s) kept =
    ap (λ (m : Moment). take (length head) m.content) kept.kept ∙ take_at head (0 ∷ []) (length head) (omega arith)

-- its form is that of the head
pub kept_form : (head : List ℕ) (content : Option (List ℕ)) (story : Option Story) → IsRecordingHead head → IsKept content story (head ++ 0 ∷ [])
    → IfSome content (λ file. form_of file ≡ form_of head)
kept_form head None story recording kept = tt
kept_form head (Some file) story recording kept =
    ap form_of kept.whole ∙ form_stays head (head ++ 0 ∷ []) (record {
      same = take_all (length head) head (omega arith) ∙ sym (take_at head (0 ∷ []) (length head) (omega arith));
      long = omega (arith, length-append head (0 ∷ []));
    }) recording.recording

-- how far the clock rises, where the story is told: in one call, and in one more
pub rises_more : (story : Option Story) (before now few most : ℕ) → few ≤ most → IfSome story (λ s. now ≤ before + few) → IfSome story (λ s. now ≤ before + most)
rises_more None before now few most at_most rises = tt
rises_more (Some s) before now few most at_most rises = omega (arith, at_most, rises)

pub rises_both : (old mid : Option Story) (before between now few more : ℕ) → is_some mid ≡ is_some old → IfSome old (λ s. between ≤ before + few)
    → IfSome mid (λ s. now ≤ between + more) → IfSome old (λ s. now ≤ before + (few + more))
rises_both None mid before between now few more told first second = tt
rises_both (Some s) None before between now few more told first second = absurd (cc told)
rises_both (Some s) (Some t) before between now few more told first second = omega (arith, first, second)
