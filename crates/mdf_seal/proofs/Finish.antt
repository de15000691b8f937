-- The three calls that end a file under a seal.
use Rattle.std.proofs.Common.{◌≡◌, ◌⊎◌, inl, inr, ℕ, suc, ◌+◌, ◌≤◌, ◌<◌, List, [], ◌∷◌, length, drop, get_or, Option, Some, None, Result, Ok, sym, ◌∙◌, ap, subst, arith, length-drop}
use Rattle.std.specs.Prelude.{IfSome, slice_get}
use Rattle.std.proofs.lemmas.List.{same_lists, get_or_default, get_or-drop}
use Rattle.mdf_format.specs.Number.{patched}
use Rattle.mdf_disk.specs.Story.{Moment, Story, MayLeave, Agrees, settled}
use Rattle.mdf_disk.specs.Crash.{Adds, NowHas}
use Rattle.mdf_disk.specs.Calls.{range_of, touched, Writes, Syncs}
use Rattle.mdf_disk.proofs.Crash.{adds_written, adds_synced, now_more, now_written}
use Rattle.mdf_seal.specs.Images.{IsShut, IsClosed, IsWholeButFirst, closed}
use Rattle.mdf_seal.proofs.Shut.{shut_leaves}

-- the first byte alone is written over
one_byte : (given content file : List ℕ) → 1 ≤ length given → MayLeave (touched (range_of 0 1) content (settled (closed given))) file → IsWholeButFirst given file
one_byte [] content file some left = absurd (omega arith)
one_byte (first ∷ given) content file some left = record {
  long = omega (arith, left.not_shorter, left.not_longer);
  rest = same_lists (drop 1 file) given (omega (arith, length-drop 1 file, left.not_shorter, left.not_longer)) (λ place d below.
      let within : place < length given = omega (arith, length-drop 1 file, left.not_longer) in
      get_or_default (drop 1 file) place d 0 below
      ∙ get_or-drop 1 file place 0
      ∙ ap (λ (p : ℕ). get_or file p 0) (omega arith)
      ∙ left.kept (place + 1) (omega arith) (inr (omega arith), tt)
      ∙ same place
      ∙ get_or_default given place 0 d within);
}
  where
    same : (place : ℕ) → get_or (0 ∷ given) (place + 1) 0 ≡ get_or given place 0
    same place = let e : place + 1 ≡ suc place = omega arith in ap (λ (p : ℕ). get_or (0 ∷ given) p 0) e

abbrev pub P : List ℕ → List ℕ → Type 0
P given file = IsClosed file ⊎ IsWholeButFirst given file

module _ (given : List ℕ) (some : 1 ≤ length given) where
  -- the disk keeps the file behind its closed byte
  abbrev pub IsReady : Moment → Type 0
  IsReady moment = moment ≡ settled (closed given)

  -- the first byte was written, and not synced
  abbrev pub IsOpened : Moment → Type 0
  IsOpened moment = (content : List ℕ) × (moment ≡ touched (range_of 0 1) content (settled (closed given)))

  pub ready : (E : Type 0) (old mid : Option Story) (content : Option (List ℕ)) (clock : ℕ) → Syncs {E = E} old mid (Ok tt) → Agrees old content clock
      → IfSome content (λ file. file ≡ closed given) → NowHas mid IsReady
  ready E None mid content clock syncs agrees holds = subst (λ s. NowHas s IsReady) (sym syncs) tt
  ready E (Some story) mid content clock syncs agrees holds =
      let is : story.now.content ≡ closed given = subst (λ c. IfSome c (λ file. file ≡ closed given)) agrees.content_is holds in
      subst (λ s. NowHas s IsReady) (sym syncs) (ap settled is)

  pub first_sync : (E : Type 0) (old mid : Option Story) (content : Option (List ℕ)) (clock : ℕ) (result : Result Unit E) → Syncs old mid result
      → Agrees old content clock → NowHas old IsShut → Adds old mid (P given)
  first_sync E old mid content clock result syncs agrees shut =
      adds_synced E old mid content clock result (P given) syncs agrees (now_more old IsShut _ (λ moment is file left. inl (shut_leaves moment file is left)) shut)

  pub first_byte : (E : Type 0) (mid new : Option Story) (byte : ℕ) (result : Result Unit E) → Writes mid new 0 (byte ∷ []) result
      → NowHas mid IsReady → Adds mid new (P given)
  first_byte E mid new byte result writes ready =
      adds_written E mid new 0 (byte ∷ []) result (P given) writes
      (now_more mid IsReady _ (λ moment is content file left. inr (one_byte given content file some (subst (λ m. MayLeave (touched (range_of 0 1) content m) file) is left))) ready)

  pub opened : (E : Type 0) (mid new : Option Story) (byte : ℕ) → Writes {E = E} mid new 0 (byte ∷ []) (Ok tt) → NowHas mid IsReady → NowHas new IsOpened
  opened E mid new byte writes ready =
      now_written E mid new 0 (byte ∷ []) IsReady IsOpened writes ready
      (λ moment is. (patched 0 (byte ∷ []) moment.content, ap (touched (range_of 0 1) (patched 0 (byte ∷ []) moment.content)) is))

  pub last_sync : (E : Type 0) (new end : Option Story) (content : Option (List ℕ)) (clock : ℕ) (result : Result Unit E) → Syncs new end result
      → Agrees new content clock → NowHas new IsOpened → Adds new end (P given)
  last_sync E new end content clock result syncs agrees opened =
      adds_synced E new end content clock result (P given) syncs agrees
      (now_more new IsOpened _ (λ moment is file left. inr (one_byte given is.0 file some (subst (λ m. MayLeave m file) is.1 left))) opened)

-- a first byte was given
pub some_given : (given : List ℕ) (first : ℕ) → slice_get given 0 ≡ Some first → 1 ≤ length given
some_given [] first is = absurd (cc is)
some_given (byte ∷ given) first is = omega arith
