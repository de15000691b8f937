-- How the words on crashes go on over the calls of a disk.
use Rattle.std.proofs.Common.{◌≡◌, inl, inr, ⊎_elim, ℕ, ◌<◌, List, length, Option, Some, None, Result, Ok, Err, sym, ◌∙◌, subst, arith}
use Rattle.std.proofs.lemmas.List.{same_lists, get_or_default}
use Rattle.mdf_disk.specs.Story.{Moment, Story, MayLeave, LeftSince, Agrees, settled}
use Rattle.mdf_disk.specs.Crash.{Adds, NowHas, HoldsSince}
use Rattle.mdf_disk.specs.Calls.{range_of, touched, followed_by, Writes, Syncs}
use Rattle.mdf_format.specs.Number.{patched}

-- after a sync a crash leaves the content
pub settled_leaves : (content file : List ℕ) → MayLeave (settled content) file → file ≡ content
settled_leaves content file left =
    same_lists file content (omega (arith, left.not_shorter, left.not_longer)) (λ place d below.
    let within : place < length content = omega (arith, left.not_longer) in
    get_or_default file place d 0 below ∙ left.kept place within tt ∙ get_or_default content place 0 d within)

-- nothing joins where nothing happens, and one step after another
pub adds_none : (story : Option Story) (P : List ℕ → Type 0) → Adds story story P
adds_none story P t file left = inl left

pub adds_both : (old mid new : Option Story) (P : List ℕ → Type 0) → Adds old mid P → Adds mid new P → Adds old new P
adds_both old mid new P first second t file left = ⊎_elim (first t file) inr (second t file left)

pub adds_more : (old new : Option Story) (P Q : List ℕ → Type 0) → ((file : List ℕ) → P file → Q file) → Adds old new P → Adds old new Q
adds_more old new P Q more adds t file left = ⊎_elim inl (λ p. inr (more file p)) (adds t file left)

pub holds_after : (old new : Option Story) (t : ℕ) (P : List ℕ → Type 0) → HoldsSince old t P → Adds old new P → HoldsSince new t P
holds_after old new t P holds adds file left = ⊎_elim (holds file) (λ p. p) (adds t file left)

pub now_more : (story : Option Story) (Q R : Moment → Type 0) → ((moment : Moment) → Q moment → R moment) → NowHas story Q → NowHas story R
now_more None Q R more has = tt
now_more (Some story) Q R more has = more story.now has

-- one moment more
one_more : (story : Story) (new : Option Story) (moment : Moment) (P : List ℕ → Type 0) → ((file : List ℕ) → MayLeave moment file → P file)
    → new ≡ Some (followed_by story moment) → Adds (Some story) new P
one_more story new moment P leaves is t file left =
    ⊎_elim (λ now. inr (leaves file now.1)) inl (subst (λ s. LeftSince s t file) is left)

as_before : (story : Story) (new : Option Story) (P : List ℕ → Type 0) → new ≡ Some story → Adds (Some story) new P
as_before story new P is t file left = inl (subst (λ s. LeftSince s t file) is left)

-- a write, whether it succeeds or fails
pub adds_written : (E : Type 0) (old new : Option Story) (at : ℕ) (bytes : List ℕ) (result : Result Unit E) (P : List ℕ → Type 0)
    → Writes old new at bytes result
    → NowHas old (λ moment. (content file : List ℕ) → MayLeave (touched (range_of at (length bytes)) content moment) file → P file)
    → Adds old new P
adds_written E None new at bytes result P writes leaves = λ t file left. absurd (subst (λ s. LeftSince s t file) writes left)
adds_written E (Some story) new at bytes (Ok done) P writes leaves = one_more story new _ P (leaves _) writes
adds_written E (Some story) new at bytes (Err e) P writes leaves =
    ⊎_elim (as_before story new P) (λ failed. one_more story new _ P (leaves failed.0) failed.2) writes

-- a sync, whether it succeeds or fails
pub adds_synced : (E : Type 0) (old new : Option Story) (content : Option (List ℕ)) (moment : ℕ) (result : Result Unit E) (P : List ℕ → Type 0)
    → Syncs old new result → Agrees old content moment → NowHas old (λ moment. (file : List ℕ) → MayLeave moment file → P file)
    → Adds old new P
adds_synced E None new content moment result P syncs agrees leaves = λ t file left. absurd (subst (λ s. LeftSince s t file) syncs left)
adds_synced E (Some story) new content moment (Ok done) P syncs agrees leaves =
    one_more story new _ P (λ file left. subst P (sym (settled_leaves story.now.content file left)) (leaves story.now.content agrees.possible)) syncs
adds_synced E (Some story) new content moment (Err e) P syncs agrees leaves =
    ⊎_elim (as_before story new P)
    (λ failed. one_more story new _ P (λ file left. leaves file (record { not_shorter = left.not_shorter; not_longer = left.not_longer; kept = left.kept })) failed.2)
    syncs

-- the present moment after a write and after a sync that succeeded
pub now_written : (E : Type 0) (old new : Option Story) (at : ℕ) (bytes : List ℕ) (Q R : Moment → Type 0)
    → Writes {E = E} old new at bytes (Ok tt) → NowHas old Q
    → ((moment : Moment) → Q moment → R (touched (range_of at (length bytes)) (patched at bytes moment.content) moment))
    → NowHas new R
now_written E None new at bytes Q R writes has on = subst (λ s. NowHas s R) (sym writes) tt
now_written E (Some story) new at bytes Q R writes has on = subst (λ s. NowHas s R) (sym writes) (on story.now has)
