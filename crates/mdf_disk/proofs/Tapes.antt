-- A call that is recorded.
use Rattle.std.proofs.Common.{◌≡◌, ℕ, ◌+◌, ◌≤◌, ◌<◌, List, [], ◌∷◌, ◌++◌, length, take, get_or, Option, Some, None, is_some, Ok, Err, inr, true, false, refl, sym, ◌∙◌, ap, subst, arith, length-append}
use Rattle.std.proofs.lemmas.List.{take_more}
use Rattle.std.proofs.lemmas.List.Sums.{fold-append}
use Rattle.mdf_format.specs.Number.{patched}
use Rattle.std.specs.List.{AllByRecursion}
use Rattle.mdf_disk.specs.Story.{Moment, Story, MayLeave, settled}
use Rattle.mdf_disk.specs.Calls.{range_of, Attaches, Writes, Syncs}
use Rattle.mdf_disk.specs.Tape.{IsTape, IsRecordable, story_of, told_by, first_story, content_after, ticks_of, told_content, told_story, moments_of}
use Rattle.mdf_disk.specs.declared.call.Call.{Call}
use Rattle.mdf_disk.specs.declared.call.Call.TheVariants.{Attach, Size, Read, Refused, Write, Sync}
use Rattle.mdf_disk.specs.Memory.{IsThere}
use Rattle.mdf_disk.specs.declared.role.Role.{Role}
use Rattle.mdf_disk.specs.declared.role.Role.TheVariants as role
use Rattle.mdf_disk.proofs.Images.{left_untouched, left_patched, left_settled}

pub story_of-push : (calls : List Call) (call : Call) → story_of (calls ++ call ∷ []) ≡ told_by (story_of calls) call
story_of-push calls call = fold-append told_by first_story calls (call ∷ [])

pub story_of-more : (calls : List Call) (k : ℕ) (call : Call) → k < length calls → story_of (take (k + 1) calls) ≡ told_by (story_of (take k calls)) (get_or calls k call)
story_of-more calls k call within = ap story_of (take_more calls k call within) ∙ story_of-push (take k calls) (get_or calls k call)

abbrev pub IsPossible : Moment → Type 0
IsPossible moment = MayLeave moment moment.content

-- what the tape keeps, by the story
record Keeps (story : Story) (content : List ℕ) (clock : ℕ) : Type 0 where
  content_is : content ≡ story.now.content
  clock_is : clock ≡ length story.past
  possible : AllByRecursion IsPossible (moments_of story)

keeps_on : (call : Call) (story : Story) (content : List ℕ) (clock : ℕ) → Keeps story content clock → IsRecordable call story.now.content
    → Keeps (told_by story call) (content_after call content) (clock + ticks_of call)
keeps_on Attach story content clock keeps fits = record { content_is = keeps.content_is; clock_is = omega (arith, keeps.clock_is); possible = keeps.possible }
keeps_on Size story content clock keeps fits = record { content_is = keeps.content_is; clock_is = omega (arith, keeps.clock_is); possible = keeps.possible }
keeps_on Read story content clock keeps fits = record { content_is = keeps.content_is; clock_is = omega (arith, keeps.clock_is); possible = keeps.possible }
keeps_on Refused story content clock keeps fits = record { content_is = keeps.content_is; clock_is = omega (arith, keeps.clock_is); possible = keeps.possible }
keeps_on (Write at bytes true) story content clock keeps fits = record {
  content_is = ap (patched at bytes) keeps.content_is;
  clock_is = omega (arith, keeps.clock_is);
  possible = (left_patched story.now at bytes _ story.now.content fits keeps.possible.0, keeps.possible);
}
keeps_on (Write at bytes false) story content clock keeps fits = record {
  content_is = keeps.content_is;
  clock_is = omega (arith, keeps.clock_is);
  possible = (left_untouched story.now (range_of at (length bytes)) _ story.now.content keeps.possible.0, keeps.possible);
}
keeps_on (Sync true) story content clock keeps fits = record {
  content_is = keeps.content_is;
  clock_is = omega (arith, keeps.clock_is);
  possible = (left_settled story.now.content, keeps.possible);
}
keeps_on (Sync false) story content clock keeps fits = record { content_is = keeps.content_is; clock_is = omega (arith, keeps.clock_is); possible = (keeps.possible.0, keeps.possible) }

ticks_of-le : (call : Call) → ticks_of call ≤ 1
ticks_of-le Attach = omega arith
ticks_of-le Size = omega arith
ticks_of-le Read = omega arith
ticks_of-le Refused = omega arith
ticks_of-le (Write at bytes done) = omega arith
ticks_of-le (Sync done) = omega arith

-- a tape with one call more
pub recorded : (calls : List Call) (call : Call) (content : List ℕ) (clock : ℕ) → IsTape calls content clock → IsRecordable call (story_of calls).now.content
    → IsTape (calls ++ call ∷ []) (content_after call content) (clock + ticks_of call)
recorded calls call content clock tape fits =
    let is = story_of-push calls call in
    let next = keeps_on call (story_of calls) content clock (record { content_is = tape.content_is; clock_is = tape.clock_is; possible = tape.possible }) fits in record {
      content_is = next.content_is ∙ ap (λ (s : Story). s.now.content) (sym is);
      clock_is = next.clock_is ∙ ap (λ (s : Story). length s.past) (sym is);
      counted = omega (arith, tape.counted, ticks_of-le call, length-append calls (call ∷ []));
      possible = subst (λ (s : Story). AllByRecursion IsPossible (moments_of s)) (sym is) next.possible;
    }

-- a write and a sync that failed on the way
pub write_failed : {E : Type 0} (e : E) (file : Option (List ℕ)) (calls : List Call) (at : ℕ) (bytes : List ℕ)
    → MayLeave (story_of calls).now (story_of calls).now.content
    → Writes (told_story file calls) (told_story file (calls ++ Write at bytes false ∷ [])) at bytes (Err e)
write_failed e (Some bytes_there) calls at bytes possible = refl
write_failed e None calls at bytes possible =
    let story = story_of calls in
    inr (story.now.content, left_untouched story.now (range_of at (length bytes)) _ story.now.content possible, ap Some (story_of-push calls (Write at bytes false)))

pub sync_failed : {E : Type 0} (e : E) (file : Option (List ℕ)) (calls : List Call)
    → MayLeave (story_of calls).now (story_of calls).now.content
    → Syncs (told_story file calls) (told_story file (calls ++ Sync false ∷ [])) (Err e)
sync_failed e (Some bytes_there) calls possible = refl
sync_failed e None calls possible =
    let story = story_of calls in
    inr (
      story.now.content,
      record { not_shorter = possible.not_shorter; not_longer = possible.not_longer; kept = possible.kept },
      ap Some (story_of-push calls (Sync false)),
    )

-- a write and a sync that were done
pub write_done : (E : Type 0) (file : Option (List ℕ)) (calls : List Call) (at : ℕ) (bytes : List ℕ)
    → Writes {E = E} (told_story file calls) (told_story file (calls ++ Write at bytes true ∷ [])) at bytes (Ok tt)
write_done E (Some bytes_there) calls at bytes = refl
write_done E None calls at bytes = ap Some (story_of-push calls (Write at bytes true))

pub write_puts : (file : Option (List ℕ)) (calls : List Call) (at : ℕ) (bytes : List ℕ) → is_some file ≡ false
    → told_content file (calls ++ Write at bytes true ∷ []) ≡ patched at bytes (told_content file calls)
write_puts (Some bytes_there) calls at bytes none = absurd (cc none)
write_puts None calls at bytes none = ap (λ (s : Story). s.now.content) (story_of-push calls (Write at bytes true))

pub sync_done : (E : Type 0) (file : Option (List ℕ)) (calls : List Call)
    → Syncs {E = E} (told_story file calls) (told_story file (calls ++ Sync true ∷ [])) (Ok tt)
sync_done E (Some bytes_there) calls = refl
sync_done E None calls = ap Some (story_of-push calls (Sync true))

pub sync_keeps : (file : Option (List ℕ)) (calls : List Call) → told_content file (calls ++ Sync true ∷ []) ≡ told_content file calls
sync_keeps (Some bytes_there) calls = refl
sync_keeps None calls = ap (λ (s : Story). s.now.content) (story_of-push calls (Sync true))

-- what a disk tells stays over a call that adds no moment
pub record StaysTold (file : Option (List ℕ)) (old new : List Call) : Type 0 where
  pub content_is : told_content file new ≡ told_content file old
  pub story_is : told_story file new ≡ told_story file old

stays_by : (file : Option (List ℕ)) (old new : List Call) → story_of new ≡ story_of old → StaysTold file old new
stays_by None old new same = record { content_is = ap (λ (s : Story). s.now.content) same; story_is = ap Some same }
stays_by (Some bytes_there) old new same = record { content_is = refl; story_is = refl }

pub stays_told : (file : Option (List ℕ)) (old new : List Call) (call : Call) → told_by (story_of old) call ≡ story_of old → new ≡ old ++ call ∷ []
    → StaysTold file old new
stays_told file old new call quiet is = stays_by file old new (ap story_of is ∙ story_of-push old call ∙ quiet)

-- the clock never falls
no_fewer : (story : Story) (call : Call) → length story.past ≤ length (told_by story call).past
no_fewer story Attach = omega arith
no_fewer story Size = omega arith
no_fewer story Read = omega arith
no_fewer story Refused = omega arith
no_fewer story (Write at bytes done) = omega arith
no_fewer story (Sync done) = omega arith

pub clock_rises : (old new : List Call) (call : Call) → new ≡ old ++ call ∷ [] → length (story_of old).past ≤ length (story_of new).past
clock_rises old new call is =
    subst (λ (s : Story). length (story_of old).past ≤ length s.past) (sym (ap story_of is ∙ story_of-push old call)) (no_fewer (story_of old) call)

-- what is attached is the file that is there, or an empty one
pub attach_failed : {E : Type 0} (e : E) (role : Role) (old new : Option (List ℕ)) → new ≡ old → Attaches role old new (Err e)
attach_failed e role.Read old new same = same
attach_failed e role.Create old new same = same

pub attach_done : (E : Type 0) (role : Role) (file : Option (List ℕ)) (old new : List Call) → IsThere role file → (story_of old).now ≡ settled []
    → new ≡ old ++ Attach ∷ [] → Attaches {E = E} role (Some (told_content file old)) (Some (told_content file new)) (Ok tt)
attach_done E role.Read file old new there blank is = ap Some (stays_told file old new Attach refl is).content_is
attach_done E role.Create None old new there blank is = ap Some ((stays_told None old new Attach refl is).content_is ∙ ap (λ (m : Moment). m.content) blank)
attach_done E role.Create (Some bytes_there) old new there blank is = absurd (cc there)

-- an attach leaves the present moment
pub attach_told : (calls : List Call) → (story_of (calls ++ Attach ∷ [])).now ≡ (story_of calls).now
attach_told calls = ap (λ (s : Story). s.now) (story_of-push calls Attach)
