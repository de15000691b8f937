-- The story of a disk in memory that began with no file, by the calls that it recorded.
use Rattle.std.specs.Prelude.{ℕ, ◌≡◌, ◌≤◌, Bool, List, [], ◌∷◌, length, fold, true, false, Option, Some, None, refl}
use Rattle.std.specs.List.{AllByRecursion}
use Rattle.mdf_format.specs.Number.{patched}
use Rattle.mdf_disk.specs.Story.{Moment, Story, MayLeave, Agrees, IsFresh, settled}
use Rattle.mdf_disk.specs.Calls.{range_of, touched, followed_by}
use Rattle.mdf_disk.specs.declared.call.Call.{Call}
use Rattle.mdf_disk.specs.declared.call.Call.TheVariants.{Write, Sync}

-- the moment inside a call
abbrev pub inside : Call → Moment → Moment
inside (Write at bytes true) moment = touched (range_of at (length bytes)) (patched at bytes moment.content) moment
inside (Write at bytes false) moment = touched (range_of at (length bytes)) moment.content moment
inside call moment = moment

-- the moment after a call
abbrev pub after : Call → Moment → Moment
after (Sync true) moment = settled moment.content
after call moment = inside call moment

-- the story goes on by one moment in each write and each sync
abbrev pub told_by : Story → Call → Story
told_by story (Write at bytes done) = followed_by story (after (Write at bytes done) story.now)
told_by story (Sync done) = followed_by story (after (Sync done) story.now)
told_by story call = story

-- before the first call: no file, which a crash leaves as the empty file
abbrev pub first_story : Story
first_story = record { now = settled []; past = [] }

abbrev pub story_of : List Call → Story
story_of calls = fold told_by first_story calls

-- the moments of a story, the newest first
abbrev pub moments_of : Story → List Moment
moments_of story = story.now ∷ story.past

-- what a call makes of the content, and how many moments it adds
abbrev pub content_after : Call → List ℕ → List ℕ
content_after (Write at bytes true) content = patched at bytes content
content_after call content = content

abbrev pub ticks_of : Call → ℕ
ticks_of (Write at bytes done) = 1
ticks_of (Sync done) = 1
ticks_of call = 0

-- what a tape keeps besides its calls
pub record IsTape (calls : List Call) (content : List ℕ) (clock : ℕ) : Type 0 where
  pub content_is : content ≡ (story_of calls).now.content
  pub clock_is : clock ≡ length (story_of calls).past
  pub counted : clock ≤ length calls
  pub possible : AllByRecursion (λ moment. MayLeave moment moment.content) (moments_of (story_of calls))

-- a call that a disk with this content can record: what is written begins within it
abbrev pub IsRecordable : Call → List ℕ → Type 0
IsRecordable (Write at bytes done) content = at ≤ length content
IsRecordable call content = Unit {0}

-- A disk that held a file at first tells that file and no story. Another tells the story of its calls.
abbrev pub told_content : Option (List ℕ) → List Call → List ℕ
told_content None calls = (story_of calls).now.content
told_content (Some file) calls = file

abbrev pub told_story : Option (List ℕ) → List Call → Option Story
told_story None calls = Some (story_of calls)
told_story (Some file) calls = None

-- why the story that is told, the content and the clock agree
pub told_agrees : (file : Option (List ℕ)) (calls : List Call) → MayLeave (story_of calls).now (story_of calls).now.content
    → Agrees (told_story file calls) (Some (told_content file calls)) (length (story_of calls).past)
told_agrees None calls possible = record { content_is = refl; moment_is = refl; possible = possible }
told_agrees (Some file) calls possible = tt

-- and why the empty file is all that a crash can leave of a disk that is not attached
pub told_unattached : (attached : Bool) (file : Option (List ℕ)) (calls : List Call)
    → (attached ≡ false → (story_of calls).now ≡ settled []) → attached ≡ false → IsFresh (told_story file calls)
told_unattached attached None calls unused not = unused not
told_unattached attached (Some file) calls unused not = tt
