-- Files that a crash inside a recorded call may leave.
use Rattle.std.specs.Prelude.{ℕ, ◌-◌, ◌==◌, if◌then◌else◌, List, [], ◌∷◌, length, take, replicate, true, get_or, Option, Some, None}
use Rattle.mdf_format.specs.Number.{patched}
use Rattle.mdf_disk.specs.Story.{Range, Moment}
use Rattle.mdf_disk.specs.Tape.{story_of, inside, content_after}
use Rattle.mdf_disk.specs.declared.call.Call.{Call}
use Rattle.mdf_disk.specs.declared.call.Call.TheVariants.{Attach, Write, Sync}
use Rattle.mdf_disk.specs.declared.image.Pick.{Pick}
use Rattle.mdf_disk.specs.declared.image.Pick.TheVariants.{Stable, Content, Filled}

-- the moment inside call k, counted from 0, and the number of the moment before it
abbrev pub moment_inside : List Call → ℕ → Moment
moment_inside calls k = inside (get_or calls k Attach) (story_of (take k calls)).now

abbrev pub moment_before : List Call → ℕ → ℕ
moment_before calls k = length (story_of (take k calls)).past

-- the stable bytes, with this byte everywhere in the ranges written since
abbrev pub filled : ℕ → List ℕ → List Range → List ℕ
filled byte stable [] = stable
filled byte stable (range ∷ writes) =
    patched range.first (replicate (range.behind - range.first) byte) (filled byte stable writes)

-- the file that a pick names
abbrev pub image_of : Pick → Moment → List ℕ
image_of Stable moment = moment.stable
image_of Content moment = moment.content
image_of (Filled byte) moment = filled byte moment.stable moment.writes

-- the pick of a number: 0 none of what was written since the last sync, 1 all of it, 2 each byte of it 0xFF, 3 `#`
abbrev pub pick_of : ℕ → Pick
pick_of n = if n == 0 then Stable else (if n == 1 then Content else (if n == 2 then Filled 255 else Filled 35))

-- what the beginning of a call makes of an image, and what its end does
abbrev pub image_begun : Pick → Call → List ℕ → List ℕ
image_begun Stable call image = image
image_begun Content call image = content_after call image
image_begun (Filled byte) (Write at bytes done) image = patched at (replicate (length bytes) byte) image
image_begun (Filled byte) call image = image

abbrev pub image_ended : Call → List ℕ → List ℕ → List ℕ
image_ended (Sync true) content image = content
image_ended call content image = image

-- the image inside call k of a disk: of one that held a file at first, that file
abbrev pub image_inside : Option (List ℕ) → List Call → ℕ → Pick → List ℕ
image_inside None calls k pick = image_of pick (moment_inside calls k)
image_inside (Some file) calls k pick = file
