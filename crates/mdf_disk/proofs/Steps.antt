-- An image goes on, call by call, as the story does.
use Rattle.std.proofs.Common.{◌≡◌, ℕ, ◌+◌, ◌-◌, List, [], length, replicate, true, false, refl, ap, arith}
use Rattle.mdf_format.specs.Number.{patched}
use Rattle.mdf_disk.specs.Story.{Moment, Story}
use Rattle.mdf_disk.specs.Tape.{told_by, inside, content_after}
use Rattle.mdf_disk.specs.Image.{filled, image_of, image_begun, image_ended}
use Rattle.mdf_disk.specs.declared.call.Call.{Call}
use Rattle.mdf_disk.specs.declared.call.Call.TheVariants.{Attach, Size, Read, Refused, Write, Sync}
use Rattle.mdf_disk.specs.declared.image.Pick.{Pick}
use Rattle.mdf_disk.specs.declared.image.Pick.TheVariants.{Stable, Content, Filled}

-- inside a call
filled_up : (byte at : ℕ) (bytes : List ℕ) (moment : Moment)
    → patched at (replicate (length bytes) byte) (filled byte moment.stable moment.writes) ≡ patched at (replicate (at + length bytes - at) byte) (filled byte moment.stable moment.writes)
filled_up byte at bytes moment =
    let count : length bytes ≡ at + length bytes - at = omega arith in
    ap (λ (n : ℕ). patched at (replicate n byte) (filled byte moment.stable moment.writes)) count

pub image_inside_is : (pick : Pick) (call : Call) (moment : Moment) → image_begun pick call (image_of pick moment) ≡ image_of pick (inside call moment)
image_inside_is Stable Attach moment = refl
image_inside_is Stable Size moment = refl
image_inside_is Stable Read moment = refl
image_inside_is Stable Refused moment = refl
image_inside_is Stable (Write at bytes true) moment = refl
image_inside_is Stable (Write at bytes false) moment = refl
image_inside_is Stable (Sync done) moment = refl
image_inside_is Content Attach moment = refl
image_inside_is Content Size moment = refl
image_inside_is Content Read moment = refl
image_inside_is Content Refused moment = refl
image_inside_is Content (Write at bytes true) moment = refl
image_inside_is Content (Write at bytes false) moment = refl
image_inside_is Content (Sync done) moment = refl
image_inside_is (Filled byte) Attach moment = refl
image_inside_is (Filled byte) Size moment = refl
image_inside_is (Filled byte) Read moment = refl
image_inside_is (Filled byte) Refused moment = refl
image_inside_is (Filled byte) (Write at bytes true) moment = filled_up byte at bytes moment
image_inside_is (Filled byte) (Write at bytes false) moment = filled_up byte at bytes moment
image_inside_is (Filled byte) (Sync done) moment = refl

-- behind a call
pub content_after_is : (call : Call) (story : Story) → content_after call story.now.content ≡ (told_by story call).now.content
content_after_is Attach story = refl
content_after_is Size story = refl
content_after_is Read story = refl
content_after_is Refused story = refl
content_after_is (Write at bytes true) story = refl
content_after_is (Write at bytes false) story = refl
content_after_is (Sync true) story = refl
content_after_is (Sync false) story = refl

after_sync : (pick : Pick) (content : List ℕ) → content ≡ image_of pick (record { stable = content; writes = []; content = content })
after_sync Stable content = refl
after_sync Content content = refl
after_sync (Filled byte) content = refl

pub image_after_is : (pick : Pick) (call : Call) (story : Story)
    → image_ended call (told_by story call).now.content (image_of pick (inside call story.now)) ≡ image_of pick (told_by story call).now
image_after_is pick Attach story = refl
image_after_is pick Size story = refl
image_after_is pick Read story = refl
image_after_is pick Refused story = refl
image_after_is pick (Write at bytes true) story = refl
image_after_is pick (Write at bytes false) story = refl
image_after_is pick (Sync true) story = after_sync pick story.now.content
image_after_is pick (Sync false) story = refl
