use Rattle.std.proofs.Common.{◌≡◌, take}
use Rattle.mdf_disk.specs.Tape.{story_of}
use Rattle.mdf_disk.specs.Image.{image_of}
use Rattle.mdf_disk.proofs.image.image.Given as goal

abbrev pub invariant-loop-call : goal.invariant-loop-call
invariant-loop-call l = record {
  content_is : l.content.items ≡ (story_of (take l.call-index l.calls)).now.content;
  image_is : l.image.items ≡ image_of l.pick (story_of (take l.call-index l.calls)).now;
}
