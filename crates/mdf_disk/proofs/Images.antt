-- What a crash may leave goes on over writes and syncs.
use Rattle.std.proofs.Common.{ℕ, ◌≤◌, List, length, refl, ◌∙◌, arith}
use Rattle.mdf_format.specs.Number.{patched}
use Rattle.mdf_disk.specs.Story.{Range, Moment, MayLeave, settled}
use Rattle.mdf_disk.specs.Calls.{range_of, touched}
use Rattle.mdf_disk.proofs.Patches.{length-patched, get_or-patched}

-- what could be left before a write began can be left after
pub left_untouched : (moment : Moment) (range : Range) (content file : List ℕ) → MayLeave moment file → MayLeave (touched range content moment) file
left_untouched moment range content file left = record {
  not_shorter = left.not_shorter;
  not_longer = omega (arith, left.not_longer);
  kept = λ place below outside. left.kept place below outside.1;
}

-- and so can it with the bytes of the write, or with other bytes in the range
pub left_patched : (moment : Moment) (at : ℕ) (part content file : List ℕ) → at ≤ length file → MayLeave moment file
    → MayLeave (touched (range_of at (length part)) content moment) (patched at part file)
left_patched moment at part content file within left =
    let long = length-patched at part file within in record {
      not_shorter = omega (arith, long, left.not_shorter);
      not_longer = omega (arith, long, left.not_longer);
      kept = λ place below outside. get_or-patched at part file within place outside.0 ∙ left.kept place below outside.1;
    }

pub left_settled : (content : List ℕ) → MayLeave (settled content) content
left_settled content = record { not_shorter = omega arith; not_longer = omega arith; kept = λ place below outside. refl }
