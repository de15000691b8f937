-- What the content of a file at rest holds.
use Rattle.std.proofs.Common.{◌≤◌, ℕ, List, length, Option, Some, None, subst}
use Rattle.std.specs.Prelude.{IfSome}
use Rattle.std.specs.List.{All}
use Rattle.mdf_disk.specs.Story.{Story}
use Rattle.mdf_layout.specs.Layout.{Layout}
use Rattle.mdf_layout.specs.declared.sample.Sample.{Sample}
use Rattle.mdf_gate.specs.Carried.{IsCarried, IsEncoded}
use Rattle.mdf_gate.proofs.Carrying.{rests_carry}
use Rattle.mdf_gate.proofs.Rested.{rested_once}
use Rattle.book_owned.specs.Kept.{HasBlocksOf}
use Rattle.book_owned.specs.BackHalf.{IsWritten}

-- the samples of its blocks, as they are written, and no longer block than one of these
pub rests_hold : (layouts : List Layout) (content : Option (List ℕ)) (story : Option Story) (first place most : ℕ) (samples : List Sample)
    → IsWritten content story first place most layouts samples
    → IfSome content (λ file. IsCarried layouts file samples × IsEncoded layouts file samples × HasBlocksOf most file)
rests_hold layouts None story first place most samples written = tt
rests_hold layouts (Some file) story first place most samples written =
    let both = rests_carry layouts (Some file) story first place written.blocks samples written.rests written.records in (
      both.0,
      both.1,
      λ others opened.
          subst (All (λ body. length body ≤ most)) (rested_once first written.blocks others place file written.rests.rests opened) written.within,
    )
