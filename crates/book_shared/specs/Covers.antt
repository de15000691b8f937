-- What a seat that others were joined into knows of them.
use Rattle.std.specs.Prelude.{ℕ, ◌≡◌, ◌<◌, true, List, [], ◌∷◌}
use mathlib.Core.List.{IsPrefix}
use Rattle.mdf_layout.specs.History.{source_samples}
use Rattle.mdf_layout.specs.declared.sample.Sample.{Sample}
use Rattle.book_owned.specs.declared.mark.Mark.{Mark}
use Rattle.book_shared.specs.Rule.{times_in, AreOwn, AreOld}
use Rattle.book_shared.specs.Place.{Place, own_part}
use Rattle.book_shared.specs.declared.view.View.{View}

-- Whatever begins with what the whole seat knows begins with what this one knew; its list is one of the whole seat's; and the
-- whole seat knows of a stop where this one did.
pub record Covers (whole : View) (seat : Place) : Type 0 where
  pub reaches : (history : List Sample) (marks : List Mark) → IsPrefix whole.seen history → IsPrefix whole.kept marks → AreOld history marks whole.olds
      → IsPrefix seat.know.seen history × IsPrefix seat.know.kept marks
  pub owns : (owners : List ℕ) (history : List Sample) → AreOwn owners history whole.mine → own_part seat.know.mine ≡ source_samples owners history seat.number
  pub knew : seat.know.knows ≡ true → whole.knows ≡ true
  pub counts : 0 < times_in seat.number whole.mine

-- each of these
abbrev pub AreCovered : View → List Place → Type 0
AreCovered whole [] = Unit {0}
AreCovered whole (seat ∷ seats) = Covers whole seat × AreCovered whole seats
