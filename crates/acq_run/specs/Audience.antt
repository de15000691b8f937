-- What is shown of a recording, to nobody or to readers.
use Rattle.std.specs.Prelude.{ℕ, suc, ◌≡◌, List, [], length, Option, Some, None}
use Rattle.mdf_layout.specs.declared.sample.Sample.{Sample}
use Rattle.book_view.specs.Known.{Note}
use Rattle.acq_run.specs.declared.audience.Audience.{Audience}
use Rattle.acq_run.specs.declared.audience.Audience.TheVariants.{Nobody, Readers}

-- these samples are shown, or counted where nobody looks
abbrev pub shows_in : Audience → List Sample → Type 0
shows_in (Nobody view) samples = length samples ≡ view.count
shows_in (Readers view) samples = samples ≡ view.shown

-- readers may see these
abbrev pub hands_in : Audience → List Sample → Type 0
hands_in (Nobody view) samples = samples ≡ []
hands_in (Readers view) samples = samples ≡ view.handed

-- so many samples are shown
abbrev pub count_in : Audience → ℕ
count_in (Nobody view) = view.count
count_in (Readers view) = length view.shown

-- which view it is; 0 where nobody looks
abbrev pub which_in : Audience → ℕ
which_in (Nobody view) = 0
which_in (Readers view) = suc view.which

-- a note tells of these samples of this view; where nobody looks there is no note
abbrev pub tells_of : Option Note → ℕ → List Sample → Type 0
tells_of None which samples = which ≡ 0
tells_of (Some note) which samples = (note.samples ≡ samples) × (suc note.which ≡ which)

-- what was shown to readers; nothing where nobody looks
abbrev pub shown_to : Audience → Option (List Sample)
shown_to (Nobody view) = None
shown_to (Readers view) = Some view.shown
