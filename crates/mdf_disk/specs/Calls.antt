-- What the calls of a disk do to what it tells: one relation a call.
use Rattle.std.specs.Prelude.{◌≡◌, ◌⊎◌, ℕ, ◌+◌, List, [], ◌∷◌, length, Option, Some, None, is_some, Result, Ok, Err}
use Rattle.std.specs.Option.{option_map}
use Rattle.mdf_format.specs.Number.{patched}
use Rattle.mdf_disk.specs.Story.{Range, Moment, Story, MayLeave, settled}
use Rattle.mdf_disk.specs.declared.role.Role.{Role}
use Rattle.mdf_disk.specs.declared.role.Role.TheVariants.{Read, Create}

-- attach: for reading, the content is that of the file; a file made new is empty
abbrev pub Attaches : {E : Type 0} → Role → Option (List ℕ) → Option (List ℕ) → Result Unit E → Type 0
Attaches Read old new result = new ≡ old
Attaches Create old new (Ok _) = new ≡ option_map (λ _. []) old
Attaches Create old new (Err _) = new ≡ old

-- the range that so many bytes from a place on fill
abbrev pub range_of : ℕ → ℕ → Range
range_of at count = record { first = at; behind = at + count }

-- the moment since a write into a range began, with this content
abbrev pub touched : Range → List ℕ → Moment → Moment
touched range content moment = record { stable = moment.stable; writes = range ∷ moment.writes; content = content }

-- the story with one moment more
abbrev pub followed_by : Story → Moment → Story
followed_by story moment = record { now = moment; past = story.now ∷ story.past }

-- A call failed on the way to a moment: the story is as it was, or has that moment with a content that a crash may leave.
abbrev pub FailsOnTheWay : Option Story → Story → (List ℕ → Moment) → Type 0
FailsOnTheWay new story moment =
    (new ≡ Some story) ⊎ ((content : List ℕ) × MayLeave (moment content) content × (new ≡ Some (followed_by story (moment content))))

-- write_at, in the story
abbrev pub Writes : {E : Type 0} → Option Story → Option Story → ℕ → List ℕ → Result Unit E → Type 0
Writes None new at bytes result = new ≡ None
Writes (Some story) new at bytes (Ok _) =
    new ≡ Some (followed_by story (touched (range_of at (length bytes)) (patched at bytes story.now.content) story.now))
Writes (Some story) new at bytes (Err _) =
    FailsOnTheWay new story (λ content. touched (range_of at (length bytes)) content story.now)

-- write_at, in the content
abbrev pub Patches : {E : Type 0} → Option (List ℕ) → Option (List ℕ) → ℕ → List ℕ → Result Unit E → Type 0
Patches old new at bytes (Ok _) = new ≡ option_map (patched at bytes) old
Patches old new at bytes (Err _) = is_some new ≡ is_some old

-- sync, in the story
abbrev pub Syncs : {E : Type 0} → Option Story → Option Story → Result Unit E → Type 0
Syncs None new result = new ≡ None
Syncs (Some story) new (Ok _) = new ≡ Some (followed_by story (settled story.now.content))
Syncs (Some story) new (Err _) =
    FailsOnTheWay new story (λ content. record { stable = story.now.stable; writes = story.now.writes; content = content })

-- sync, in the content
abbrev pub Keeps : {E : Type 0} → Option (List ℕ) → Option (List ℕ) → Result Unit E → Type 0
Keeps old new (Ok _) = new ≡ old
Keeps old new (Err _) = is_some new ≡ is_some old
