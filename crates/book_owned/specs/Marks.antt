-- Marks, the newest last.
use Rattle.std.specs.Prelude.{ℕ, ◌≡◌, ◌≤◌, ◌<◌, Bool, List, fold, AllPairs, slice_get, IsSomeAnd}
use Rattle.std.specs.Bool.{OnTrue}
use Rattle.book_owned.specs.declared.mark.Mark.{Mark}

-- the last mark
abbrev pub last_mark : List Mark → Mark
last_mark marks = fold (λ before mark. mark) (record { moment = 0; through = 0 }) marks

-- how many samples are durable: those through the last mark
abbrev pub durable : List Mark → ℕ
durable marks = (last_mark marks).through

-- the later mark has more samples, and is of a later moment where the disk tells its moments
pub record Rises (told : Bool) (mark later : Mark) : Type 0 where
  pub through : mark.through < later.through
  pub moment : mark.moment ≤ later.moment
  pub strictly : OnTrue told (mark.moment < later.moment)

-- the first mark has no samples, and the others rise
pub record AreRising (told : Bool) (marks : List Mark) : Type 0 where
  pub first : IsSomeAnd (slice_get marks 0) (λ mark. mark.through ≡ 0)
  pub rise : AllPairs (Rises told) marks
