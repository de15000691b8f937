-- What a book keeps of the chunks that its view shows.
use Rattle.std.specs.Prelude.{◌≡◌, ◌+◌, ◌≤◌, ℕ, List, length, take}
use mathlib.Core.List.{IsPrefix}
use Rattle.mdf_layout.specs.Chunked.{joined, start_of}
use Rattle.mdf_layout.specs.declared.sample.Sample.{Sample}
use Rattle.book_owned.specs.Members.{ViewOf}

-- The view shows the chunks before one of them, and handed on no samples but theirs and those of that one.
pub record IsShared {V N : Type 0} (view : ViewOf V N) (now : V) (chunks : List (List Sample)) : Type 0 where
  pub place : ℕ
  pub there : place ≤ length chunks
  pub count_is : view.count now ≡ start_of chunks place
  pub shown : view.shows now (joined (take place chunks))
  pub handed : (handed : List Sample) → view.hands now handed → IsPrefix handed (joined (take (place + 1) chunks))
