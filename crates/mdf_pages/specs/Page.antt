-- Pages of a file, each of 65,536 bytes, the last one shorter; and the pages that are kept, the one used last first.
use Rattle.std.specs.Prelude.{ℕ, Bool, ◌≡◌, ◌+◌, ◌-◌, ◌*◌, ◌/◌, ◌<◌, ◌≤◌, min, List, [], ◌∷◌, length, take, Option, Some, None, is_some, nat_eq, Contains, IsTrue}
use Rattle.std.specs.Map.{lookup}
use Rattle.mdf_format.specs.Number.{bytes_at}

-- the page of a file, by its number from 0
abbrev pub page_of : List ℕ → ℕ → List ℕ
page_of file page = bytes_at 65536 file (65536 * page)

-- how many bytes it has, in a file of so many
abbrev pub page_size : ℕ → ℕ → ℕ
page_size size page = min 65536 (size - 65536 * page)

-- these bytes are the page of a file of so many bytes, as far as those are told
abbrev pub IsPageOf : Option (List ℕ) → ℕ → ℕ → List ℕ → Type 0
IsPageOf told size page bytes =
    (length bytes ≡ page_size size page) × ((file : List ℕ) → told ≡ Some file → bytes ≡ page_of file page)

-- so are all that are kept
abbrev pub ArePages : Option (List ℕ) → ℕ → List (ℕ × List ℕ) → Type 0
ArePages told size kept = (page : ℕ) (bytes : List ℕ) → Contains kept (page, bytes) → IsPageOf told size page bytes

-- whether a page is kept, and which one stands first
abbrev pub is_kept : ℕ → List (ℕ × List ℕ) → Bool
is_kept page kept = is_some (lookup (nat_eq page) kept)

abbrev pub first_page : List (ℕ × List ℕ) → Option ℕ
first_page [] = None
first_page (entry ∷ entries) = Some entry.0

-- every page of the range of `len` bytes from a place on is kept
abbrev pub AreKept : ℕ → ℕ → List (ℕ × List ℕ) → Type 0
AreKept at len kept = (place : ℕ) → at ≤ place → place < at + len → IsTrue (is_kept (place / 65536) kept)

-- the bytes of a range lie in one page
abbrev pub AreOfOnePage : ℕ → ℕ → Type 0
AreOfOnePage at len = (at + len - 1) / 65536 ≡ at / 65536

-- each page that was kept is kept still
abbrev pub StillKept : List (ℕ × List ℕ) → List (ℕ × List ℕ) → Type 0
StillKept old new = (page : ℕ) → IsTrue (is_kept page old) → IsTrue (is_kept page new)

-- one page more, which stands first; of 256 the one that was used least lately goes
abbrev pub with_page : ℕ → List ℕ → List (ℕ × List ℕ) → List (ℕ × List ℕ)
with_page page bytes kept = (page, bytes) ∷ take 255 kept
