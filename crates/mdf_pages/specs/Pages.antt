-- What contracts see of the pages of a disk.
use Rattle.std.specs.Prelude.{ℕ, List, Result, Ok, Err}
use Rattle.mdf_disk.specs.declared.disk.Disk.{Ghosts}
use Rattle.mdf_pages.specs.declared.pages.Pages.{Pages}

-- the disk, and the pages that are kept with their bytes, the one that was used last first
abbrev pub disk_of : {D : Type 0} {tells : Ghosts D} → Pages D tells → D
disk_of pages = pages.disk

abbrev pub kept_of : {D : Type 0} {tells : Ghosts D} → Pages D tells → List (ℕ × List ℕ)
kept_of pages = pages.cache

-- the disk of pages that were begun, or else the disk that is handed back
abbrev pub disk_then : {D E : Type 0} {tells : Ghosts D} → Result (Pages D tells) (E × D) → D
disk_then (Ok pages) = pages.disk
disk_then (Err refused) = refused.1
