-- Bytes are one list of records.
use Rattle.std.proofs.Common.{◌≡◌, ℕ, List, sym, ◌∙◌}
use Rattle.mdf_layout.specs.Layout.{Layout}
use Rattle.mdf_layout.specs.Read.{Piece}
use Rattle.mdf_layout.proofs.Pieces.{pieces_once}
use Rattle.mdf_schedule.specs.Records.{AreRecords}

pub records_once : (layouts : List Layout) (bytes : List ℕ) (records others : List Piece) → AreRecords layouts bytes records → AreRecords layouts bytes others
    → records ≡ others
records_once layouts bytes records others one two =
    pieces_once layouts records others one.each two.each (sym one.bytes_are ∙ two.bytes_are)
