-- What a link leads to, where 0 names nothing.
use Rattle.std.specs.Prelude.{ℕ, nat_eq, if◌then◌else◌, List, Option, Some, None, Ok}
use Rattle.mdf_block.specs.Refusal.{Read, ◌>>=◌}
use Rattle.mdf_conv.specs.declared.limits.Budget.{Budget}
use Rattle.mdf_conv.specs.declared.row.SourceInfo.{SourceInfo}
use Rattle.mdf_conv.specs.declared.row.Conversion.{Conversion}
use Rattle.mdf_conv.specs.Conv.{source, conversion}

-- the source that a link names
unfoldable pub source_of_link : List ℕ → ℕ → Budget → Read (Option SourceInfo × Budget)
source_of_link file at left =
    if nat_eq at 0 then Ok (None, left) else (source file at left >>= λ found. Ok (Some found.0, found.1))

-- the conversion that a link names
unfoldable pub conv_of_link : List ℕ → ℕ → Budget → Read (Option Conversion × Budget)
conv_of_link file at left =
    if nat_eq at 0 then Ok (None, left) else (conversion file at left >>= λ found. Ok (Some found.0, found.1))
