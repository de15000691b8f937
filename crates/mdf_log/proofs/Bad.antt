-- The line of a source with bad lines.
use Rattle.std.proofs.Common.{◌≡◌, ◌<◌, ℕ, zero, suc, [], ◌∷◌, refl, arith}
use Rattle.std.specs.Prelude.{codes}
use Rattle.std.specs.Fmt.{decimal}
use Rattle.mdf_command.specs.Texts.{line}
use Rattle.mdf_log.specs.Report.{bad_line}

pub bad_some : (source n : ℕ) → 0 < n → line (codes "source " ∷ decimal source ∷ codes " refused " ∷ decimal n ∷ []) ≡ bad_line source n
bad_some source zero some = absurd (omega (arith, some))
bad_some source (suc n) some = refl
