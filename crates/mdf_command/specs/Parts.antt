-- The lines of the faults by their parts.
use Rattle.std.specs.Prelude.{ℕ, List, [], ◌∷◌}
use Rattle.std.specs.Fmt.{decimal}
use Rattle.mdf_block.specs.Refusal as refusals
use Rattle.mdf_command.specs.Texts.{line}
use Rattle.mdf_command.specs.Faults.{refusal_line, text_line, texts_line}
use Rattle.mdf_command.specs.declared.parts.Parts.{Parts}
use Rattle.mdf_command.specs.declared.parts.Parts.TheVariants as parts

-- what these parts print
abbrev pub parts_line : Parts → List ℕ
parts_line (parts.Words text) = line (text.now ∷ [])
parts_line (parts.One text n) = text_line text.now n
parts_line (parts.Two text n more m) = texts_line text.now n more.now m
parts_line (parts.Three first n second m third k) =
    line (first.now ∷ decimal n ∷ second.now ∷ decimal m ∷ third.now ∷ decimal k ∷ [])
parts_line (parts.Block at want) = refusal_line (refusals.Bad at want)
parts_line (parts.Many what at) = refusal_line (refusals.TooMany what at)
