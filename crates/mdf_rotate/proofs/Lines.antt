-- The lines of the parts.
use Rattle.std.proofs.Common.{◌≡◌, ◌+◌, ◌∙◌, ℕ, List, [], ◌∷◌, ◌++◌, refl, ap}
use Rattle.std.specs.Prelude.{codes}
use Rattle.std.specs.Fmt.{decimal}
use Rattle.mdf_command.specs.Texts.{line, numbered}
use Rattle.mdf_rotate.specs.Text.{Recording, begun_count, end_line, part_line, record_of, records_of, sample_count}
use Rattle.mdf_rotate.specs.declared.course.RotateEnd.TheVariants.{Whole}
use Rattle.mdf_rotate.specs.declared.part.Part.{Part}

-- the line of a part
abbrev pub part_text : {C : Type 0} → ℕ → Part C → List ℕ
part_text number part = part_line number (record_of part)

pub numbered_records : {C : Type 0} (from : ℕ) (parts : List (Part C)) → numbered part_text from parts ≡ numbered part_line from (records_of parts)
numbered_records from [] = refl
numbered_records from (part ∷ parts) = ap (λ rest. part_text from part ++ rest) (numbered_records (from + 1) parts)

-- the last line of a rotation that recorded all
pub whole_line : (lefts : List Recording) (begun samples : ℕ) → begun ≡ begun_count lefts → samples ≡ sample_count lefts
    → line (codes "parts " ∷ decimal begun ∷ codes " samples " ∷ decimal samples ∷ []) ≡ end_line lefts Whole
whole_line lefts begun samples begun_is samples_are =
    ap (λ n. line (codes "parts " ∷ decimal n ∷ codes " samples " ∷ decimal samples ∷ [])) begun_is
    ∙ ap (λ n. line (codes "parts " ∷ decimal (begun_count lefts) ∷ codes " samples " ∷ decimal n ∷ [])) samples_are
