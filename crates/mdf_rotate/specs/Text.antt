-- What a rotation prints.
use Rattle.std.specs.Prelude.{ℕ, suc, ◌+◌, List, [], ◌∷◌, ◌++◌, length, map, codes}
use Rattle.std.specs.Fmt.{decimal}
use Rattle.book_owned.specs.Marks.{durable}
use Rattle.book_owned.specs.declared.mark.Mark.{Mark}
use Rattle.mdf_command.specs.Faults.{fault_line, fault_status}
use Rattle.mdf_command.specs.Texts.{line, numbered}
use Rattle.mdf_layout.specs.declared.sample.Sample.{Sample}
use Rattle.mdf_rotate.specs.declared.part.Part.{Part}
use Rattle.mdf_rotate.specs.declared.course.RotateEnd.{RotateEnd}
use Rattle.mdf_rotate.specs.declared.course.RotateEnd.TheVariants.{Whole, Over, Faulted}

-- what was recorded of a part: its samples and its marks
pub record Recording : Type 0 where
  pub history : List Sample
  pub marks : List Mark

abbrev pub record_of : {C : Type 0} → Part C → Recording
record_of part = record { history = part.history.items; marks = part.marks.items }

abbrev pub records_of : {C : Type 0} → List (Part C) → List Recording
records_of parts = map record_of parts

-- a part that was begun has marks: this is said of it, or that of one that was not
abbrev pub by_marks : {A : Type 0} → List Mark → A → A → A
by_marks [] begun other = other
by_marks (mark ∷ marks) begun other = begun

-- the line of a part, if it was begun: how many samples it has, and how many of them are durable
abbrev pub part_line : ℕ → Recording → List ℕ
part_line number left = by_marks left.marks
    (line (codes "part " ∷ decimal number ∷ codes " samples " ∷ decimal (length left.history) ∷ codes " durable " ∷ decimal (durable left.marks) ∷ [])) []

-- how many parts were begun, and how many samples all have
abbrev pub begun_count : List Recording → ℕ
begun_count [] = 0
begun_count (left ∷ lefts) = by_marks left.marks (suc (begun_count lefts)) (begun_count lefts)

abbrev pub sample_count : List Recording → ℕ
sample_count [] = 0
sample_count (left ∷ lefts) = length left.history + sample_count lefts

-- the last line
abbrev pub end_line : List Recording → RotateEnd → List ℕ
end_line lefts Whole = line (codes "parts " ∷ decimal (begun_count lefts) ∷ codes " samples " ∷ decimal (sample_count lefts) ∷ [])
end_line lefts Over = line (codes "parts over " ∷ decimal (length lefts) ∷ [])
end_line lefts (Faulted fault) = fault_line fault

abbrev pub rotate_text : List Recording → RotateEnd → List ℕ
rotate_text lefts end = numbered part_line 0 lefts ++ end_line lefts end

abbrev pub rotate_status : RotateEnd → ℕ
rotate_status Whole = 0
rotate_status Over = 5
rotate_status (Faulted fault) = fault_status fault
