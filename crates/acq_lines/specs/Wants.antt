-- For what memory may be wanted: only for the next line of what was read, if that says a sample of a group that there is.
use Rattle.std.specs.Prelude.{ℕ, Bool, false, List, [], ◌∷◌, length, nat_lt, Option, Some, None}
use Rattle.script_line.specs.Line.{line_of}
use Rattle.script_line.specs.Line as line
use Rattle.acq_lines.specs.Lines.{Unread, lines_behind}
use Rattle.acq_lines.specs.Rules.{Rules}

-- a line names a group that there is
abbrev pub names_group : Rules → Option line.Line → Bool
names_group rules (Some (line.Sample group words)) = nat_lt group (length rules.shapes)
names_group rules _ = false

-- the line says a sample of a group that there is, be its values good or not
abbrev pub is_sample_line : Rules → Option (List ℕ) → Bool
is_sample_line rules (Some text) = names_group rules (line_of text)
is_sample_line rules None = false

abbrev pub begins_with_sample : Rules → List (Option (List ℕ)) → Bool
begins_with_sample rules (line ∷ lines) = is_sample_line rules line
begins_with_sample rules [] = false

abbrev pub wants_memory : Rules → Unread → Bool
wants_memory rules unread = begins_with_sample rules (lines_behind unread [])
