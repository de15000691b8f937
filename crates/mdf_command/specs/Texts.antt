-- What is printed, and what becomes of it.
use Rattle.std.specs.Prelude.{ℕ, ◌≡◌, ◌⊎◌, ◌==◌, nat_lt, nat_eq, ◌||◌, if◌then◌else◌, ◌+◌, List, [], ◌∷◌, ◌++◌, Result, Ok, Err, OnOk, OnErr, codes}
use Rattle.std.specs.List.{flat_map}
use Rattle.std.specs.Fmt.{decimal}
use Rattle.std.specs.Io.KnownBytes.{Appends}
use Rattle.mdf_format.specs.Cause.{Rose, HasCause}
use Rattle.mdf_port.specs.Sink.{AppendsFront}
use Rattle.mdf_port.specs.State.{SinkState}
use Rattle.mdf_command.specs.declared.report.Piece.{Piece}
use Rattle.mdf_command.specs.declared.report.Piece.TheVariants.{Text, Number, Sum, Name}

-- a line of these pieces, which ends with LF
abbrev pub line : List (List ℕ) → List ℕ
line [] = 10 ∷ []
line (piece ∷ pieces) = piece ++ line pieces

abbrev pub usage_line : List ℕ
usage_line =
    line (codes "usage: opened IN | record OUT | finalize IN OUT | check IN | info IN | sort IN OUT | cut IN OUT FROM TO | concat A B OUT | export IN GROUP | gen N OUT | attachments IN | attach A B OUT | rotate OUT" ∷ [])

-- what is printed of a name's byte: `?` for a control character
abbrev pub shown : ℕ → List ℕ
shown byte = if nat_lt byte 32 || nat_eq byte 127 then codes "?" else byte ∷ []

-- what is printed of a name: `-` of an empty one
abbrev pub shown_text : List ℕ → List ℕ
shown_text [] = codes "-"
shown_text (byte ∷ bytes) = flat_map shown (byte ∷ bytes)

-- what a part of a line prints
abbrev pub piece_text : Piece → List ℕ
piece_text (Text text) = text.now
piece_text (Number n) = decimal n
piece_text (Sum n) = decimal n
piece_text (Name name) = shown_text name.now

abbrev pub pieces_text : List Piece → List ℕ
pieces_text pieces = flat_map piece_text pieces

-- a text for each item, which has its number too, from this one on
abbrev pub numbered : {A : Type 0} → (ℕ → A → List ℕ) → ℕ → List A → List ℕ
numbered text number [] = []
numbered text number (item ∷ items) = text number item ++ numbered text (number + 1) items

-- A call that gives this text answers so: the whole text was given, or the sink failed and has a front of it.
pub record Gives {E : Type 0} (text : List ℕ) (old new : SinkState) (result : Result Unit E) : Type 0 where
  pub ok : OnOk result (Appends old.held new.held text)
  pub err : OnErr result (AppendsFront old.held new.held text)
  pub cause : HasCause old.faults new.faults result

-- the status where the lines of a command that ended so could not be written
abbrev pub unwritten_status : ℕ → ℕ
unwritten_status status = if status == 0 then 6 else status

abbrev pub status_after : {E : Type 0} → Result Unit E → ℕ → ℕ
status_after (Ok done) status = status
status_after (Err failed) status = unwritten_status status

-- A command that ends with this text and this status leaves a sink so: the whole text was given, and the program's
-- status is that; or the sink failed and has a front of the text, and a status 0 became 6.
abbrev pub Prints : List ℕ → ℕ → SinkState → SinkState → ℕ → Type 0
Prints text status old new result =
    (Appends old.held new.held text × (result ≡ status))
    ⊎ (AppendsFront old.held new.held text × Rose old.faults new.faults × (result ≡ unwritten_status status))
