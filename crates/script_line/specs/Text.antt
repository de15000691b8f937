-- Texts that separators cut into parts: a script into lines, and a line into words.
use Rattle.std.specs.Prelude.{ℕ, ◌≡◌, ◌+◌, ◌-◌, Bool, true, false, ◌&&◌, nat_lt, nat_le, ◌==◌, List, [], ◌∷◌, length, slice_index, Option, Some, None}
use Rattle.std.specs.List.{slice_split, list_all}
use Rattle.std.specs.Char.{is_ascii_graphic}
use denote.Ref.{Bor}

-- the parts before, between and behind the separators; there is one more part than there are separators
abbrev pub parts_of : ℕ → List ℕ → List (List ℕ)
parts_of separator text = slice_split (λ b. b == separator) text

-- the lines of a script, each without its LF, and behind them what stands behind the last LF
abbrev pub lines_of : List ℕ → List (List ℕ)
lines_of script = parts_of 10 script

-- the words of a line
abbrev pub words_of : List ℕ → List (List ℕ)
words_of line = parts_of 32 line

-- the parts behind a separator, if there was one
abbrev pub parts_left : ℕ → Option (Bor (List ℕ)) → List (List ℕ)
parts_left separator None = []
parts_left separator (Some text) = parts_of separator text.now

-- the words behind a blank, if there was one
abbrev pub words_left : Option (Bor (List ℕ)) → List (List ℕ)
words_left words = parts_left 32 words

-- no part is left
abbrev pub is_end : List (List ℕ) → Bool
is_end [] = true
is_end (part ∷ parts) = false

-- how many bytes are behind a separator, the separator counted
abbrev pub bytes_left : Option (Bor (List ℕ)) → ℕ
bytes_left None = 0
bytes_left (Some text) = length text.now + 1

-- the word begins with this byte; it ends with `?`
abbrev pub begins_with : ℕ → List ℕ → Bool
begins_with byte word = nat_lt 0 (length word) && slice_index word 0 == byte

abbrev pub is_marked : List ℕ → Bool
is_marked word = nat_lt 0 (length word) && slice_index word (length word - 1) == 63

-- a word that can be a name: 1 to 64 bytes from 0x21 to 0x7E
abbrev pub is_name : List ℕ → Bool
is_name word = nat_lt 0 (length word) && nat_le (length word) 64 && list_all is_ascii_graphic word

-- the first word of a text is read as this, and these words stand behind it
pub record Begins {A : Type 0} (read : List ℕ → Option A) (text : List ℕ) (x : A) (words : List (List ℕ)) : Type 0 where
  pub word : List ℕ
  pub first : words_of text ≡ word ∷ words
  pub is : read word ≡ Some x

-- the first word of a text is read as nothing
pub record Refuses {A : Type 0} (read : List ℕ → Option A) (text : List ℕ) : Type 0 where
  pub word : List ℕ
  pub words : List (List ℕ)
  pub first : words_of text ≡ word ∷ words
  pub is : read word ≡ None
