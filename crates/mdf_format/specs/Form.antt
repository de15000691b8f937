-- The two forms of a recording, which are this project's own forms of an unfinalized file. The custom word of the
-- identification names the form.
use Rattle.std.specs.Prelude.{ℕ, ◌≡◌, ◌⊎◌, Bool, ◌||◌, nat_eq, if◌then◌else◌, List, Option, Some, None}
use Rattle.mdf_format.specs.Identification.{IsUnfinalized, custom_flags}
use Rattle.mdf_format.specs.declared.form.Form.{Form}
use Rattle.mdf_format.specs.declared.form.Form.TheVariants.{Bare, Listed}

-- the standard word and the custom word that a recording of the form is made with
abbrev pub standard_word : Form → ℕ
standard_word Bare = 33
standard_word Listed = 49

abbrev pub custom_word : Form → ℕ
custom_word Bare = 1
custom_word Listed = 3

-- the number of a form, and the form of a number
abbrev pub form_number : Form → ℕ
form_number Bare = 1
form_number Listed = 2

abbrev pub form_numbered : ℕ → Option Form
form_numbered number = if nat_eq number 1 then Some Bare else (if nat_eq number 2 then Some Listed else None)

-- the word is the custom word of a form
abbrev pub NamesForm : ℕ → Type 0
NamesForm word = (word ≡ custom_word Bare) ⊎ (word ≡ custom_word Listed)

-- the same as a test
abbrev pub names_form : ℕ → Bool
names_form word = nat_eq word (custom_word Bare) || nat_eq word (custom_word Listed)

-- the form whose custom word this is
abbrev pub form_named : ℕ → Form
form_named word = if nat_eq word (custom_word Listed) then Listed else Bare

-- the form of a recording
abbrev pub form_of : List ℕ → Form
form_of file = form_named (custom_flags file)

-- an unfinalized file whose custom word names a form; its standard word is not looked at
pub record IsInRecordingForm (file : List ℕ) : Type 0 where
  pub unfinalized : IsUnfinalized file
  pub custom : NamesForm (custom_flags file)

-- how many bytes of a unit stand before its data block: none in form 1, and in form 2 those of the list block
abbrev pub lead : Form → ℕ
lead Bare = 0
lead Listed = 56
