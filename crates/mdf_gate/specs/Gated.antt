-- A recording that is being written, block by block, and the buffer of its next block.
use Rattle.std.specs.Prelude.{ℕ, ◌≡◌, ◌+◌, ◌%◌, ◌^◌, ◌≤◌, ◌<◌, Bool, true, false, List, length, take, get_or, Option, IfSome, Result, Ok, Err}
use Rattle.mdf_format.specs.Cause.{Rose}
use Rattle.mdf_disk.specs.Story.{Story, settled}
use Rattle.mdf_disk.specs.Crash.{NowHas}
use Rattle.mdf_format.specs.Form.{form_of}
use Rattle.mdf_gate.specs.Recording.{IsRecording, first_place}
use Rattle.mdf_gate.specs.Unit.{AreUnits}
use Rattle.mdf_format.specs.declared.form.Form.{Form}

-- a recording that ends where its first place is to be
pub record IsRecordingHead (head : List ℕ) : Type 0 where
  pub recording : IsRecording head
  pub ends : first_place head ≡ length head

-- A file at rest: a head of so many bytes, units of its form with these data from there on up to a place, and the closed gate
-- of that place, which is the last byte.
pub record Rests (first : ℕ) (blocks : List (List ℕ)) (place : ℕ) (file : List ℕ) : Type 0 where
  pub head : IsRecordingHead (take first file)
  pub units : AreUnits (form_of file) file first blocks place
  pub ends : length file ≡ place + 1
  pub closed : get_or file place 0 ≡ 0

-- such a file, all of it kept
pub record RestsOn (content : Option (List ℕ)) (story : Option Story) (first : ℕ) (blocks : List (List ℕ)) (place : ℕ) : Type 0 where
  pub rests : IfSome content (Rests first blocks place)
  pub kept : NowHas story (λ moment. moment ≡ settled moment.content)

-- what contracts see of a gated file: the disk, the form and the length of the head, where the next block is to stand, how
-- many bytes of data the blocks before it have, the moment and the count of faults of the disk that `create` was given, and
-- whether an append failed
pub record Gated (D : Type 0) : Type 0 where
  pub disk : D
  pub form : Form
  pub first : ℕ
  pub place : ℕ
  pub offset : ℕ
  pub start : ℕ
  pub faults : ℕ
  pub failed : Bool

-- what is true of a gated file between two calls, over a disk of this content, story and count of faults
pub record IsGated (content : Option (List ℕ)) (story : Option Story) (count : ℕ) (form : Form) (first place offset faults : ℕ) (failed : Bool) : Type 0 where
  pub behind : first ≤ place
  pub filled : offset ≤ place
  pub on_eight : place % 8 ≡ 0
  pub small : place < 2 ^ 62
  pub later : faults ≤ count
  pub cause : failed ≡ true → Rose faults count
  pub form_is : failed ≡ false → IfSome content (λ file. form_of file ≡ form)
  pub rests : failed ≡ false → (blocks : List (List ℕ)) × RestsOn content story first blocks place

-- the disk of a file that was made, or else the disk that is handed back
abbrev pub disk_of : {D E : Type 0} → Result (Gated D) (E × D) → D
disk_of (Ok file) = file.disk
disk_of (Err refused) = refused.1

-- what contracts see of the buffer of a block: how many bytes it holds at most, and those it holds
pub record Buffered : Type 0 where
  pub limit : ℕ
  pub bytes : List ℕ
