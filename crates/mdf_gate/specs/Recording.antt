-- A recording, and its opened blocks.
use Rattle.std.specs.Prelude.{ℕ, ◌≡◌, ◌≢◌, ◌%◌, List}
use Rattle.mdf_format.specs.Identification.{IsMdf, HasReadVersion}
use Rattle.mdf_format.specs.Block.{IsBlock, link_at}
use Rattle.mdf_format.specs.declared.kind.Kind.TheVariants.{Hd, Dg}
use Rattle.mdf_format.specs.Form.{IsInRecordingForm, form_of}
use Rattle.mdf_gate.specs.Unit.{AreUnits, IsOpenPlace}

-- the address of the header (HDBLOCK)
abbrev pub HEADER : ℕ
HEADER = 64

-- the first data group: the header's first link
abbrev pub first_group : List ℕ → ℕ
first_group file = link_at file HEADER 0

-- the first place: the data link of the first data group (DGBLOCK)
abbrev pub first_place : List ℕ → ℕ
first_place file = link_at file (first_group file) 2

-- a place that data can begin at
pub record IsPlace (place : ℕ) : Type 0 where
  pub there : place ≢ 0
  pub on_eight : place % 8 ≡ 0

-- What makes a file a recording, in the order in which it is looked at.
pub record IsRecording (file : List ℕ) : Type 0 where
  pub identified : IsMdf file
  pub version : HasReadVersion file
  pub form : IsInRecordingForm file
  pub header : IsBlock file HEADER Hd
  pub group : IsBlock file (first_group file) Dg
  pub place : IsPlace (first_place file)

-- The recording has these opened blocks: they are the data of the units of its form from the first place on, and its last
-- place is the one behind them, which is closed.
pub record IsOpenedTo (file : List ℕ) (blocks : List (List ℕ)) (last : ℕ) : Type 0 where
  pub recording : IsRecording file
  pub units : AreUnits (form_of file) file (first_place file) blocks last
  pub closed : ¬ IsOpenPlace file last

-- the opened blocks of a recording; a file that is none, or has no unit at an open place, has none
abbrev pub IsOpened : List ℕ → List (List ℕ) → Type 0
IsOpened file blocks = (last : ℕ) × IsOpenedTo file blocks last

abbrev pub HasNoOpened : List ℕ → Type 0
HasNoOpened file = (blocks : List (List ℕ)) → ¬ IsOpened file blocks
