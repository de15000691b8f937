-- Why a file has no opened blocks. What makes a file a recording is looked at in order: the identification, the version,
-- the form, the header, the first data group, the data link of that, and then each place. The first that fails is told.
use Rattle.std.specs.Prelude.{ℕ, ◌≡◌, ◌⊎◌, List, Option, Some}
use Rattle.mdf_format.specs.Identification.{IsMdf, HasReadVersion, version_of, standard_flags, custom_flags}
use Rattle.mdf_format.specs.Block.{IsBlock}
use Rattle.mdf_format.specs.declared.kind.Kind.{Kind}
use Rattle.mdf_format.specs.declared.kind.Kind.TheVariants.{Hd, Dg, Dl, Dt}
use Rattle.mdf_block.specs.Refusal.{Refusal}
use Rattle.mdf_block.specs.Refusal as refusals
use Rattle.mdf_head.specs.declared.fault.IdentFault.{IdentFault}
use Rattle.mdf_head.specs.declared.fault.IdentFault.TheVariants as ident
use Rattle.mdf_format.specs.Form.{IsInRecordingForm, form_of}
use Rattle.mdf_gate.specs.Recording.{HEADER, first_group, first_place, IsPlace, IsRecording}
use Rattle.mdf_gate.specs.Unit.{block_place, AreUnits, IsLed, IsLinkedOn, IsOpenPlace}
use Rattle.mdf_format.specs.declared.form.Form.{Form}
use Rattle.mdf_gate.specs.declared.answer.GateFault.{GateFault}
use Rattle.mdf_gate.specs.declared.answer.GateFault.TheVariants.{NotMdf, Version, NotRecording, Bad}

-- the first 64 bytes are those of a recording
pub record IsFormed (file : List ℕ) : Type 0 where
  pub identified : IsMdf file
  pub version : HasReadVersion file
  pub form : IsInRecordingForm file

-- no header stands at 64
pub record LacksHeader (file : List ℕ) (at : ℕ) (want : Kind) : Type 0 where
  pub formed : IsFormed file
  pub at_header : at ≡ HEADER
  pub kind : want ≡ Hd
  pub none : ¬ IsBlock file HEADER Hd

-- no data group stands at the header's first link
pub record LacksGroup (file : List ℕ) (at : ℕ) (want : Kind) : Type 0 where
  pub formed : IsFormed file
  pub header : IsBlock file HEADER Hd
  pub at_group : at ≡ first_group file
  pub kind : want ≡ Dg
  pub none : ¬ IsBlock file (first_group file) Dg

-- the data link of the first data group is no place
pub record LacksPlace (file : List ℕ) (at : ℕ) (want : Kind) : Type 0 where
  pub formed : IsFormed file
  pub header : IsBlock file HEADER Hd
  pub group : IsBlock file (first_group file) Dg
  pub at_place : at ≡ first_place file
  pub kind : want ≡ Dt
  pub none : ¬ IsPlace (first_place file)

-- no list block stands at the place, where the form has one
pub record LacksList (form : Form) (file : List ℕ) (place at : ℕ) (want : Kind) : Type 0 where
  pub at_place : at ≡ place
  pub kind : want ≡ Dl
  pub none : ¬ IsLed form file place

-- no data block stands behind it
pub record LacksData (form : Form) (file : List ℕ) (place at : ℕ) (want : Kind) : Type 0 where
  pub led : IsLed form file place
  pub at_block : at ≡ block_place form place
  pub kind : want ≡ Dt
  pub none : ¬ IsBlock file (block_place form place) Dt

-- the list block does not name the place behind the unit
pub record LacksLink (form : Form) (file : List ℕ) (place at : ℕ) (want : Kind) : Type 0 where
  pub led : IsLed form file place
  pub block : IsBlock file (block_place form place) Dt
  pub at_place : at ≡ place
  pub kind : want ≡ Dl
  pub none : ¬ IsLinkedOn form file place

-- why no unit stands at the place, in this order
abbrev pub HasNoUnit : Form → List ℕ → ℕ → ℕ → Kind → Type 0
HasNoUnit form file place at want =
    LacksList form file place at want ⊎ LacksData form file place at want ⊎ LacksLink form file place at want

-- units stand from a place on up to this one, which is open
pub record IsReached (form : Form) (file : List ℕ) (first place : ℕ) : Type 0 where
  pub bodies : List (List ℕ)
  pub units : AreUnits form file first bodies place
  pub is_open : IsOpenPlace file place

-- no unit stands at an open place
pub record LacksUnit (file : List ℕ) (at : ℕ) (want : Kind) : Type 0 where
  pub recording : IsRecording file
  pub place : ℕ
  pub reached : IsReached (form_of file) file (first_place file) place
  pub unit : HasNoUnit (form_of file) file place at want

abbrev pub LacksBlock : List ℕ → ℕ → Kind → Type 0
LacksBlock file at want =
    LacksHeader file at want ⊎ LacksGroup file at want ⊎ LacksPlace file at want ⊎ LacksUnit file at want

abbrev pub HasFault : List ℕ → GateFault → Type 0
HasFault file NotMdf = ¬ IsMdf file
HasFault file (Version ver) = IsMdf file × (¬ HasReadVersion file) × (ver ≡ version_of file)
HasFault file (NotRecording std custom) =
    IsMdf file × HasReadVersion file × (¬ IsInRecordingForm file) × (std ≡ standard_flags file) × (custom ≡ custom_flags file)
HasFault file (Bad at want) = LacksBlock file at want

abbrev pub fault_of_ident : IdentFault → GateFault
fault_of_ident ident.NotMdf = NotMdf
fault_of_ident (ident.Version ver) = Version ver

-- what a fault says of a file, in the words of all readers
abbrev pub gate_refusal : GateFault → Option Refusal
gate_refusal NotMdf = Some refusals.NotMdf
gate_refusal (Version ver) = Some (refusals.Version ver)
gate_refusal (NotRecording std custom) = Some (refusals.NotRecording std custom)
gate_refusal (Bad at want) = Some (refusals.Bad at want)
