-- The unit of a recording, which stands at a place. It is a data block (DTBLOCK); in form 2 a list block (DLBLOCK) stands
-- before it, whose links name the next place and the data block. The first byte of a unit is its gate: where another byte
-- stands there, the place is closed.
use Rattle.std.specs.Prelude.{ℕ, ◌≡◌, ◌+◌, List, [], ◌∷◌, get_or}
use Rattle.mdf_format.specs.Number.{aligned}
use Rattle.mdf_format.specs.Block.{IsBlock, link_at, links_at, size_at, body_at}
use Rattle.mdf_format.specs.declared.kind.Kind.TheVariants.{Dl, Dt}
use Rattle.mdf_format.specs.Form.{lead}
use Rattle.mdf_format.specs.declared.form.Form.{Form}
use Rattle.mdf_format.specs.declared.form.Form.TheVariants.{Bare, Listed}

-- the byte at the place is `#`; past the end of the file every place is closed
abbrev pub IsOpenPlace : List ℕ → ℕ → Type 0
IsOpenPlace file place = get_or file place 0 ≡ 35

-- the address of the data block of the unit at a place
abbrev pub block_place : Form → ℕ → ℕ
block_place form place = place + lead form

-- the data of the unit there
abbrev pub unit_data : Form → List ℕ → ℕ → List ℕ
unit_data form file place = body_at file (block_place form place)

-- the place behind the unit there: the next multiple of 8 that is not below the end of its data block
abbrev pub next_place : Form → List ℕ → ℕ → ℕ
next_place form file place = aligned (block_place form place + size_at file (block_place form place))

-- a list block of 56 bytes with two links stands at the place, and the second of them names the address behind it
pub record IsList (file : List ℕ) (place : ℕ) : Type 0 where
  pub block : IsBlock file place Dl
  pub size : size_at file place ≡ 56
  pub links : links_at file place ≡ 2
  pub names : link_at file place 1 ≡ block_place Listed place

-- what stands before the data block: nothing in form 1, and in form 2 the list block
abbrev pub IsLed : Form → List ℕ → ℕ → Type 0
IsLed Bare file place = Unit {0}
IsLed Listed file place = IsList file place

-- in form 2 the first link of the list block names the place behind the unit
abbrev pub IsLinkedOn : Form → List ℕ → ℕ → Type 0
IsLinkedOn Bare file place = Unit {0}
IsLinkedOn Listed file place = link_at file place 0 ≡ next_place Listed file place

-- a unit stands at the place
pub record IsUnit (form : Form) (file : List ℕ) (place : ℕ) : Type 0 where
  pub led : IsLed form file place
  pub block : IsBlock file (block_place form place) Dt
  pub linked : IsLinkedOn form file place

-- units with these data stand one behind the other, from a place on up to another
unfoldable pub AreUnits : Form → List ℕ → ℕ → List (List ℕ) → ℕ → Type 0
AreUnits form file place [] last = last ≡ place
AreUnits form file place (data_bytes ∷ rest) last =
    IsUnit form file place × (data_bytes ≡ unit_data form file place) × AreUnits form file (next_place form file place) rest last
