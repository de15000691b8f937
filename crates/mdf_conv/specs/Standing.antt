-- Sources and conversions as they stand in a file.
use Rattle.std.specs.Prelude.{ℕ, zero, suc, ◌≡◌, ◌≢◌, ◌+◌, ◌⊎◌, List, [], ◌∷◌, length}
use Rattle.mdf_format.specs.Block.{link_at, links_at, body_at, IsBlock}
use Rattle.mdf_format.specs.declared.kind.Kind.TheVariants.{Cc, Si}
use Rattle.mdf_block.specs.declared.note.Note.{Note}
use Rattle.mdf_block.specs.Text.{IsNote}
use Rattle.mdf_conv.specs.declared.row.SourceInfo.{SourceInfo}
use Rattle.mdf_conv.specs.declared.row.Conversion.{Conversion}
use Rattle.mdf_conv.specs.declared.row.Ref.{Ref}
use Rattle.mdf_conv.specs.declared.row.Ref.TheVariants as refs
use Rattle.mdf_conv.specs.declared.texts.Texts.{Texts}
use Rattle.mdf_conv.specs.Conv.{the_source, the_conversion}

-- the source of an SIBLOCK
pub record IsSource (file : List ℕ) (at : ℕ) (source : SourceInfo) : Type 0 where
  pub block : IsBlock file at Si
  pub fields : source ≡ the_source (body_at file at) source.name source.path source.comment
  pub name : IsNote file (link_at file at 0) source.name
  pub path : IsNote file (link_at file at 1) source.path
  pub comment : IsNote file (link_at file at 2) source.comment

-- what a link of a conversion refers to: nothing, a text, or what `IsConv` says of a conversion
abbrev pub IsRefBy : (ℕ → Conversion → Type 0) → List ℕ → ℕ → Ref → Type 0
IsRefBy IsConv file at found =
    ((at ≡ 0) × (found ≡ refs.Nothing))
    ⊎ (((at ≢ 0) × ((text : Note) × (found ≡ refs.Words text) × IsNote file at text))
    ⊎ ((at ≢ 0) × ((inner : Conversion) × (found ≡ refs.Conv inner) × IsConv at inner)))

-- what link k and those behind it refer to, in order
abbrev pub AreRefsBy : (ℕ → Conversion → Type 0) → List ℕ → ℕ → ℕ → List Ref → Type 0
AreRefsBy IsConv file at k [] = Unit {0}
AreRefsBy IsConv file at k (first ∷ rest) =
    IsRefBy IsConv file (link_at file at k) first × AreRefsBy IsConv file at (k + 1) rest

-- the conversion of a CCBLOCK, whose references are all links after the fourth
pub record IsConversionBy (IsConv : ℕ → Conversion → Type 0) (file : List ℕ) (at : ℕ) (conversion : Conversion) : Type 0 where
  pub block : IsBlock file at Cc
  pub texts : Texts
  pub references : List Ref
  pub fields : conversion ≡ the_conversion (body_at file at) texts references
  pub name : IsNote file (link_at file at 0) texts.name
  pub unit : IsNote file (link_at file at 1) texts.unit
  pub comment : IsNote file (link_at file at 2) texts.comment
  pub count : 4 + length references ≡ links_at file at
  pub each : AreRefsBy IsConv file at 4 references

-- the same where at most so many conversions are open at once
unfoldable pub IsConversion : ℕ → List ℕ → ℕ → Conversion → Type 0
IsConversion zero file at conversion = ⊥
IsConversion (suc levels) file at conversion = IsConversionBy (IsConversion levels file) file at conversion

-- the same, however many are open at once
abbrev pub IsConversionAt : List ℕ → ℕ → Conversion → Type 0
IsConversionAt file at conversion = (levels : ℕ) × IsConversion levels file at conversion
