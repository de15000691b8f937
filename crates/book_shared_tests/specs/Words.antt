-- The layouts of the book of the tests.
use Rattle.std.specs.Prelude.{◌≡◌, ◌≤◌, List, [], ◌∷◌, All, length}
use Rattle.mdf_layout.specs.Layout.{Layout}
use Rattle.mdf_layout.specs.Stored.{IsStored}
use Rattle.mdf_layout.specs.Written.{AreApart}
use Rattle.mdf_layout.specs.declared.field.FieldRow.{FieldRow}

-- these channels, in records of 8 bytes
abbrev pub word_layout : List FieldRow → Layout
word_layout rows = record { rows = rows; data_bytes = 8; inval_bytes = 0 }

-- that layout, once for each of two groups
abbrev pub word_layouts : List FieldRow → List Layout
word_layouts rows = word_layout rows ∷ word_layout rows ∷ []

-- one layout for two groups, whose channels are few, share no bit and are stored
pub record AreGroups (layouts : List Layout) : Type 0 where
  pub layout : Layout
  pub layouts_are : layouts ≡ layout ∷ layout ∷ []
  pub few : length layout.rows ≤ 64
  pub apart : AreApart layout.rows
  pub stored : All IsStored layout.rows
