-- What a splitter has, and where it goes on.
use Rattle.std.specs.Prelude.{ℕ, ◌+◌, List, Option, Some, None}
use Rattle.mdf_data.specs.declared.known.Known.{Known}
use Rattle.mdf_data.specs.declared.known.Piece.{Piece}

pub record Splitting : Type 0 where
  pub id_size : ℕ
  pub known : List Known
  pub place : ℕ

-- behind the record that was found
abbrev pub advanced : Splitting → Option Piece → Splitting
advanced state None = state
advanced state (Some piece) = record state { place = piece.at + piece.len }
