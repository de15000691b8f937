-- A stream that is told is as long as its parts, and is all of its bytes.
use Rattle.std.proofs.Common.{◌≡◌, ℕ, List, length, arith}
use Rattle.std.proofs.lemmas.List.{take_all}
use Rattle.mdf_format.specs.Number.{bytes_at}
use Rattle.mdf_num.specs.Span.{IsTold}
use Rattle.std.specs.Prelude.{Option, Some}
use Rattle.mdf_stream.specs.declared.part.Part.{Part}
use Rattle.mdf_stream.specs.Parts.{stream_of, stream_size, ArePartsInside}
use Rattle.mdf_stream.proofs.Joins.{length-stream, told_inside}

-- a stream is as long as its parts
pub told_long : (told : Option (List ℕ)) (size : ℕ) (f : List ℕ) (parts : List Part) → IsTold told size → told ≡ Some f
    → ArePartsInside size parts → length (stream_of f parts) ≡ stream_size parts
told_long told size f parts whole is inside = length-stream f parts (told_inside told size f parts whole is inside)

-- a stream is all of its bytes
pub whole_stream : (told : Option (List ℕ)) (size : ℕ) (f : List ℕ) (parts : List Part) → IsTold told size → told ≡ Some f
    → ArePartsInside size parts → bytes_at (stream_size parts) (stream_of f parts) 0 ≡ stream_of f parts
whole_stream told size f parts whole is inside =
    take_all (stream_size parts) (stream_of f parts)
    (let same : length (stream_of f parts) ≡ stream_size parts = told_long told size f parts whole is inside in omega (arith, same))
