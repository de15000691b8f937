-- Parts with their places in the stream.
use Rattle.std.specs.Prelude.{ℕ, ◌≡◌, ◌+◌, ◌-◌, ◌<◌, ◌^◌, min, List, [], ◌∷◌, map}
use Rattle.mdf_stream.specs.declared.part.Part.{Part}
use Rattle.mdf_stream.specs.declared.stretch.Stretch.{Stretch}

-- the parts
abbrev pub parts_of : List Stretch → List Part
parts_of stretches = map (λ (stretch : Stretch). stretch.part) stretches

-- one part begins where the one before it ends, from one place of the stream to another
unfoldable pub AreJoined : ℕ → List Stretch → ℕ → Type 0
AreJoined at [] end = end ≡ at
AreJoined at (stretch ∷ stretches) end =
    (stretch.end ≡ at + stretch.part.len) × (stretch.part.at + stretch.part.len < 2 ^ 64) × AreJoined stretch.end stretches end

-- of a range that begins in a part, what lies in that part: how many bytes, and these
abbrev pub front_len : Stretch → ℕ → ℕ → ℕ
front_len stretch at len = min (stretch.end - at) len

abbrev pub front_part : Stretch → ℕ → ℕ → Part
front_part stretch at len =
    record { at = stretch.part.at + (stretch.part.len - (stretch.end - at)); len = front_len stretch at len }
