-- The state of a file that is written under a seal.
use Rattle.std.specs.Prelude.{◌≡◌, ℕ, List, [], length, Option, IfSome, slice_get}
use Rattle.std.specs.Option.{option_map}
use Rattle.mdf_disk.specs.Story.{Story, settled}
use Rattle.mdf_disk.specs.Crash.{NowHas}
use Rattle.mdf_seal.specs.Images.{closed, IsShut}
use Rattle.mdf_seal.specs.declared.sealed.Sealed.{Sealed}

-- the bytes that the last successful sync left, where the story is told
abbrev pub synced : Option Story → Option (List ℕ)
synced story = option_map (λ s. s.now.stable) story

-- So many bytes were given under this seal, and the disk has them behind a closed first byte.
pub record Seals (seal : Sealed) (content : Option (List ℕ)) (story : Option Story) (given : List ℕ) : Type 0 where
  pub first : seal.first ≡ slice_get given 0
  pub count : seal.length ≡ length given
  pub holds : IfSome content (λ file. file ≡ closed given)
  pub shut : NowHas story IsShut

-- an attached disk with an empty file, of which a crash leaves the empty file alone
pub record IsBlank (content : Option (List ℕ)) (story : Option Story) : Type 0 where
  pub bare : IfSome content (λ file. file ≡ [])
  pub kept : NowHas story (λ moment. moment ≡ settled [])

-- a file of these bytes, all of it kept
pub record IsKept (content : Option (List ℕ)) (story : Option Story) (bytes : List ℕ) : Type 0 where
  pub whole : IfSome content (λ file. file ≡ bytes)
  pub kept : NowHas story (λ moment. moment ≡ settled bytes)
