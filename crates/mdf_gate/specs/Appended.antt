-- What the writing of a unit, `create` and `append` leave of a recording that is being written.
use Rattle.std.specs.Prelude.{ℕ, ◌≡◌, ◌+◌, ◌≤◌, List, [], ◌∷◌, ◌++◌, length, true, false, IfSome}
use Rattle.std.specs.Option.{option_map}
use Rattle.mdf_disk.specs.Crash.{NowHas, HoldsSince}
use Rattle.mdf_disk.specs.Goes.{GoesOn}
use Rattle.mdf_disk.specs.declared.disk.Disk.{Ghosts}
use Rattle.mdf_seal.specs.Seal.{IsKept, synced}
use Rattle.mdf_format.specs.Form.{form_of}
use Rattle.mdf_gate.specs.Written.{opened_at, payload_of, room_of}
use Rattle.mdf_gate.specs.Gated.{Gated, Buffered, RestsOn}
use Rattle.mdf_gate.specs.Images.{head_of, IsBegun, IsStaged}

-- From one state of a disk to another a payload was written behind the last gate of its file, at this place, and then
-- that gate was opened, in four calls. A file that was kept is kept so.
pub record HasOpened {D : Type 0} (tells : Ghosts D) (place : ℕ) (payload : List ℕ) (old new : D) : Type 0 where
  pub kept : (file : List ℕ) → IsKept (tells.content old) (tells.story old) file → length file ≡ place + 1
      → IsKept (tells.content new) (tells.story new) (opened_at place payload file)
  pub content : tells.content new ≡ option_map (opened_at place payload) (tells.content old)
  pub calls : IfSome (tells.story old) (λ _. tells.moment new ≡ tells.moment old + 4)

-- The disk failed on the way there. Of a file that was kept it keeps the bytes, or with the whole payload behind them, and
-- at most one write is behind its last successful sync.
pub record HasStaged {D : Type 0} (tells : Ghosts D) (place : ℕ) (payload : List ℕ) (old new : D) : Type 0 where
  pub staged : (file : List ℕ) → IsKept (tells.content old) (tells.story old) file → length file ≡ place + 1
      → IfSome (synced (tells.story new)) (IsStaged file payload)
  pub in_flight : (file : List ℕ) → IsKept (tells.content old) (tells.story old) file
      → NowHas (tells.story new) (λ moment. length moment.writes ≤ 1)

-- A recording of this head was made of the disk: it is at rest with no block, and since its start a crash left only
-- beginnings of it.
pub record StartsFrom {D : Type 0} (tells : Ghosts D) (device : D) (bytes : List ℕ) (file : Gated D) : Type 0 where
  pub attached : tells.attached file.disk ≡ true
  pub form : file.form ≡ form_of bytes
  pub first : file.first ≡ length bytes
  pub place : file.place ≡ length bytes
  pub offset : file.offset ≡ 0
  pub start : file.start ≡ tells.moment device
  pub faults : file.faults ≡ tells.faults device
  pub going : file.failed ≡ false
  pub rests : RestsOn (tells.content file.disk) (tells.story file.disk) file.first [] file.place
  pub content : IfSome (tells.content file.disk) (λ whole. whole ≡ bytes ++ 0 ∷ [])
  pub head : IfSome (tells.story file.disk) (λ _. head_of (tells.story file.disk) file.first ≡ bytes)
  pub begun : HoldsSince (tells.story file.disk) file.start (IsBegun (head_of (tells.story file.disk) file.first))

-- what an append leaves, whatever it answers: the head of the file stays, and of a disk that tells its story the clock
-- rises by 4 at most
pub record FileGoesOn {D : Type 0} (tells : Ghosts D) (old new : Gated D) : Type 0 where
  pub disk : GoesOn tells old.disk new.disk
  pub form : new.form ≡ old.form
  pub first : new.first ≡ old.first
  pub start : new.start ≡ old.start
  pub faults : new.faults ≡ old.faults
  pub head : head_of (tells.story new.disk) new.first ≡ head_of (tells.story old.disk) old.first
  pub few : IfSome (tells.story old.disk) (λ _. tells.moment new.disk ≤ tells.moment old.disk + 4)

-- The unit of a block was appended: a file at rest is at rest with that block too, the next place is behind it, and the
-- buffer is empty.
pub record IsAppended {D : Type 0} (tells : Ghosts D) (old new : Gated D) (block emptied : Buffered) : Type 0 where
  pub going : new.failed ≡ false
  pub place : new.place ≡ old.place + room_of old.form (length block.bytes)
  pub offset : new.offset ≡ old.offset + length block.bytes
  pub content : tells.content new.disk
      ≡ option_map (opened_at old.place (payload_of old.form old.place old.offset block.bytes)) (tells.content old.disk)
  pub rests : (blocks : List (List ℕ))
      → RestsOn (tells.content old.disk) (tells.story old.disk) old.first blocks old.place
      → RestsOn (tells.content new.disk) (tells.story new.disk) new.first (blocks ++ block.bytes ∷ []) new.place
  pub calls : IfSome (tells.story old.disk) (λ _. tells.moment new.disk ≡ tells.moment old.disk + 4)
  pub empty : emptied.bytes ≡ []

-- The disk failed while the unit of a block was appended: the file has failed, and the data are still in the buffer. The
-- disk keeps the file as it was, or with all but the first byte of the unit behind it, and at most one write is behind its
-- last successful sync.
pub record IsCutShort {D : Type 0} (tells : Ghosts D) (old new : Gated D) (block left : Buffered) : Type 0 where
  pub failed : new.failed ≡ true
  pub place : new.place ≡ old.place
  pub kept : left.bytes ≡ block.bytes
  pub staged : IfSome (tells.content old.disk) (λ file. IfSome (synced (tells.story new.disk))
      (IsStaged file (payload_of old.form old.place old.offset block.bytes)))
  pub in_flight : NowHas (tells.story new.disk) (λ moment. length moment.writes ≤ 1)
