-- The rule of the turn and of the device: what is so of the two words, of the places of the two halves and of what all seats
-- know, between any two steps.
use Rattle.std.specs.Prelude.{ℕ, ◌≡◌, ◌+◌, ◌*◌, ◌%◌, ◌<◌, ◌≤◌, ◌==◌, ◌⊎◌, nat_lt, cond, slice_index, All, Bool, true, false, List, [], ◌∷◌, ◌++◌, length, take}
use mathlib.Core.Option.{Option as Home, some, none}
use mathlib.Core.List.{IsPrefix}
use lib.ListN.{get_elem?}
use Rattle.atomic_table.specs.Table.{State}
use Rattle.mdf_format.specs.Cause.{Rose}
use Rattle.mdf_layout.specs.History.{source_samples}
use Rattle.mdf_layout.specs.declared.sample.Sample.{Sample}
use Rattle.mdf_gate.specs.Gated.{Gated}
use Rattle.book_owned.specs.Members.{DiskOf}
use Rattle.book_owned.specs.Marks.{durable}
use Rattle.book_owned.specs.BackHalf.{BackKeeps, FileHolds, back_terms}
use Rattle.book_owned.specs.FrontHalf.{FrontAccount}
use Rattle.book_owned.specs.Split.{front_part, back_part}
use Rattle.book_owned.specs.declared.mark.Mark.{Mark}
use Rattle.book_shared.specs.Basis.{Basis, Turn, idle, holding, Device, free, resting, handed, writing, written, settled, last_word}
use Rattle.book_shared.specs.Causes.{AnyOf, IsAmong, MarksCaused, times_of}
use Rattle.book_shared.specs.declared.half.Answer.{Answer}
use Rattle.book_shared.specs.declared.half.Answer.TheVariants.{Marked, Faulted}
use Rattle.book_shared.specs.declared.half.Half.{Half}
use Rattle.book_shared.specs.declared.half.Half.TheVariants.{TheFront, TheBack}
use Rattle.book_shared.specs.declared.view.View.{View}

-- what the seats share: the turn word, and what the front had when it was last given back
pub record World : Type 0 where
  pub word : ℕ
  pub history : List Sample
  pub marks : List Mark
  pub from : ℕ
  pub stopped : Bool
  pub spare : Bool

-- f of each, added up
abbrev pub total : {A : Type 0} → (A → ℕ) → List A → ℕ
total f [] = 0
total f (x ∷ xs) = f x + total f xs

-- how often a source stands among these, and among those of a seat
abbrev pub times_in : ℕ → List (ℕ × List Sample) → ℕ
times_in n [] = 0
times_in n (part ∷ parts) = cond (part.0 == n) 1 0 + times_in n parts

abbrev pub has : ℕ → View → ℕ
has n v = times_in n v.mine

-- how often it asked for a mark through so many samples
abbrev pub asks : ℕ → View → ℕ
asks n v = times_of n v.asked

-- 1 where a turn holds the front
abbrev pub holds_turn : Turn → ℕ
holds_turn idle = 0
holds_turn (holding held) = 1

-- 1 where a seat has the device; where a block is out to be written; where the back is out; and where the write was answered
abbrev pub holds_device : Device → ℕ
holds_device free = 0
holds_device resting = 1
holds_device handed = 1
holds_device writing = 1
holds_device (written answer) = 1
holds_device (settled answer) = 1

abbrev pub lends_block : Device → ℕ
lends_block free = 0
lends_block resting = 0
lends_block handed = 1
lends_block writing = 1
lends_block (written answer) = 1
lends_block (settled answer) = 1

abbrev pub has_back : Device → ℕ
has_back free = 0
has_back resting = 0
has_back handed = 0
has_back writing = 1
has_back (written answer) = 1
has_back (settled answer) = 0

abbrev pub has_answer : Device → ℕ
has_answer free = 0
has_answer resting = 0
has_answer handed = 0
has_answer writing = 0
has_answer (written answer) = 1
has_answer (settled answer) = 1

-- how many blocks are out to be written, and how many backs are out
abbrev pub blocks_out : List View → ℕ
blocks_out views = total (λ v. lends_block v.device) views

abbrev pub backs_out : List View → ℕ
backs_out views = total (λ v. has_back v.device) views

-- each list is what the history has of its source
abbrev pub AreOwn : List ℕ → List Sample → List (ℕ × List Sample) → Type 0
AreOwn owners history [] = Unit {0}
AreOwn owners history (part ∷ parts) = (part.1 ≡ source_samples owners history part.0) × AreOwn owners history parts

-- each of these histories and marks begins what was seen and kept
abbrev pub AreOld : List Sample → List Mark → List (List Sample × List Mark) → Type 0
AreOld seen kept [] = Unit {0}
AreOld seen kept (old ∷ olds) = (IsPrefix old.0 seen × IsPrefix old.1 kept) × AreOld seen kept olds

-- a seat that holds the front names the word and what the front had, and has a source
abbrev pub Names : World → View → Turn → Type 0
Names w v idle = Unit {0}
Names w v (holding held) =
    (v.met ≡ w.word) × (held.history ≡ w.history) × (held.marks ≡ w.marks) × (held.from ≡ w.from) × (held.stopped ≡ w.stopped)
    × (held.spare ≡ w.spare) × (0 < length v.mine)

-- a write of the samples up to so many was answered so
abbrev pub IsAnswer : ℕ → Answer → Type 0
IsAnswer from (Marked mark) = mark.through ≡ from
IsAnswer from (Faulted before after) = Rose before after

abbrev pub Answers : ℕ → Device → Type 0
Answers from free = Unit {0}
Answers from resting = Unit {0}
Answers from handed = Unit {0}
Answers from writing = Unit {0}
Answers from (written answer) = IsAnswer from answer
Answers from (settled answer) = IsAnswer from answer

-- A block is out to be written: the front was not stopped, and the seat has seen just the samples that were handed out, and
-- all marks.
pub record Awaits (w : World) (v : View) : Type 0 where
  pub going : w.stopped ≡ false
  pub seen : v.seen ≡ take w.from w.history
  pub kept : v.kept ≡ w.marks

-- What a seat knows of the device: who has it has a source; and while its block is out it holds the turn just where the write
-- was answered.
pub record KnowsDevice (w : World) (v : View) : Type 0 where
  pub some_source : holds_device v.device ≡ 1 → 0 < length v.mine
  pub awaits : lends_block v.device ≡ 1 → Awaits w v
  pub turn : lends_block v.device ≡ 1 → holds_turn v.turn ≡ has_answer v.device
  pub answers : Answers w.from v.device

-- what a seat knows is so, and its lists are all that the history has of its sources
pub record Knows (basis : Basis) (w : World) (v : View) : Type 0 where
  pub met : v.met ≤ w.word
  pub seen : IsPrefix v.seen w.history
  pub kept : IsPrefix v.kept w.marks
  pub from : v.from ≤ w.from
  pub knows : v.knows ≡ true → w.stopped ≡ true
  pub mine : AreOwn basis.owners w.history v.mine
  pub olds : AreOld v.seen v.kept v.olds
  pub turn : Names w v v.turn
  pub device : KnowsDevice w v
  pub basis_is : 0 < length v.mine → v.basis ≡ basis
  pub asked : 0 < length v.asked → 0 < length v.mine
  pub due : 0 < length v.due → 0 < length v.mine

-- Of the words: the first counts the takings and the givings, so it is odd just while one seat holds the front; the second is
-- 1 just while one seat has the device.
pub record TurnsCount (word device : ℕ) (views : List View) : Type 0 where
  pub few : word ≤ last_word
  pub held : total (λ v. holds_turn v.turn) views ≡ word % 2
  pub taken : 2 * total (λ v. v.turns) views ≡ word + word % 2
  pub device_held : total (λ v. holds_device v.device) views ≡ device
  pub one_device : device ≤ 1

-- a source that has a seat owns the group of each sample
abbrev pub AreOfSources : Basis → List Sample → Type 0
AreOfSources basis history = All (λ sample. slice_index basis.owners sample.group < basis.sources) history

-- Of the seats: each source is one seat's, what each seat knows is so, each sample of the history is of one of the sources,
-- and the marks go through no more samples than were handed out.
pub record SeatsKnow (basis : Basis) (w : World) (views : List View) : Type 0 where
  pub once : (n : ℕ) → total (has n) views ≡ cond (nat_lt n basis.sources) 1 0
  pub each : (j : ℕ) (v : View) → get_elem? views j ≡ some v → Knows basis w v
  pub only : AreOfSources basis w.history
  pub low : durable w.marks ≤ w.from
  pub within : w.from ≤ length w.history

-- one of the seats asked for a mark through so many samples
abbrev pub AskedOf : List View → ℕ → Type 0
AskedOf views n = 0 < total (asks n) views

-- one of the seats had to append this sample
abbrev pub DueOf : List View → Sample → Type 0
DueOf views sample = AnyOf (λ v. IsAmong v.due sample) views

-- the front is as the seats share it, and its terms are those
pub record Has {V : Type 0} (basis : Basis) (w : World) (front : FrontAccount V) : Type 0 where
  pub history : front.history ≡ w.history
  pub marks : front.marks ≡ w.marks
  pub from : front.from ≡ w.from
  pub stopped : front.stopped ≡ w.stopped
  pub spare : front.spare ≡ w.spare
  pub terms : front.terms ≡ front_part basis.terms

module _ {D : Type 0} (disk : DiskOf D) (basis : Basis) where
  -- what the back keeps whatever happens, and which samples its file holds
  abbrev pub KeepsAll : Gated D → List Sample → List Mark → Type 0
  KeepsAll back samples marks = BackKeeps disk basis.terms.layouts back samples marks

  abbrev pub HoldsAll : Gated D → List Sample → Type 0
  HoldsAll back samples = FileHolds disk basis.terms.layouts basis.terms.block_limit back samples

  -- nothing is out to be written: the front is stopped and the file has failed, or the file holds all that was handed out
  abbrev pub IsResting : World → Gated D → Type 0
  IsResting w back =
      ((w.stopped ≡ true) × (back.failed ≡ true))
      ⊎ ((w.stopped ≡ false) × (durable w.marks ≡ w.from) × HoldsAll back (take w.from w.history))

  -- a write of all these samples, with these marks before it, was answered so
  abbrev pub IsWrittenBy : Gated D → List Sample → List Mark → Answer → Type 0
  IsWrittenBy back samples marks (Marked mark) = HoldsAll back samples × KeepsAll back samples (marks ++ mark ∷ [])
  IsWrittenBy back samples marks (Faulted before after) = back.failed ≡ true

  -- the file while the back is in its slot and a seat is so far with the device
  abbrev pub Stands : List Sample → List Mark → Gated D → Device → Type 0
  Stands samples marks back free = Unit {0}
  Stands samples marks back resting = Unit {0}
  Stands samples marks back handed = HoldsAll back (take (durable marks) samples)
  Stands samples marks back writing = Unit {0}
  Stands samples marks back (written answer) = Unit {0}
  Stands samples marks back (settled answer) = IsWrittenBy back samples marks answer

-- it lies in the first slot
pub record FrontHome {D V : Type 0} (basis : Basis) (w : World) (homes : List (Home (Half (FrontAccount V) (Gated D)))) : Type 0 where
  pub front : FrontAccount V
  pub home_is : get_elem? homes 0 ≡ some (some (TheFront front))
  pub has_it : Has basis w front

-- The back lies in the second slot: it keeps what was handed out and all marks.
pub record BackHome {D V : Type 0} (disk : DiskOf D) (basis : Basis) (w : World) (views : List View) (homes : List (Home (Half (FrontAccount V) (Gated D)))) : Type 0 where
  pub back : Gated D
  pub home_is : get_elem? homes 1 ≡ some (some (TheBack back))
  pub terms : back_terms disk back ≡ back_part basis.terms
  pub keeps : KeepsAll disk basis back (take w.from w.history) w.marks
  pub rests : blocks_out views ≡ 0 → IsResting disk basis w back
  pub stands : (j : ℕ) (v : View) → get_elem? views j ≡ some v → Stands disk basis (take w.from w.history) w.marks back v.device

-- Of the slots: the front lies in the first while the turn word is even, which is empty while it is odd; it has its spare
-- block just while no seat's is out; and the back lies in the second, which is empty while a seat has it out.
pub record SlotsHold {D V : Type 0} (disk : DiskOf D) (basis : Basis) (w : World) (views : List View) (homes : List (Home (Half (FrontAccount V) (Gated D)))) : Type 0 where
  pub two : length homes ≡ 2
  pub spare_is : w.spare ≡ nat_lt (blocks_out views) 1
  pub here : w.word % 2 ≡ 0 → FrontHome basis w homes
  pub away : w.word % 2 ≡ 1 → get_elem? homes 0 ≡ some none
  pub back_here : backs_out views ≡ 0 → BackHome disk basis w views homes
  pub back_away : backs_out views ≡ 1 → get_elem? homes 1 ≡ some none

-- the rule
pub record Runs {D V : Type 0} (disk : DiskOf D) (basis : Basis) (s : State (Half (FrontAccount V) (Gated D)) View) : Type 0 where
  pub shared : World
  pub device : ℕ
  pub words : s.words ≡ shared.word ∷ device ∷ []
  pub turns : TurnsCount shared.word device s.views
  pub seats : SeatsKnow basis shared s.views
  pub slots : SlotsHold disk basis shared s.views s.homes
  pub marks : MarksCaused (AskedOf s.views) (DueOf s.views) basis.terms.layouts basis.terms.block_limit shared.history basis.begun shared.marks
