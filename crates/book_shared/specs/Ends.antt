-- What is so of the two halves when all seats are one again.
use Rattle.std.specs.Prelude.{◌≡◌, ◌<◌, true, false, List, take}
use mathlib.Core.Option.{some}
use mathlib.Core.List.{IsPrefix}
use lib.ListN.{get_elem?}
use Rattle.mdf_gate.specs.Gated.{Gated}
use Rattle.book_owned.specs.Members.{DiskOf}
use Rattle.book_owned.specs.BackHalf.{back_terms}
use Rattle.book_owned.specs.FrontHalf.{FrontAccount}
use Rattle.book_owned.specs.Marks.{durable}
use Rattle.book_owned.specs.Split.{front_part, back_part}
use Rattle.book_shared.specs.Basis.{Basis}
use Rattle.book_shared.specs.Causes.{IsAmong, MarksCaused}
use Rattle.book_shared.specs.Plays.{Slot}
use Rattle.book_shared.specs.Rule.{asks, AreOwn, AreOld, AreOfSources, KeepsAll, HoldsAll}
use Rattle.book_shared.specs.declared.half.Half.TheVariants.{TheFront, TheBack}
use Rattle.book_shared.specs.declared.view.View.{View}

-- both lie in their slots and are halves of one book, and what the seat knew is so of it
pub record Ended {D V : Type 0} (disk : DiskOf D) (basis : Basis) (v : View) (slots : List (Slot D V)) : Type 0 where
  pub front : FrontAccount V
  pub back : Gated D
  pub front_is : get_elem? slots 0 ≡ some (TheFront front)
  pub back_is : get_elem? slots 1 ≡ some (TheBack back)
  pub spare : front.spare ≡ true
  pub stop : front.stopped ≡ back.failed
  pub keeps : KeepsAll disk basis back front.history front.marks
  pub holds : front.stopped ≡ false → HoldsAll disk basis back (take (durable front.marks) front.history)
  pub front_terms : front.terms ≡ front_part basis.terms
  pub file_terms : back_terms disk back ≡ back_part basis.terms
  pub seen : IsPrefix v.seen front.history
  pub kept : IsPrefix v.kept front.marks
  pub knows : v.knows ≡ true → front.stopped ≡ true
  pub mine : AreOwn basis.owners front.history v.mine
  pub olds : AreOld v.seen v.kept v.olds
  pub only : AreOfSources basis front.history
  pub marks : MarksCaused (λ n. 0 < asks n v) (IsAmong v.due) basis.terms.layouts basis.terms.block_limit front.history basis.begun front.marks
