-- What is queued is shown.
use Rattle.std.proofs.Common.{◌≡◌, ℕ, List, [], length, fold, sym, ◌∙◌, ap, subst, arith}
use Rattle.std.proofs.Math.Seq.{take_all}
use mathlib.Core.List.{IsPrefix}
use Rattle.mdf_gate.proofs.Carrying.{prefix_self}
use Rattle.crossbeam_utils.specs.Register.{TurnsAt}
use Rattle.book_view.specs.Copies.{Holds, IsWhole, Opened, Tells, added, log_of}
use Rattle.book_view.specs.Handed.{Leads, Pends}
use Rattle.book_view.specs.Names.{name_of}
use Rattle.book_view.specs.declared.front.Front.{Front}
use Rattle.book_view.specs.declared.front.Fronts.{Fronts}
use Rattle.book_view.specs.declared.store.Store.{Store}
use Rattle.book_view.specs.declared.store.Addition.{Addition}
use Rattle.book_view.proofs.Rules.{opens, publishes}

-- the copy of a log that is empty is shown first
pub opening : (seat : ℕ) (view : List ℕ) (shown : Store) (pending : List Addition) → IsWhole shown → pending ≡ []
    → (next : Store) → next ≡ fold added shown pending → TurnsAt Holds seat view shown next Opened
opening seat view shown pending whole nothing next next_is =
    let same : next ≡ shown = next_is ∙ ap (fold added shown) nothing in
    opens seat view shown next (subst IsWhole (sym same) whole) (ap log_of same)

module _ (copy : Store) (pending : List Addition) (fronts : Fronts) (is : Pends copy pending fronts) (lead : Leads copy pending fronts) where
  -- the copy with the additions takes the other's place
  pub turns : (seat : ℕ) (view : List ℕ) (next : Store) → next ≡ fold added copy pending → TurnsAt Holds seat view copy next Tells
  turns seat view next next_is =
      publishes seat view copy next (subst IsWhole (sym next_is) lead.whole) (
      ap log_of next_is ∙ ap (λ (front : Front). name_of front.seen.book) lead.front_is ∙ ap name_of is.one_log
      ∙ sym (ap (λ (front : Front). name_of front.seen.book) is.front_is)
      )

  -- and then all of the log is shown
  pub pends_shown : (now : Store) (left : List Addition) (shown : Front) → now ≡ fold added copy pending → left ≡ [] → shown ≡ fronts.log
      → Pends now left (record { shown = shown; log = fronts.log })
  pends_shown now left shown now_is nothing shown_is =
      subst (λ (xs : List Addition). Pends now xs (record { shown = shown; log = fronts.log })) (sym nothing) (record {
        front_is = ap (λ (store : Store). store.front) now_is ∙ lead.front_is ∙ sym shown_is;
        whole = subst IsWhole (sym now_is) lead.whole;
        stay = take_all (length now.chunks) now.chunks (omega arith);
        one_log = ap (λ (front : Front). front.seen.book) (sym shown_is);
        begins = subst (λ (front : Front). IsPrefix front.seen.log fronts.log.seen.log) (sym shown_is) (prefix_self fronts.log.seen.log);
      })
