-- `Rows` as a type that may hold the type that holds it, as a conversion holds its references.
use mathlib.Core.Path.{◌≡◌, refl, sym}
use mathlib.Core.List.{List, []}
use mathlib.Core.Former.{Former, this, list, via, children}
use base.Stored.{code_map}
use denote.RattleType.{RattleType}
use denote.HoleLaws.{Alike}
use denote.HolePlaces.{Recodes, struct_places, laid}
use denote.Hole.Carrier.{listed, list-listed}
use denote.Hole.Fix.{over}
use denote.Param.Weighed.{Weighed, w_list}
use denote.Model.Placed.{view_places}
use Rattle.std.specs.formers.vec.Vec as vec
use Rattle.std.specs.declared.alloc.Global.{Global}
use Rattle.std.specs.contracts.alloc.Global as heap
use Rattle.std.specs.contracts.impls.GlobalAllocator.TheImpl.{ghosts}
use Rattle.mdf_num.specs.declared.rows.Rows.TheInside.{Inside}
use Rattle.mdf_num.specs.declared.rows.Rows.TheView.{view, invariant}
use Rattle.mdf_num.specs.contracts.rows.Rows as outer
use Rattle.mdf_num.specs.contracts.rows.Rows.TheInside as inner

-- what the list holds is one list of it
abbrev pub the_former : Former {0} → Former {0}
the_former item = list item

abbrev pub the_weighed : {item : Former {0}} → Weighed item → Weighed (the_former item)
the_weighed weighed = w_list weighed

abbrev pub the_empty : List ⊥
the_empty = []

abbrev pub the_items : (X : Type 0) → List X → List X
the_items X rows = rows

pub the_items_listed : (X : Type 0) (rows : List X) → listed _ (children (the_former this) X rows) ≡ the_items X rows
the_items_listed X rows = list-listed X rows

-- the one field, a vector
abbrev in_fields : Former {0}
in_fields = via (vec.the_former this Global) Inside (λ X fields. fields.items) (λ X v. record { items = v }) (λ X fields. refl) (λ X v. refl)

module _ (R S : RattleType) (change : R.Denot → S.Denot) where
  pub the_places : Alike R S change → Alike (outer.the_row R) (outer.the_row S) ((the_former this).map R.Denot S.Denot change)
  the_places alike =
      view_places in_fields (list this) view (λ X Y k u. refl) (λ X u. refl) R.Denot S.Denot change
      (outer.the_row R).coded (outer.the_row S).coded
      (invariant R.Denot) (invariant S.Denot) (λ u p q. refl) (λ u p q. refl) (λ u e. tt) (λ u e. tt)
      (over (inner.the_row R)) (over (inner.the_row S))
      (struct_places (inner.the_type R) (inner.the_type S) (vec.mapped change, tt) _ (λ d. refl) refl (laid _ _ _ (vec.the_places heap.the_row ghosts R S change alike), tt))

  pub the_codes_placed : Recodes R S change → Recodes (outer.the_row R) (outer.the_row S) ((the_former this).map R.Denot S.Denot change)
  the_codes_placed same rows = sym (code_map R.coded.code S.coded.code change (λ x. sym (same x)) rows)
