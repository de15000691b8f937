-- No record id of a recording stands twice.
use Rattle.std.proofs.Common.{◌≡◌, ◌≢◌, ◌+◌, ◌<◌, ℕ, List, [], ◌∷◌, map, refl, sym, ◌∙◌, ap, subst, lit<, arith}
use Rattle.std.specs.Prelude.{slice_get, codes}
use Rattle.std.specs.List.{AllByRecursion}
use Rattle.mdf_format.specs.Block.{IsBlock}
use Rattle.mdf_format.specs.Identification.{IsUnfinalized}
use Rattle.mdf_format.specs.declared.kind.Kind.{Kind}
use Rattle.mdf_head.specs.declared.entry.Head.{Head}
use Rattle.mdf_group.specs.declared.row.GroupRow.{GroupRow}
use Rattle.mdf_group.specs.declared.row.DataRow.{DataRow}
use Rattle.mdf_group.specs.Recordable.{AreRecordable}
use Rattle.mdf_group.specs.Standing.{AreDistinct, StandDataGroups}
use Rattle.mdf_group.proofs.Uniques.{data_groups_unique}
use Rattle.mdf_group.proofs.Nested.{without_limit}
use Rattle.mdf_block.proofs.Cases.{some_injective}
use Rattle.mdf_model.proofs.Onces.{head_unique}
use Rattle.mdf_block.proofs.Names.{none_behind}
use Rattle.mdf_spell.specs.Recording.{recorded_row, recorded_head, recorded_history, IsRecordingTree}
use Rattle.mdf_carried.specs.Recovered.{Recovery, IsRecovery, AreIdsApart}
use Rattle.mdf_carried.proofs.Numbers.{AreNumbered}
use Rattle.mdf_carried.proofs.Placed.{RulesAgree, is_recorded}

abbrev id_of : GroupRow → ℕ
id_of group = group.id

-- ids that are counted on are not one before them
above : (n id : ℕ) (groups : List GroupRow) → n < id → AreNumbered id groups → AllByRecursion (λ (m : ℕ). m ≢ n) (map id_of groups)
above n id [] below are = tt
above n id (group ∷ groups) below are =
    (λ same. omega (arith, same, are.0, below), above n (id + 1) groups (omega (arith, below)) are.1)

distinct : (id : ℕ) (groups : List GroupRow) → AreNumbered id groups → AreDistinct (map id_of groups)
unfolding AreDistinct
distinct id [] are = tt
distinct id (group ∷ groups) are = (above group.id (id + 1) groups (omega (arith, are.0)) are.1, distinct (id + 1) groups are.1)

-- the first data group that is found in the file is that of the tree
row_is : (file : List ℕ) (start : ℕ) (rows : List GroupRow) (found : Recovery) → IsRecordingTree file start rows → IsRecovery file found
    → found.row ≡ recorded_row start rows
row_is file start rows found tree is =
    let row = recorded_row start rows in
    let head = recorded_head start rows in
    let unfinalized : IsUnfinalized file = is.records.opened.1.recording.form.unfinalized in
    let none : (kind : Kind) → IsBlock file 0 kind → ⊥ = none_behind file (codes "UnFinMF ") 85 unfinalized refl (lit< tt) in
    let heads : found.head ≡ head = head_unique file found.head head found.history (recorded_history start rows) is.stands tree.head in
    let same : found.rows ≡ row ∷ [] = data_groups_unique file none head.first_dg found.rows (row ∷ [])
    (subst (λ (h : Head). StandDataGroups file h.first_dg found.rows) heads is.tree) (without_limit file head.first_dg (row ∷ []) tree.groups) in
    some_injective found.row row (sym is.first ∙ ap (λ (rs : List DataRow). slice_get rs 0) same)

pub ids_apart : RulesAgree → (file : List ℕ) (start : ℕ) (rows : List GroupRow) (found : Recovery) → AreRecordable rows
    → IsRecordingTree file start rows → IsRecovery file found → AreIdsApart found
ids_apart agree file start rows found are tree is =
    let row = recorded_row start rows in
    subst (λ (r : DataRow). AreDistinct (map id_of r.groups)) (sym (row_is file start rows found tree is))
    (distinct 1 row.groups (is_recorded agree file start rows are tree).numbered)
