use Rattle.std.proofs.Common.{◌≡◌, ◌<◌, ◌∙◌, [], ap, arith, length, map, subst, sym}
use Rattle.std.proofs.lemmas.Bool.Decides.{nat_tests}
use Rattle.acq_script.specs.declared.script.Script.{Script}
use Rattle.book_rotate.specs.Part.{is_done}
use Rattle.book_rotate.proofs.Dones.{done_more, items_of, not_done, nothing_in}
use Rattle.book_rotate.proofs.rotation.Rotation.is_done.Goals as goal

pub returns-then-not-is_empty : goal.returns-then-not-is_empty
returns-then-not-is_empty c =
    let lists = c.as_slice-list-items.result.now in
    let list = c.list-item.result in
    let some : 0 < length list.items = grind (arith, nat_tests, c.is_empty.ensures, c.if-not-is_empty.true, list.ok.0) in
    let left = not_done items_of lists c.loop-list.list-index list c.loop-list-test.true (subst (λ l. 0 < length (items_of l)) c.list-item.is some) in
    let same : map items_of lists ≡ c.args.self.now.lists =
    ap (map items_of) c.as_slice-list-items.ensures.value ∙ ap (λ (script : Script). script.lists) c.self.view_is in
    sym (ap is_done (sym same) ∙ left)

-- one list more of which nothing is left
pub loop-list-preserved : goal.loop-list-preserved
loop-list-preserved c =
    let list = c.list-item.result in
    let none : length list.items ≡ 0 = grind (arith, nat_tests, c.is_empty.ensures, c.if-not-is_empty.false, list.ok.0) in
    done_more items_of c.as_slice-list-items.result.now c.loop-list.list-index list c.loop-list-test.true c.loop-list.invariant
    (subst (λ l. items_of l ≡ []) c.list-item.is (nothing_in list.items none))
