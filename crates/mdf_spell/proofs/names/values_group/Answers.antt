use Rattle.std.proofs.Common.{◌+◌, ℕ, List, ◌∷◌, drop, slice_index_or, sym, ◌∙◌, ap}
use Rattle.mdf_block.proofs.Rests.{rest_is}
use Rattle.mdf_group.specs.declared.row.GroupRow.{GroupRow}
use Rattle.mdf_spell.specs.Values.{values_group}
use Rattle.mdf_spell.proofs.Lists.{cut_at}
use Rattle.mdf_spell.proofs.Links.{is_group, other_group, no_group, no_number}
use Rattle.mdf_spell.proofs.names.values_group.Goals as goal

pub returns-then-is_at : goal.returns-then-is_at
returns-then-is_at c =
    let rows = c.args.rows.now in
    let numbers = c.args.numbers.now in
    let at = c.args.at in
    let i = c.loop-i.i in
    let row = c.index-rows-i.result in
    let n = slice_index_or numbers i 0 in
    is_group row (drop (i + 1) rows) n (drop (i + 1) numbers) at (sym c.is_at.ensures ∙ c.if-is_at.true)
    ∙ ap (λ (left : List GroupRow). values_group left (n ∷ drop (i + 1) numbers) at) (sym (rest_is rows i row c.loop-i-test.true c.index-rows-i.is))
    ∙ ap (λ (left : List ℕ). values_group (drop i rows) left at) (sym (cut_at numbers i 0 c.if-i-numbers.true))
    ∙ c.loop-i.invariant

pub loop-i-preserved : goal.loop-i-preserved
loop-i-preserved c =
    let rows = c.args.rows.now in
    let numbers = c.args.numbers.now in
    let at = c.args.at in
    let i = c.loop-i.i in
    let row = c.index-rows-i.result in
    let n = slice_index_or numbers i 0 in
    other_group row (drop (i + 1) rows) n (drop (i + 1) numbers) at (sym c.is_at.ensures ∙ c.if-is_at.false)
    ∙ ap (λ (left : List GroupRow). values_group left (n ∷ drop (i + 1) numbers) at) (sym (rest_is rows i row c.loop-i-test.true c.index-rows-i.is))
    ∙ ap (λ (left : List ℕ). values_group (drop i rows) left at) (sym (cut_at numbers i 0 c.if-i-numbers.true))
    ∙ c.loop-i.invariant

pub returns-else-i-numbers : goal.returns-else-i-numbers
returns-else-i-numbers c = no_number c.args.rows.now c.args.numbers.now c.args.at c.loop-i.i c.if-i-numbers.false ∙ c.loop-i.invariant

pub returns-after-loop-i : goal.returns-after-loop-i
returns-after-loop-i c = no_group c.args.rows.now c.args.numbers.now c.args.at c.loop-i.i c.loop-i-test.false ∙ c.loop-i.invariant
