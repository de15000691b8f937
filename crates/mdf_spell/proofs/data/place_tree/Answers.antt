use Rattle.std.proofs.Common.{ℕ, ◌+◌, List, ◌++◌, length, ◌∙◌, ap}
use Rattle.mdf_block.specs.declared.link.Link.{Link}
use Rattle.mdf_block.specs.declared.link.Link.TheVariants as links
use Rattle.mdf_tree.specs.Group.{data_group_blocks}
use Rattle.mdf_spell.specs.Values.{with_streams}
use Rattle.mdf_spell.specs.Counts.{counted_data}
use Rattle.mdf_spell.specs.Session.{session_names}
use Rattle.mdf_spell.proofs.Wholes.{tree_placed}
use Rattle.mdf_spell.proofs.data.place_tree.Goals as goal

pub returns-clause-placed : goal.returns-clause-placed
returns-clause-placed c =
    let w0 = c.args.draft.now in
    let recovered = c.args.recovered.now in
    let records = c.in_ok-records.field-0.1 in
    let linked = c.in_ok-values.ensures
    ∙ ap (λ (n : ℕ). with_streams n c.as_slice.result.now) c.in_ok-plus.ensures.sum.0
    ∙ ap (λ (given : List Link). with_streams (records + 1) given) c.as_slice.ensures.value in
    let row = c.in_ok-place_row.ensures.placed
    ∙ ap (λ (values : List Link). w0 ++ data_group_blocks (length w0) links.Nothing (links.Block records) values
    (counted_data recovered.counts.now recovered.totals.now recovered.row.now)) c.as_slice-2.ensures.value in
    tree_placed w0 c.place_row.new.draft recovered c.in_ok-n.n records c.in_ok-names.names.items c.in_ok-values.values.items
    c.in_ok-n.ensures.number.0 c.in_ok-records.ensures.1 c.in_ok-names.ensures linked row

pub returns-clause-names : goal.returns-clause-names
returns-clause-names c =
    c.in_ok-names.ensures ∙ ap (λ (n : ℕ). session_names n c.args.recovered.now.row.now) c.in_ok-n.ensures.number.0
