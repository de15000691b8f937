use Rattle.std.proofs.Common.{◌≡◌, ℕ, List, ◌++◌, length, ◌∙◌, ap, subst}
use Rattle.std.proofs.lemmas.Result.{IfOk-weaker}
use Rattle.std.specs.List.{AllByRecursion}
use Rattle.mdf_format.specs.declared.kind.Kind.TheVariants.{Fh}
use Rattle.mdf_block.specs.Draft.{Placed, written, AllStand}
use Rattle.mdf_block.proofs.Prefixes.{all_kept}
use Rattle.mdf_group.specs.declared.row.GroupRow.{GroupRow}
use Rattle.mdf_tree.specs.Group.{groups_blocks}
use Rattle.mdf_spell.specs.Recording.{recording_ident, recording_groups, value_links, recording_blocks, head_file, IsRecordingTree, FindsHead, FindsGroups}
use Rattle.mdf_tree.specs.Sized.{IsWholeSized}
use Rattle.mdf_spell.proofs.Fronts.{whole_is}
use Rattle.mdf_spell.proofs.Trees.{tree_stands}
use Rattle.mdf_spell.proofs.Writables.{recording_writable}
use Rattle.mdf_spell.proofs.Finding.{both_if, head_first, recording_head_found, recording_found}
use Rattle.mdf_spell.proofs.recording.recording_head.Goals as goal

-- the blocks that are placed
placed : (c : goal.After-bytes) → c.place_groups.new.draft ≡ recording_blocks c.args.start_ns c.args.rows.now
placed c =
    let rows = c.args.rows.now in
    let w1 = c.place_front.new.draft in
    let groups = subst (λ (given : List GroupRow). c.place_groups.new.draft ≡ w1 ++ groups_blocks (length w1) (value_links given) (recording_groups given))
    c.as_slice.ensures c.in_ok-place_groups.ensures.placed in
    whole_is w1 c.place_groups.new.draft c.args.start_ns rows c.requires.some c.in_ok-place_front.ensures groups

pub returns-clause-written : goal.returns-clause-written
returns-clause-written c =
    IfOk-weaker c.bytes.result _ _
    (λ bytes is. is ∙ ap (λ (ident : List ℕ). written ident c.place_groups.new.draft) c.ident.ensures
    ∙ ap (λ (blocks : List Placed). written (recording_ident c.args.form) blocks) (placed c)) c.bytes.ensures.is

pub returns-clause-tree : goal.returns-clause-tree
returns-clause-tree c =
    let rows = c.args.rows.now in
    let start = c.args.start_ns in
    let sized = subst (λ (given : List GroupRow). AllByRecursion IsWholeSized given) c.as_slice.ensures c.in_ok-place_groups.ensures.sized in
    IfOk-weaker c.bytes.result _ _
    (λ bytes stand more.
    tree_stands (bytes ++ more) start rows c.ranges.start_ns.fits (recording_writable rows c.requires sized)
    (all_kept bytes more (recording_blocks start rows) (subst (λ (blocks : List Placed). AllStand bytes blocks) (placed c) stand)))
    c.bytes.ensures.stand

pub returns-clause-head_found : goal.returns-clause-head_found
returns-clause-head_found c =
    let rows = c.args.rows.now in
    let start = c.args.start_ns in
    both_if (λ (bytes : List ℕ). bytes ≡ head_file c.args.form start rows) (λ (bytes : List ℕ). (more : List ℕ) → IsRecordingTree (bytes ++ more) start rows)
    (λ (bytes : List ℕ). (more : List ℕ) → FindsHead (bytes ++ more) start rows) c.bytes.result
    (λ bytes is tree more. recording_head_found (bytes ++ more) start rows (head_first bytes more c.args.form start rows is Fh) (tree more))
    (returns-clause-written c) (returns-clause-tree c)

pub returns-clause-groups_found : goal.returns-clause-groups_found
returns-clause-groups_found c =
    let rows = c.args.rows.now in
    let start = c.args.start_ns in
    both_if (λ (bytes : List ℕ). bytes ≡ head_file c.args.form start rows) (λ (bytes : List ℕ). (more : List ℕ) → IsRecordingTree (bytes ++ more) start rows)
    (λ (bytes : List ℕ). (more : List ℕ) → FindsGroups (bytes ++ more) start rows) c.bytes.result
    (λ bytes is tree more. recording_found (bytes ++ more) start rows c.requires (head_first bytes more c.args.form start rows is) (tree more))
    (returns-clause-written c) (returns-clause-tree c)
