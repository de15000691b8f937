use Rattle.std.proofs.Common.{◌≡◌, ℕ, [], ◌∷◌, ◌++◌, ◌∙◌, ap, arith}
use Rattle.std.proofs.lemmas.Result.{on_ok_weaker}
use Rattle.mdf_block.specs.declared.link.Link.{Link}
use Rattle.mdf_block.specs.declared.link.Link.TheVariants as links
use Rattle.mdf_tree.specs.Group.{next_if}
use Rattle.mdf_tree.specs.Head.{header_block, head_groups, past_history}
use Rattle.mdf_spell.proofs.Histories.{head_placed}
use Rattle.mdf_spell.proofs.history.place_all.Goals as goal

pub returns : goal.returns
returns c =
    let w0 = c.args.draft.now in
    let head = c.args.head.now in
    let entries = c.args.history.now ++ c.args.last.now ∷ [] in
    let more = c.args.more in
    let number : c.in_ok-groups.groups ≡ head_groups head entries =
    omega (arith, c.in_ok-groups.ensures.sum.0, c.in_ok-comment.ensures, c.note_count.ensures.count) in
    let groups = next_if more (head_groups head entries) in
    let own = c.in_ok-place_header.ensures.ok
    ∙ ap (λ (n : ℕ). w0 ++ header_block n (links.Block 1) c.next_if.result head ∷ []) c.in_ok-comment.ensures
    ∙ ap (λ (link : Link). w0 ++ header_block (past_history 1 entries) (links.Block 1) link head ∷ [])
    (c.next_if.ensures ∙ ap (λ (n : ℕ). next_if more n) number) in
    on_ok_weaker c.place_note.result
    (λ placed. head_placed w0 c.place_header.new.draft c.place_history.new.draft c.place_note.new.draft head c.args.history.now c.args.last.now groups
    c.requires own c.in_ok-place_history.ensures placed)
    c.place_note.ensures.ok
