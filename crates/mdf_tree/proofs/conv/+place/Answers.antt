use Rattle.std.proofs.Common.{◌+◌, ◌++◌, List, length, drop, sym, ◌∙◌, ap}
use Rattle.std.proofs.lemmas.Result.{on_ok_weaker}
use Rattle.mdf_block.proofs.Rests.{rest_is}
use Rattle.mdf_conv.specs.declared.row.Ref.{Ref}
use Rattle.mdf_tree.specs.Conv.{refs_blocks, conv_blocks}
use Rattle.mdf_tree.proofs.Placing.{refs_step, refs_done, conv_placed}
use Rattle.mdf_tree.proofs.conv.+place.Goals as goal

pub place_refs-loop-found-preserved : goal.place_refs-loop-found-preserved
place_refs-loop-found-preserved t c =
    let refs = c.args.refs.now in
    let k = c.loop-found.found-index in
    let found = c.found-item.result in
    let w = c.loop-found.draft in
    let inner = conv_blocks c.args.levels in
    let cut = rest_is refs k found c.loop-found-test.true c.found-item.is in
    refs_step inner w c.place_ref.new.draft found (drop (k + 1) refs) c.in_ok-place_ref.ensures
    ∙ ap (λ (left : List Ref). w ++ refs_blocks inner (length w) left) (sym cut)
    ∙ c.loop-found.invariant

pub place_refs-returns : goal.place_refs-returns
place_refs-returns t c =
    refs_done (conv_blocks c.args.levels) c.loop-found.draft c.args.refs.now c.loop-found.found-index c.loop-found-test.false
    ∙ c.loop-found.invariant

pub place_whole-returns : goal.place_whole-returns
place_whole-returns t c =
    let conv = c.args.conv.now in
    let inner = conv_blocks c.args.levels in
    let w2 = c.place_notes.new.draft in
    on_ok_weaker c.place_refs.result
    (λ last. conv_placed inner conv c.args.draft.now c.place_own.new.draft w2 c.place_refs.new.draft c.in_ok-place_own.ensures c.in_ok-place_notes.ensures
    (last ∙ ap (λ (rows : List Ref). w2 ++ refs_blocks inner (length w2) rows) c.as_slice.ensures))
    c.place_refs.ensures
