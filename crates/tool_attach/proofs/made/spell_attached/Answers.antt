use Rattle.std.proofs.Common.{◌≡◌, List, ℕ, ◌∙◌, ap}
use Rattle.std.proofs.lemmas.Result.{IfOk-weaker}
use Rattle.mdf_block.specs.Draft.{Placed, written, AllStand}
use Rattle.mdf_spell.specs.Session.{finalized_ident}
use Rattle.mdf_spell.proofs.Finding.{both_if}
use Rattle.tool_attach.specs.Attached.{IsAttachedOf}
use Rattle.tool_attach.proofs.Keeping.{spelled_kept}
use Rattle.tool_attach.proofs.made.spell_attached.Goals as goal

pub returns-clause-written : goal.returns-clause-written
returns-clause-written c =
    IfOk-weaker c.into_pieces.result _ _ (λ bytes is. is ∙ ap (λ (blocks : List Placed). written finalized_ident blocks) c.in_ok-blocks.ensures.placed)
    c.into_pieces.ensures.is

pub returns-clause-keeps : goal.returns-clause-keeps
returns-clause-keeps c = λ file stands writable few.
    let m = c.args.measurement in
    let rows = c.args.rows in
    let blocks = c.in_ok-blocks.blocks in
    both_if (λ (bytes : List ℕ). bytes ≡ written finalized_ident blocks) (λ (bytes : List ℕ). AllStand bytes blocks) (IsAttachedOf m rows c.args.now_ns)
    c.into_pieces.result
    (λ bytes is stand. spelled_kept file bytes blocks m rows c.args.now_ns c.ranges.now_ns.fits stands c.in_ok-blocks.ensures.fit writable few
    c.in_ok-blocks.ensures.placed is stand)
    c.into_pieces.ensures.is c.into_pieces.ensures.stand
