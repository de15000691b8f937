use Rattle.std.proofs.Common.{List, ℕ, ◌≡◌}
use Rattle.std.proofs.lemmas.Result.{IfOk-weaker}
use Rattle.mdf_block.specs.Draft.{written, AllStand}
use Rattle.mdf_spell.specs.Session.{finalized_ident}
use Rattle.mdf_spell.proofs.Filing.{blocks_written, blocks_keep}
use Rattle.mdf_spell.proofs.Finding.{both_if}
use Rattle.tool_final.specs.Finalized.{KeepsSession}
use Rattle.tool_final.proofs.Sessions.{keeps_session}
use Rattle.tool_final.proofs.spell.spell_session.Goals as goal

pub returns-clause-of : goal.returns-clause-of
returns-clause-of c =
    let made = c.in_ok-blocks.ensures in
    IfOk-weaker c.into_pieces.result _ _
    (λ bytes is. record {
      recovered = made.recovered;
      is_of = made.is_of;
      bytes_are = blocks_written made.recovered c.args.now_ns c.in_ok-blocks.blocks bytes made.blocks_are is;
    })
    c.into_pieces.ensures.is

pub returns-clause-keeps : goal.returns-clause-keeps
returns-clause-keeps c =
    let made = c.in_ok-blocks.ensures in
    let blocks = c.in_ok-blocks.blocks in
    let now = c.args.now_ns in
    both_if (λ (bytes : List ℕ). bytes ≡ written finalized_ident blocks) (λ (bytes : List ℕ). AllStand bytes blocks) (KeepsSession c.args.session now)
    c.into_pieces.result
    (λ bytes is stand. keeps_session c.args.session made.recovered now bytes made.is_of made.counted
    (blocks_written made.recovered now blocks bytes made.blocks_are is)
    (λ file of_file. blocks_keep file made.recovered now blocks bytes c.ranges.now_ns.fits made.counted made.fit made.blocks_are stand of_file))
    c.into_pieces.ensures.is c.into_pieces.ensures.stand
