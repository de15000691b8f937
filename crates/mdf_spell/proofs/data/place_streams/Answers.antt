use Rattle.std.proofs.Common.{◌+◌, List, ◌∷◌, ◌++◌, ℕ, map, drop, slice_index_or, sym, ◌∙◌, ap}
use Rattle.mdf_format.specs.declared.kind.Kind.TheVariants.{Sd}
use Rattle.mdf_block.specs.declared.link.Link.{Link}
use Rattle.mdf_block.specs.declared.link.Link.TheVariants as links
use Rattle.mdf_block.proofs.Rests.{rest_is}
use Rattle.mdf_spell.specs.Values.{own_streams}
use Rattle.mdf_spell.proofs.Lists.{cut_at}
use Rattle.mdf_spell.specs.Session.{data_block}
use Rattle.mdf_spell.proofs.Links.{own_step, no_names, no_contents}
use Rattle.mdf_spell.proofs.data.place_streams.Goals as goal

pub loop-i-preserved : goal.loop-i-preserved
loop-i-preserved c =
    let names = c.args.names.now in
    let streams = c.args.streams.now in
    let i = c.loop-i.i in
    let w = c.loop-i.draft in
    let name = slice_index_or names i links.Nothing in
    let stream = c.index-streams-i.result in
    own_step w c.place_stream.new.draft name stream (drop (i + 1) names) (drop (i + 1) streams) c.in_ok-place_stream.ensures
    ∙ ap (λ (left : List Link). w ++ map (data_block Sd) (own_streams left (stream ∷ drop (i + 1) streams)))
    (sym (cut_at names i links.Nothing c.loop-i-test.true))
    ∙ ap (λ (left : List (List ℕ)). w ++ map (data_block Sd) (own_streams (drop i names) left))
    (sym (rest_is streams i stream c.if-i-streams.true c.index-streams-i.is))
    ∙ c.loop-i.invariant

pub returns-else-i-streams : goal.returns-else-i-streams
returns-else-i-streams c = no_contents c.loop-i.draft c.args.names.now c.args.streams.now c.loop-i.i c.if-i-streams.false ∙ c.loop-i.invariant

pub returns-after-loop-i : goal.returns-after-loop-i
returns-after-loop-i c = no_names c.loop-i.draft c.args.names.now c.args.streams.now c.loop-i.i c.loop-i-test.false ∙ c.loop-i.invariant
