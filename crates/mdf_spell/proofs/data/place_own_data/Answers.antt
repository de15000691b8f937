use Rattle.std.proofs.Common.{List, [], ◌∷◌, ◌++◌, ◌∙◌, ap}
use Rattle.std.proofs.lemmas.Result.{on_ok_weaker}
use Rattle.mdf_format.specs.declared.kind.Kind.TheVariants.{Dt}
use Rattle.mdf_block.specs.declared.link.Link.{Link}
use Rattle.mdf_block.specs.Draft.{linked}
use Rattle.mdf_spell.specs.Session.{data_block}
use Rattle.mdf_spell.proofs.Wholes.{data_placed}
use Rattle.mdf_spell.proofs.data.place_own_data.Goals as goal

pub returns : goal.returns
returns c =
    let w0 = c.args.draft.now in
    let content = c.args.content in
    let placed = c.in_ok-place_linked.ensures.ok
    ∙ ap (λ (links : List Link). w0 ++ linked Dt links content ∷ []) c.new.ensures.items in
    on_ok_weaker c.place_streams.result
    (λ values. data_placed w0 c.place_linked.new.self c.place_streams.new.draft _ (data_block Dt content) placed values)
    c.place_streams.ensures
