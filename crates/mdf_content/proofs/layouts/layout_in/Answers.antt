use Rattle.std.proofs.Common.{Ok, sym, ◌∙◌, ap, subst}
use Rattle.mdf_layout.specs.Layout.{IsRuled}
use Rattle.mdf_content.proofs.Laid.{layout_is, laid_is, offsets_placed}
use Rattle.mdf_content.proofs.layouts.layout_in.Goals as goal

pub returns-in-Ok-clause-found : goal.returns-in-Ok-clause-found
returns-in-Ok-clause-found c =
    let group = c.args.group.now in
    let shape = c.in-Ok.shape in
    let is = layout_is group shape c.in_ok-fields.fields c.placed_channels.result.now c.in-Ok.ensures.ok c.in_ok-fields.ensures c.placed_channels.ensures in
    laid_is group (subst IsRuled is c.in-Ok.ensures.ruled) ∙ ap Ok (sym is)

pub returns-in-Ok-clause-offsets : goal.returns-in-Ok-clause-offsets
returns-in-Ok-clause-offsets c = λ other.
    let group = c.args.group.now in
    let shape = c.in-Ok.shape in
    let is = layout_is group shape c.in_ok-fields.fields c.placed_channels.result.now c.in-Ok.ensures.ok c.in_ok-fields.ensures c.placed_channels.ensures in
    offsets_placed group other (subst IsRuled is c.in-Ok.ensures.ruled)
