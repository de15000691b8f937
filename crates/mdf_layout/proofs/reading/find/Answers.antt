use Rattle.std.proofs.Common.{◌∙◌, sym, ap, arith}
use Rattle.mdf_layout.specs.Values.{Finder}
use Rattle.mdf_layout.proofs.Entered.{finder_found}
use Rattle.mdf_layout.proofs.reading.find.Goals as goal

pub returns : goal.returns
returns c =
    let found = finder_found c.args.streams.now c.args.stream c.index-streams-stream.result (omega (arith, c.if-stream-streams.false)) c.index-streams-stream.is in
    c.value_at.ensures.is ∙ ap (λ (find : Finder). find c.args.offset) (sym found)
