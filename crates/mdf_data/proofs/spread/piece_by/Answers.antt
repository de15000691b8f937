use Rattle.std.proofs.Common.{◌∙◌}
use Rattle.mdf_stream.specs.Parts.{stream_size}
use Rattle.mdf_data.proofs.Groups.{piece_stands}
use Rattle.mdf_data.proofs.spread.piece_by.Goals as goal

pub returns-clause-piece : goal.returns-clause-piece
returns-clause-piece g c = λ known is_table.
    let piece = c.in_ok-piece in
    piece_stands (stream_size c.args.view.now) c.args.id_size known c.args.at c.in-Some.id c.get-group.result piece.piece
    (c.get-group.ensures ∙ is_table c.in-Some.id)
    piece.ensures.place piece.ensures.within piece.ensures.fits piece.ensures.group
