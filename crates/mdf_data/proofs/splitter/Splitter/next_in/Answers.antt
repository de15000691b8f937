use Rattle.std.proofs.Common.{◌≡◌, List, ◌∙◌, ap, subst}
use Rattle.mdf_data.specs.declared.known.Known.{Known}
use Rattle.mdf_stream.specs.Parts.{stream_size}
use Rattle.mdf_data.specs.Record.{group_of, IsPieceAt}
use Rattle.mdf_data.specs.Splitting.{Splitting}
use Rattle.mdf_data.proofs.Groups.{piece_stands}
use Rattle.mdf_data.proofs.splitter.Splitter.next_in.Goals as goal

pub returns-clause-piece : goal.returns-clause-piece
returns-clause-piece g c =
    let inside = c.self.inside in
    let piece = c.in_ok-piece in
    let total = stream_size c.args.view.now in
    let group : c.group_of-group.result ≡ group_of inside.known c.in-Some.id 0 =
    c.group_of-group.ensures ∙ ap (λ (known : List Known). group_of known c.in-Some.id 0) c.as_slice.ensures in
    subst (λ (s : Splitting). IsPieceAt total s.id_size s.known s.place piece.piece) c.self.view_is
    (piece_stands total inside.id_size inside.known inside.place c.in-Some.id c.group_of-group.result piece.piece group
    piece.ensures.place piece.ensures.within piece.ensures.fits piece.ensures.group)
