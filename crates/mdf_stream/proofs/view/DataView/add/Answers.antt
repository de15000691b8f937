use Rattle.std.proofs.Common.{◌≡◌, ◌+◌, refl, ◌∙◌, ap, arith}
use Rattle.mdf_stream.specs.Parts.{stream_size}
use Rattle.mdf_stream.proofs.Joins.{joined_ends, joined_more}
use Rattle.mdf_stream.proofs.view.DataView.add.Goals as goal

pub invariant_of-self-2 : goal.invariant_of-self-2
invariant_of-self-2 c =
    let inside = c.self.inside in
    let ends : inside.end ≡ stream_size c.args.self.now =
    joined_ends inside.items.items inside.end c.self.invariant.0 ∙ ap stream_size c.self.view_is in
    rw c.in_ok-push.ensures.items (
      joined_more 0 inside.items.items inside.end
          (record { part = record { at = c.args.at; len = c.args.len }; end = inside.end + c.args.len }) c.self.invariant.0 refl c.requires.fits,
      omega (arith, ends, c.requires.room),
    )
