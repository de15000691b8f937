use Rattle.std.proofs.Common.{[], ◌∙◌, List, Option, ap, sym}
use Rattle.std.specs.Option.{unwrap_or}
use Rattle.std.proofs.lemmas.Option.{get_or_from_slice_get, unwrap_or-slice_get}
use Rattle.mdf_layout.specs.declared.sample.Sample.{Sample}
use Rattle.book_view.specs.Latest.{latest_of}
use Rattle.book_view.proofs.view.latest_at.Goals as goal

pub returns-in-Some : goal.returns-in-Some
returns-in-Some c =
    c.latest_in.ensures
    ∙ ap (latest_of c.args.group) (c.as_slice.ensures ∙ sym (get_or_from_slice_get c.args.chunks.now c.args.k c.in-Some.chunk.now [] (sym c.in-Some.ensures)))

pub returns-in-None : goal.returns-in-None
returns-in-None c =
    ap (latest_of c.args.group) (ap (λ (o : Option (List Sample)). unwrap_or o []) c.in-None.ensures ∙ unwrap_or-slice_get c.args.chunks.now c.args.k [])
