use Rattle.std.proofs.Common.{◌≡◌, ◌+◌, ◌≤◌, [], length, ap, subst, arith}
use Rattle.std.specs.List.{AllByRecursion}
use Rattle.std.specs.Prelude.{slice_index_or}
use Rattle.mdf_stream.specs.Parts.{stream_size}
use Rattle.mdf_layout.specs.Layout as layouts
use Rattle.mdf_layout.specs.Layout.{Layout}
use Rattle.mdf_content.specs.Records.{record_size}
use Rattle.mdf_content.proofs.Laid.{laid_shape}
use Rattle.mdf_content.proofs.found.group_found_in.Goals as goal

pub returns-clause-inside : goal.returns-clause-inside
returns-clause-inside g c =
    let held = c.args.held.now in
    let group = c.args.group.now in
    let total = stream_size held.view.now in
    let listed = slice_index_or held.lists.now c.args.k [] in
    let long : length c.args.places.now ≡ length listed = ap length c.requires.listed in record {
      few = omega (arith, c.min-count.ensures, c.len.ensures, long);
      room = subst (λ (l : Layout). AllByRecursion (λ place. place + layouts.record_size l ≤ total) listed)
          (laid_shape group c.in_ok-shape.shape c.in_ok-shape.ensures.found)
          (subst (AllByRecursion (λ place. place + record_size group ≤ total)) c.requires.listed c.requires.room);
      values = c.in_ok-values.ensures.inside;
    }
