use Rattle.std.proofs.Common.{rules, ◌≡◌, ◌++◌, ◌∷◌, [], ◌∙◌, arith}
use Rattle.mdf_content.specs.Found.{IsGroupInside, fetched}
use Rattle.mdf_content.proofs.Pops.{one_popped, rest_all}
use Rattle.mdf_content.proofs.contents.add_fetched_in.Goals as goal

pub groups-preserved : goal.groups-preserved
groups-preserved g c =
    let loop = c.groups in
    let read = c.in_ok-contents.ensures in
    let view = c.args.view.now in
    let lists = c.args.lists.now in
    let rest = c.pop.new.self.items in
    let items : loop.groups.items ≡ rest ++ c.in-Some.found ∷ [] = search rules in record {
      fetched = λ f told.
          one_popped (fetched f view lists) loop.groups.items rest c.in-Some.found loop.all c.push.new.self _ c.in_ok-contents.contents items
          (read.reads.seen f (loop.invariant.same ∙ told)) c.in_ok-push.ensures.ok (loop.invariant.fetched f told);
      inside = rest_all (IsGroupInside (g.P.Span.size c.args.span.now) view lists) loop.groups.items rest c.in-Some.found items loop.invariant.inside;
      same = read.reads.same ∙ loop.invariant.same;
      size = read.reads.size ∙ loop.invariant.size;
      later = omega (arith, read.reads.cause.later, loop.invariant.later);
    }
