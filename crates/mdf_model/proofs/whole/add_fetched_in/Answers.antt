use Rattle.std.proofs.Common.{rules, ◌≡◌, ◌++◌, ◌∷◌, [], ◌∙◌, arith}
use Rattle.mdf_content.specs.Found.{IsFoundInside, data_fetched}
use Rattle.mdf_content.proofs.Pops.{one_popped, rest_all}
use Rattle.mdf_model.proofs.whole.add_fetched_in.Goals as goal

pub found-preserved : goal.found-preserved
found-preserved g c =
    let loop = c.found in
    let read = c.in_ok-contents.ensures in
    let rest = c.pop.new.self.items in
    let items : loop.found.items ≡ rest ++ c.in-Some.one ∷ [] = search rules in record {
      fetched = λ f told.
          one_popped (data_fetched f) loop.found.items rest c.in-Some.one loop.all c.push.new.self _ c.in_ok-contents.contents items
          (read.reads.seen f (loop.invariant.same ∙ told)) c.in_ok-push.ensures.ok (loop.invariant.fetched f told);
      inside = rest_all (IsFoundInside (g.P.Span.size c.args.span.now)) loop.found.items rest c.in-Some.one items loop.invariant.inside;
      same = read.reads.same ∙ loop.invariant.same;
      size = read.reads.size ∙ loop.invariant.size;
      later = omega (arith, read.reads.cause.later, loop.invariant.later);
    }
