use Rattle.std.proofs.Common.{◌≡◌, ◌++◌, [], ◌∷◌, All, None, arith, length, length-append, subst}
use Rattle.std.specs.List.{AllZip}
use Rattle.std.proofs.lemmas.List.Elements.{All-head, All-tail}
use Rattle.mdf_record.specs.Recovers.{AreRecovered}
use Rattle.mdf_rotate.specs.Part.{PartsCome, outcomes, states}
use Rattle.mdf_rotate.proofs.Behind.{all_taken, left_behind, one_fewer, one_made, one_taken, part_behind, zip_behind}
use Rattle.mdf_rotate.proofs.part.record_all.Goals as goal

-- the disk was asked for nothing
pub go_on-part-requires-after_bounds : goal.go_on-part-requires-after_bounds
go_on-part-requires-after_bounds g c κs within =
    All-head (λ out. g.C.Disk.asked out ≡ None) c.in-Some.out c.next.new.self.rest.items
    (subst (All (λ out. g.C.Disk.asked out ≡ None)) c.in-Some.ensures.steps.0 c.loop-out.invariant.asked)

pub push_reserved-requires : goal.push_reserved-requires
push_reserved-requires g c =
    let so_far = c.loop-out.invariant in
    omega (
      arith,
      one_fewer c.loop-out.yielded c.loop-out.out-iterator.rest.items c.next.new.self.rest.items c.args.outs.items c.in-Some.out c.loop-out.parts.items
          so_far.count so_far.outs c.in-Some.ensures.steps.0,
      c.loop-out.parts.ok.0,
      so_far.room,
      c.requires.room,
    )

-- one disk more
pub loop-out-preserved : goal.loop-out-preserved
loop-out-preserved g c =
    let so_far = c.loop-out.invariant in
    let tells = g.C.Disk in
    let out = c.in-Some.out in
    let rest = c.loop-out.out-iterator.rest.items in
    let later = c.next.new.self.rest.items in
    let done = c.loop-out.yielded in
    let before = c.loop-out.parts.items in
    let after = c.push_reserved.new.self.items in
    let steps : rest ≡ out ∷ later = c.in-Some.ensures.steps.0 in
    let part = c.go_on-part.result.0 in
    let grown : after ≡ before ++ part ∷ [] = c.push_reserved.ensures.items in
    let went = c.go_on-part.ensures in
    record {
      outs = one_taken done rest later c.args.outs.items out so_far.outs steps;
      number = omega (arith, so_far.number, length-append done (out ∷ []));
      count = one_made done out before after part grown so_far.count;
      come = part_behind tells done before after out part grown c.args.output.now c.args.means.now.now_ns c.args.course c.loop-out.course c.go_on-part.result.1 so_far.come
          c.loop-out.number so_far.number went.comes;
      untouched = zip_behind (λ o p. tells.asked p.out ≡ None → p.out ≡ o) done before after out part grown so_far.untouched went.untouched;
      recovered = left_behind tells done before after out part grown (λ disk left. AreRecovered disk.moment left) so_far.recovered went.recovered;
      room = omega (arith, c.push_reserved.ensures.capacity, so_far.room);
      asked = All-tail (λ o. tells.asked o ≡ None) out later (subst (All (λ o. tells.asked o ≡ None)) steps so_far.asked);
    }

pub returns : goal.returns
returns g c =
    let so_far = c.loop-out.invariant in
    let tells = g.C.Disk in
    let left = c.loop-out.out-iterator.rest in
    let none : length left.items ≡ 0 = omega (arith, left.ok.0, c.in-None.ensures.steps.0) in
    let all : c.loop-out.yielded ≡ c.args.outs.items = all_taken c.loop-out.yielded left.items c.args.outs.items so_far.outs none in
    let parts = c.loop-out.parts.items in
    record {
      come = subst (λ outs. PartsCome c.args.output.now c.args.means.now.now_ns 0 (states tells outs) (outcomes tells parts) c.args.course c.loop-out.course) all so_far.come;
      untouched = subst (λ outs. AllZip (λ out part. tells.asked part.out ≡ None → part.out ≡ out) outs parts) all so_far.untouched;
      recovered = subst (λ outs. AllZip (λ disk left. AreRecovered disk.moment left) (states tells outs) (outcomes tells parts)) all so_far.recovered;
    }
