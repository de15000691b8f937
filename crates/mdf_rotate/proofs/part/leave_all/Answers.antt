use Rattle.std.proofs.Common.{◌≡◌, ◌++◌, [], ◌∷◌, All, None, arith, length, subst}
use Rattle.std.specs.List.{AllZip}
use Rattle.std.proofs.lemmas.List.Elements.{All-head, All-tail}
use Rattle.mdf_record.specs.Recovers.{AreRecovered}
use Rattle.mdf_rotate.specs.Part.{IsUnused, outcomes, states}
use Rattle.mdf_rotate.proofs.Behind.{all_taken, left_behind, one_fewer, one_made, one_taken, zip_behind}
use Rattle.mdf_rotate.proofs.part.leave_all.Goals as goal

-- the disk was asked for nothing
pub unused-requires : goal.unused-requires
unused-requires g c =
    All-head (λ out. g.C.Disk.asked out ≡ None) c.in-Some.out c.next.new.self.rest.items
    (subst (All (λ out. g.C.Disk.asked out ≡ None)) c.in-Some.ensures.steps.0 c.loop-out.invariant.asked)

pub push_reserved-requires : goal.push_reserved-requires
push_reserved-requires g c =
    let so_far = c.loop-out.invariant in
    omega (
      arith,
      one_fewer c.loop-out.yielded c.loop-out.out-iterator.rest.items c.next.new.self.rest.items c.args.outs.items c.in-Some.out c.loop-out.parts.items
          so_far.count so_far.outs c.in-Some.ensures.steps.0,
      c.loop-out.parts.ok.0,
      so_far.room,
      c.requires.room,
    )

-- one disk more
pub loop-out-preserved : goal.loop-out-preserved
loop-out-preserved g c =
    let so_far = c.loop-out.invariant in
    let tells = g.C.Disk in
    let out = c.in-Some.out in
    let rest = c.loop-out.out-iterator.rest.items in
    let later = c.next.new.self.rest.items in
    let done = c.loop-out.yielded in
    let before = c.loop-out.parts.items in
    let after = c.push_reserved.new.self.items in
    let steps : rest ≡ out ∷ later = c.in-Some.ensures.steps.0 in
    let part = c.unused.result in
    let grown : after ≡ before ++ part ∷ [] = c.push_reserved.ensures.items in
    record {
      outs = one_taken done rest later c.args.outs.items out so_far.outs steps;
      count = one_made done out before after part grown so_far.count;
      unused = left_behind tells done before after out part grown IsUnused so_far.unused c.unused.ensures.unused;
      untouched = zip_behind (λ o p. tells.asked p.out ≡ None → p.out ≡ o) done before after out part grown so_far.untouched (λ none. c.unused.ensures.out);
      recovered = left_behind tells done before after out part grown (λ disk left. AreRecovered disk.moment left) so_far.recovered c.unused.ensures.recovered;
      room = omega (arith, c.push_reserved.ensures.capacity, so_far.room);
      asked = All-tail (λ o. tells.asked o ≡ None) out later (subst (All (λ o. tells.asked o ≡ None)) steps so_far.asked);
    }

pub returns : goal.returns
returns g c =
    let so_far = c.loop-out.invariant in
    let tells = g.C.Disk in
    let left = c.loop-out.out-iterator.rest in
    let none : length left.items ≡ 0 = omega (arith, left.ok.0, c.in-None.ensures.steps.0) in
    let all : c.loop-out.yielded ≡ c.args.outs.items = all_taken c.loop-out.yielded left.items c.args.outs.items so_far.outs none in
    let parts = c.loop-out.parts.items in
    record {
      unused = subst (λ outs. AllZip IsUnused (states tells outs) (outcomes tells parts)) all so_far.unused;
      untouched = subst (λ outs. AllZip (λ out part. tells.asked part.out ≡ None → part.out ≡ out) outs parts) all so_far.untouched;
      recovered = subst (λ outs. AllZip (λ disk left. AreRecovered disk.moment left) (states tells outs) (outcomes tells parts)) all so_far.recovered;
    }
