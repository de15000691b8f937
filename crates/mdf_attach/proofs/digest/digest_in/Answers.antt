use Rattle.std.proofs.Common.{◌≡◌, ◌+◌, ◌++◌, ℕ, length, take, arith, sym, ◌∙◌, ap, subst, rules}
use Rattle.std.proofs.lemmas.List.{length-take-le}
use Rattle.md5.specs.Md5.{Holds, md5}
use Rattle.mdf_format.specs.Number.{bytes_at}
use Rattle.mdf_block.proofs.Readers.{looks_of}
use Rattle.mdf_attach.proofs.Fronts.{bytes_more}
use Rattle.mdf_attach.proofs.digest.digest_in.Goals as goal

pub loop-done-preserved : goal.loop-done-preserved
loop-done-preserved g c =
    let loop = c.loop-done in record {
      within = omega arith;
      taken = λ f told.
          let count = c.min-count.result in
          let hasher = c.take_in.new.hasher in
          let long : length (take count loop.piece) ≡ count = length-take-le count loop.piece (omega arith) in
          let more = c.in_ok-take_in.ensures.taken f (loop.invariant.same ∙ told) (bytes_at loop.done f c.args.at) (loop.invariant.taken f told) in
          subst (Holds hasher) (sym (bytes_more loop.done count f c.args.at))
          (subst (λ (n : ℕ). Holds hasher (bytes_at loop.done f c.args.at ++ bytes_at n f (c.args.at + loop.done))) long more);
      same = c.take_in.ensures.same ∙ loop.invariant.same;
      size = c.take_in.ensures.size ∙ loop.invariant.size;
      later = omega (arith, loop.invariant.later, c.take_in.ensures.cause.later);
    }

pub returns : goal.returns
returns g c = record {
  reads = looks_of (search rules) (λ f told.
      let loop = c.loop-done in
      let all : loop.done ≡ c.args.len = omega (arith, c.loop-done-test.false, loop.invariant.within) in
      c.finalize.ensures (bytes_at loop.done f c.args.at) (loop.invariant.taken f told) ∙ ap (λ (n : ℕ). md5 (bytes_at n f c.args.at)) all);
}
