use Rattle.std.proofs.Common.{ℕ, List, [], ◌∷◌, ◌++◌, ◌+◌, ◌*◌, ◌-◌, ◌≡◌, sym, ◌∙◌, ap, arith, append_assoc}
use Rattle.mdf_format.specs.Number.{le_number, bytes_at}
use Rattle.mdf_conv.specs.Conv.{numbers_at}
use Rattle.mdf_conv.proofs.Fronts.{numbers_next, word_is}
use Rattle.mdf_conv.proofs.field.numbers_in.Goals as goal

pub loop-k-preserved : goal.loop-k-preserved
loop-k-preserved g c = record {
  within = omega arith;
  found = λ f told.
      let loop = c.loop-k in
      let start = c.args.start in
      let count = c.args.count in
      let rest = numbers_at f (start + 8 * (loop.k + 1)) (count - (loop.k + 1)) in
      let word = c.in_ok-fill.ensures.filled f (loop.invariant.same ∙ told) in
      let number : c.u64_field.result ≡ le_number (bytes_at 8 f (start + 8 * loop.k)) =
      c.u64_field.ensures ∙ word_is f c.fill.new.buf (start + 8 * loop.k) word in
      rw c.in_ok-push.ensures.ok (
      append_assoc loop.numbers (c.u64_field.result ∷ []) rest
      ∙ ap (λ (n : ℕ). loop.numbers ++ n ∷ rest) number
      ∙ ap (λ (numbers : List ℕ). loop.numbers ++ numbers) (sym (numbers_next f start loop.k count c.loop-k-test.true))
      ∙ loop.invariant.found f told
      );
  same = c.in_ok-fill.ensures.same ∙ c.loop-k.invariant.same;
  size = c.in_ok-fill.ensures.size ∙ c.loop-k.invariant.size;
  later = omega (arith, c.in_ok-fill.ensures.cause.later);
}
