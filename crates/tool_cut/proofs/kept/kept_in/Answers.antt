use Rattle.std.proofs.Common.{◌≡◌, ◌*◌, ◌≤◌, ℕ, List, length, sym, ◌∙◌, ap, arith, mul-le-mul_right}
use Rattle.tool_cut.specs.Kept.{is_kept}
use Rattle.tool_cut.proofs.Keepings.{count_few}
use Rattle.tool_cut.proofs.kept.kept_in.Goals as goal

pub overflow_mul-kept : goal.overflow_mul-kept
overflow_mul-kept c =
    let size = c.record_size.result in
    let keeps = is_kept c.args.range.from c.args.range.to c.args.shape.now c.args.field c.as_mut_slice.result.now in
    let few : c.keep_all-kept.result ≤ c.args.count = omega (arith, count_few keeps c.args.count, c.keep_all-kept.ensures.count) in
    let fits : c.keep_all-kept.result * size ≤ c.args.count * size = mul-le-mul_right size few in
    let long : length c.args.content ≡ c.args.count * size = c.requires.long ∙ ap (λ (n : ℕ). c.args.count * n) (sym c.record_size.ensures.size) in
    omega (arith, fits, long, c.len-long.ensures, ap (λ (bytes : List ℕ). length bytes) c.into_vec-bytes.ensures)
