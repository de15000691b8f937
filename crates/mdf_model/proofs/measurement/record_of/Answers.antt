use Rattle.std.proofs.Common.{ℕ, List, length, ◌*◌, sym, ◌∙◌, ap, arith}
use Rattle.mdf_model.proofs.Samples.{record_within}
use Rattle.mdf_model.proofs.measurement.record_of.Goals as goal

pub overflow_mul-start : goal.overflow_mul-start
overflow_mul-start c =
    let m = c.args.measure.now in
    let long =
    c.length_of-long.ensures
    ∙ ap (λ (bytes : List ℕ). length bytes) c.as_slice-content.ensures
    ∙ c.requires.samples.long
    ∙ ap (λ (n : ℕ). m.count * n) (sym c.record_size-size.ensures.size) in
    omega (
      arith,
      record_within c.args.i m.count c.record_size-size.result c.length_of-long.result c.requires.index long,
      c.length_of-long.type_inv,
    )
