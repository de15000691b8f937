use Rattle.std.proofs.Common.{refl}
use Rattle.mdf_rotate.proofs.part.go_on.Goals as goal

pub returns-in-Err : goal.returns-in-Err
returns-in-Err g c = rw c.in-Err.is (record {
  comes = (c.unused.ensures.unused, refl);
  untouched = λ none. c.unused.ensures.out;
  recovered = c.unused.ensures.recovered;
})
