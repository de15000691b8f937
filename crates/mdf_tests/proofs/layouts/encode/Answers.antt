use Rattle.std.proofs.lemmas.Nat.{pow_pos}
use Rattle.mdf_tests.proofs.layouts.encode.Goals as goal

pub encode-requires-clause-valid : goal.encode-requires-clause-valid
encode-requires-clause-valid c = λ k row within. (c.requires.stored k row within).valid

pub encode-requires-clause-offsets : goal.encode-requires-clause-offsets
encode-requires-clause-offsets c = λ k row within variable. pow_pos _
