-- What an answer of the reader of a file says.
use Rattle.std.proofs.Common.{ℕ, List, Result, Ok, Err}
use Rattle.std.specs.Prelude.{◌↔◌, IsTrue, IfOk, IfErr, IfSome}
use Rattle.mdf_block.specs.Refusal.{GivesOf}
use Rattle.mdf_block.proofs.Truths.{fails_with}
use Rattle.mdf_content.specs.declared.fault.ReadFault.{ReadFault}
use Rattle.mdf_content.specs.Fault.{read_refusal}
use Rattle.mdf_model.specs.Measurement.{Measured, measurement}
use Rattle.mdf_model.specs.InWords.{IsMeasurement, IsValidFile}
use Rattle.mdf_model.specs.Truth.{IsTrueOfFile}
use Rattle.mdf_model.proofs.Wholes.{measurement_found}
use Rattle.mdf_model.proofs.Stricts.{strict_is_valid}
use Rattle.mdf_model.proofs.Files.{measurement_true}

module _ (f : List ℕ) where
  pub is_measurement : (result : Result Measured ReadFault) → GivesOf read_refusal result (measurement f)
      → IfOk result (λ m. IsMeasurement f m.head m.history m.groups)
  is_measurement (Ok m) given = measurement_found f m given
  is_measurement (Err fault) given = tt

  pub is_strict : (result : Result Measured ReadFault) → GivesOf read_refusal result (measurement f)
      → IfOk result (λ m. IsTrue m.strict ↔ IsValidFile f)
  is_strict (Ok m) given = strict_is_valid f m given
  is_strict (Err fault) given = tt

  pub is_refused : (result : Result Measured ReadFault) → GivesOf read_refusal result (measurement f)
      → IfErr result (λ fault. IfSome (read_refusal fault) (IsTrueOfFile f))
  is_refused (Ok m) given = tt
  is_refused (Err fault) given = fails_with (IsTrueOfFile f) (read_refusal fault) (measurement f) (measurement_true f) given
