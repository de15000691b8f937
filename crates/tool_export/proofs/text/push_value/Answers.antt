use Rattle.std.proofs.Common.{List, ℕ, OnOk, ◌++◌, codes, subst}
use Rattle.hex.specs.Hex.{encode_lower}
use Rattle.tool_export.specs.Table.{IsPlain}
use Rattle.tool_export.proofs.Plain.{also_ok, plain_decimal, plain_signed}
use Rattle.tool_export.proofs.text.push_value.Goals as goal

pub returns-in-Unsigned-clause-plain : goal.returns-in-Unsigned-clause-plain
returns-in-Unsigned-clause-plain c = rw c.in-Unsigned.is (also_ok _ (plain_decimal c.in-Unsigned.number))

pub returns-in-Signed-clause-plain : goal.returns-in-Signed-clause-plain
returns-in-Signed-clause-plain c = rw c.in-Signed.is (also_ok _ (plain_signed c.in-Signed.number))

pub returns-in-Bytes-clause-plain : goal.returns-in-Bytes-clause-plain
returns-in-Bytes-clause-plain c =
    rw c.in-Bytes.is (subst (λ (bytes : List ℕ). OnOk c.push_bytes.result (IsPlain (codes "x" ++ encode_lower bytes))) c.as_slice.ensures c.push_bytes.ensures.plain)

pub returns-in-Index-clause-plain : goal.returns-in-Index-clause-plain
returns-in-Index-clause-plain c = rw c.in-Index.is (also_ok _ (plain_decimal c.in-Index.number))
