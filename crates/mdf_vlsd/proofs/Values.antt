-- Values of a stream that grows.
use Rattle.std.proofs.Common.{◌≡◌, ◌≤◌, ◌+◌, ℕ, List, ◌++◌, length, take, drop, ◌∙◌, ap, arith, length-append, length-drop}
use Rattle.std.proofs.lemmas.List.{drop-append-le, take-append-le}
use Rattle.mdf_format.specs.Number.{le_number, bytes_at}
use Rattle.mdf_format.specs.Value.{IsValueAt}

-- bytes of the front
bytes_at-append : (n : ℕ) (front rest : List ℕ) (a : ℕ) → a + n ≤ length front → bytes_at n (front ++ rest) a ≡ bytes_at n front a
bytes_at-append n front rest a within =
    ap (take n) (drop-append-le a front rest (omega arith)) ∙ take-append-le n (drop a front) rest (omega (arith, length-drop a front))

-- a value stays at its offset
pub value_stays : (stream more : List ℕ) (o : ℕ) (v : List ℕ) → IsValueAt stream o v → IsValueAt (stream ++ more) o v
value_stays stream more o v at = record {
  length_is = ap le_number (bytes_at-append 4 stream more o (omega (arith, at.whole))) ∙ at.length_is;
  whole = omega (arith, at.whole, length-append stream more);
  bytes = bytes_at-append (length v) stream more (o + 4) at.whole ∙ at.bytes;
}
