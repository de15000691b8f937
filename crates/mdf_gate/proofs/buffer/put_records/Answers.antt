use Rattle.std.proofs.Common.{◌-◌, ◌≤◌, List, ℕ, length, drop, sym, subst, arith, length-drop}
use Rattle.std.proofs.lemmas.List.{length-take-le}
use Rattle.mdf_layout.specs.Behind.{IsEncodingBehind}
use Rattle.mdf_gate.proofs.Buffers.{over_the_rest}
use Rattle.mdf_gate.proofs.buffer.put_records.Goals as goal

pub returns-clause-record : goal.returns-clause-record
returns-clause-record c = λ before next.
    let old = c.args.bytes.now in
    let new = c.encode.new.out in
    let room : ℕ = length old - c.args.at in
    let few : c.encode.result ≤ length new =
    omega (arith, c.encode.ensures.size, c.encode.ensures.length, c.requires.room, length-take-le room (drop c.args.at old) (omega (arith, length-drop c.args.at old))) in
    subst (λ (bytes : List ℕ). IsEncodingBehind c.args.shapes.now before bytes c.args.sample.now)
    (sym (over_the_rest old new c.args.at room c.encode.result (omega (arith, c.requires.room)) few))
    (c.encode.ensures.record before next)
