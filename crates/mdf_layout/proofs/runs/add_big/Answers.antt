use Rattle.std.proofs.Common.{◌≡◌, ◌+◌, ◌-◌, ◌*◌, ◌/◌, ◌%◌, ◌∙◌, Bool, ap, refl, arith, inl, inr, if◌then◌else◌}
use Rattle.std.proofs.lemmas.Result.{on_ok_weaker}
use Rattle.mdf_format.specs.Field.{covered_size}
use Rattle.mdf_layout.specs.Rule.{spot_in}
use Rattle.mdf_layout.specs.declared.runs.Run.{Run}
use Rattle.mdf_layout.proofs.Overlaps.{keeps, keeps_both, still_in, is_in, many_bytes}
use Rattle.mdf_layout.proofs.runs.add_big.Goals as goal

pub returns-clause-kept : goal.returns-clause-kept
returns-clause-kept c =
    let old = c.args.runs.now.items in
    let one = c.add_run-2.new.runs.items in
    let two = c.add_run-3.new.runs.items in
    let three = c.add_run-4.new.runs.items in
    on_ok_weaker c.add_run-4.result
    (λ is. keeps_both old two three
    (keeps_both old one two (keeps old one c.run_of-2.result c.in_ok-add_run.ensures) (keeps one two c.run_of-3.result c.in_ok-add_run-2.ensures))
    (keeps two three c.run_of-4.result is))
    c.add_run-4.ensures

pub returns-clause-bits : goal.returns-clause-bits
returns-clause-bits c = on_ok_weaker c.add_run-4.result (λ is p has.
    let old = c.args.runs.now.items in
    let one = c.add_run-2.new.runs.items in
    let two = c.add_run-3.new.runs.items in
    let three = c.add_run-4.new.runs.items in
    let row = c.args.row in
    let channel = c.args.channel in
    let s = spot_in row in
    let k = has.k in
    let size = covered_size s in
    let place : p ≡ 8 * (s.byte + (size - 1 - k / 8)) + k % 8 =
    has.there ∙ ap (λ (b : Bool). if b then 8 * (s.byte + (size - 1 - k / 8)) + k % 8 else 8 * s.byte + k) c.requires.big in
    let second = keeps one two c.run_of-3.result c.in_ok-add_run-2.ensures in
    let third = keeps two three c.run_of-4.result is in
    let bits = c.bits_of-2.ensures in
    let long = c.covered.ensures.size in
    let high : c.run_of-2.result.end ≡ 8 * s.byte + (s.bit + s.bits - 1) % 8 + 1 = ap (λ (r : Run). r.end) c.run_of-2.ensures ∙ omega (arith, bits) in
    let last : c.run_of-3.result.end ≡ 8 * s.byte + 8 * (size - 1 - s.bit / 8) = ap (λ (r : Run). r.end) c.run_of-3.ensures ∙ omega (arith, long) in
    let low : c.run_of-4.result.start ≡ 8 * s.byte + 8 * (size - 1 - s.bit / 8) + s.bit % 8 = ap (λ (r : Run). r.start) c.run_of-4.ensures ∙ omega (arith, long) in
    let end : c.run_of-4.result.end ≡ 8 * s.byte + 8 * (size - 1 - s.bit / 8) + 8 = ap (λ (r : Run). r.end) c.run_of-4.ensures ∙ omega (arith, long) in
    elim (many_bytes s.byte s.bit s.bits size k refl has.low has.high) [
      | inl here ↦ still_in one three channel row p (keeps_both one two three second third)
          (is_in old one c.run_of-2.result channel row p c.in_ok-add_run.ensures (ap (λ (r : Run). r.channel) c.run_of-2.ensures)
          (ap (λ (r : Run). r.variable) c.run_of-2.ensures)
          (omega (arith, place, here.low, ap (λ (r : Run). r.start) c.run_of-2.ensures)) (omega (arith, place, here.high, high)))
      | inr rest ↦ elim rest [
        | inl here ↦ still_in two three channel row p third
            (is_in one two c.run_of-3.result channel row p c.in_ok-add_run-2.ensures (ap (λ (r : Run). r.channel) c.run_of-3.ensures)
            (ap (λ (r : Run). r.variable) c.run_of-3.ensures)
            (omega (arith, place, here.low, ap (λ (r : Run). r.start) c.run_of-3.ensures)) (omega (arith, place, here.high, last)))
        | inr here ↦ is_in two three c.run_of-4.result channel row p is (ap (λ (r : Run). r.channel) c.run_of-4.ensures)
            (ap (λ (r : Run). r.variable) c.run_of-4.ensures)
            (omega (arith, place, here.low, low)) (omega (arith, place, here.high, end))
      ]
    ])
    c.add_run-4.ensures
