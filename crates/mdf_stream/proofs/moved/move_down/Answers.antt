use Rattle.std.proofs.Common.{rules, ◌≡◌, ◌+◌, ◌-◌, ◌≤◌, ℕ, List, ◌++◌, length, drop, sym, ◌∙◌, ap, arith}
use Rattle.std.proofs.lemmas.List.{drop-append-le}
use Rattle.std.proofs.lemmas.Slice.{drop-put_mid}
use borrow.Rule.Slice.PartMut.{put_mid}
use Rattle.mdf_stream.proofs.moved.move_down.Goals as goal

pub returns-clause-rest : goal.returns-clause-rest
returns-clause-rest c =
    let to = c.args.to in
    let end = to + c.args.len in
    let n = end - to in
    let front = c.split_at_mut-front.result.0.now in
    let back = c.split_at_mut-front.result.1.now in
    let new = c.copy_from_slice.new.self in
    let copied : length new ≡ n = search rules in
    let within : end ≤ length front = omega (arith, c.requires.apart, c.split_at_mut-front.ensures.front_len) in
    let long : length (put_mid to n front new) ≡ length front = search rules in
    drop-append-le end (put_mid to n front new) back (omega (arith, long, within))
    ∙ ap (λ (xs : List ℕ). xs ++ back) (drop-put_mid to n front new end (omega arith) (omega (arith, within)) copied)
    ∙ sym (drop-append-le end front back within)
    ∙ ap (drop end) (sym c.split_at_mut-front.ensures.value)
