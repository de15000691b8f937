use Rattle.std.proofs.Common.{◌++◌, ◌+◌, ◌-◌, ◌≤◌, List, ℕ, length, take, ◌∙◌, ap, subst, arith, length-append}
use Rattle.std.specs.Prelude.{IfSome}
use Rattle.std.specs.List.{concat}
use Rattle.mdf_num.proofs.Joins.{concat-take, concat-within}
use Rattle.mdf_disk.proofs.Crash.{adds_both}
use Rattle.mdf_disk.proofs.Goes.{goes_further}
use Rattle.mdf_seal.specs.Images.{IsClosed}
use Rattle.mdf_seal.specs.Seal.{Seals}
use Rattle.mdf_seal.proofs.Calls.{calls_more, calls_most}
use Rattle.mdf_seal.proofs.write.give_all.Goals as goal

pub give-requires-clause-sealed : goal.give-requires-clause-sealed
give-requires-clause-sealed g c =
    let pieces = c.args.pieces.now in
    let k = c.loop-piece.piece-index in (
      concat (take k pieces),
      c.loop-piece.invariant.seals,
      omega (
        arith,
        c.requires.short,
        ap (λ (bytes : List ℕ). length bytes) c.as_slice.ensures,
        concat-within pieces k c.piece-item.result c.loop-piece-test.true c.piece-item.is,
      ),
    )

pub loop-piece-preserved : goal.loop-piece-preserved
loop-piece-preserved g c =
    let disk = g.D.Disk in
    let before = c.loop-piece.invariant in
    let after = c.give.ensures in
    let new = c.give.new.disk in
    let pieces = c.args.pieces.now in
    let k = c.loop-piece.piece-index in
    let given = concat (take k pieces) in
    let joined = ap (λ (piece : List ℕ). given ++ piece) c.as_slice.ensures ∙ concat-take pieces k c.piece-item.result c.loop-piece-test.true c.piece-item.is in
    record {
      seals = subst (λ (bytes : List ℕ). Seals c.give.new.self (disk.content new) (disk.story new) bytes) joined (c.in_ok-give.ensures.ok given before.seals);
      any_moment = adds_both (disk.story c.args.disk.now) (disk.story c.loop-piece.disk) (disk.story new) IsClosed before.any_moment after.any_moment;
      calls = subst (λ (bytes : List ℕ). IfSome (disk.story c.args.disk.now) (λ _. disk.moment new ≤ disk.moment c.args.disk.now + (length bytes - 1))) joined
          (calls_more (disk.story c.args.disk.now) (disk.story c.loop-piece.disk) given c.as_slice.result.now c.loop-piece.seal.first (disk.moment c.args.disk.now)
          (disk.moment c.loop-piece.disk) (disk.moment new) before.goes_on.told before.seals.first before.calls after.calls
          (λ none. ap disk.moment (after.none none)) (λ kept short. ap disk.moment (after.held kept short)));
      unsynced = after.unsynced ∙ before.unsynced;
      later = omega (arith, before.later, after.cause.later);
      goes_on = goes_further disk c.args.disk.now c.loop-piece.disk new before.goes_on after.goes_on;
    }

pub returns-in_err-give-clause-calls : goal.returns-in_err-give-clause-calls
returns-in_err-give-clause-calls g c =
    let disk = g.D.Disk in
    let before = c.loop-piece.invariant in
    let after = c.give.ensures in
    let new = c.give.new.disk in
    let pieces = c.args.pieces.now in
    let k = c.loop-piece.piece-index in
    let given = concat (take k pieces) in
    let piece = c.as_slice.result.now in
    calls_most (disk.story c.args.disk.now) (disk.moment c.args.disk.now) (disk.moment new) (length (given ++ piece) - 1) (length (concat pieces) - 1)
    (calls_more (disk.story c.args.disk.now) (disk.story c.loop-piece.disk) given piece c.loop-piece.seal.first (disk.moment c.args.disk.now)
    (disk.moment c.loop-piece.disk) (disk.moment new) before.goes_on.told before.seals.first before.calls after.calls
    (λ none. ap disk.moment (after.none none)) (λ kept short. ap disk.moment (after.held kept short)))
    (omega (
      arith,
      length-append given piece,
      ap (λ (bytes : List ℕ). length bytes) c.as_slice.ensures,
      concat-within pieces k c.piece-item.result c.loop-piece-test.true c.piece-item.is,
    ))
