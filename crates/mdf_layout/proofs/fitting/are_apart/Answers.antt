use Rattle.std.proofs.Common.{◌+◌, ◌<◌, get_or, refl, sym, subst}
use Rattle.std.proofs.lemmas.List.{take_rest}
use Rattle.std.specs.List.{All}
use borrow.Author.Count.{below_more}
use Rattle.mdf_layout.specs.Written.{IsApart}
use Rattle.mdf_layout.proofs.Later.{row_and_later, later_rows}
use Rattle.mdf_layout.proofs.fitting.are_apart.Goals as goal

pub loop-i-preserved : goal.loop-i-preserved
loop-i-preserved c =
    let found = c.if-not-is_apart_from.ensures.0 refl in
    let all = subst (All (IsApart _)) (take_rest c.args.rows.now (c.loop-i.i + 1)) found in
    λ i j d within later below.
    below_more (λ n. n < j → IsApart (get_or c.args.rows.now n d) (get_or c.args.rows.now j d)) c.loop-i.i
    (λ n before less. c.loop-i.invariant n j d before less below)
    (λ less. row_and_later IsApart c.args.rows.now c.loop-i.i _ c.loop-i-test.true all j d less below)
    i within later

pub returns-then-not-is_apart_from : goal.returns-then-not-is_apart_from
returns-then-not-is_apart_from c = (
  λ no. cc,
  λ pairs.
      let all = later_rows IsApart c.args.rows.now c.loop-i.i _ c.loop-i-test.true pairs in
      c.if-not-is_apart_from.ensures.1 (subst (All (IsApart _)) (sym (take_rest c.args.rows.now (c.loop-i.i + 1))) all),
)
