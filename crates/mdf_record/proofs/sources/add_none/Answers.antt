use Rattle.std.proofs.Common.{◌≡◌, ℕ, List, [], ◌∷◌, ◌++◌, replicate, ◌∙◌, ap, arith}
use Rattle.std.proofs.lemmas.List.{replicate_more}
use Rattle.mdf_record.proofs.sources.add_none.Goals as goal

-- one more was added
pub loop-source-preserved : goal.loop-source-preserved
loop-source-preserved c = record {
  added = c.put.ensures.items ∙ ap (λ (counts : List ℕ). counts ++ 0 ∷ []) c.loop-source.invariant.added ∙ replicate_more {X = ℕ} c.loop-source._source 0;
  room = omega (arith, c.loop-source.invariant.room, c.put.ensures.spare, c.loop-source-test.true);
}

pub returns : goal.returns
returns c =
    let count : c.loop-source._source ≡ c.args.sources = omega (arith, c.loop-source-test.false, c.loop-source.auto._source-end) in
    c.loop-source.invariant.added ∙ ap (λ (n : ℕ). replicate {A = ℕ} n 0) count
