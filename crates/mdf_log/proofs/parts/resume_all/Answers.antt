use Rattle.std.proofs.Common.{◌≡◌, ◌<◌, ◌≤◌, ◌+◌, ◌∙◌, ℕ, List, length, get_or, sym, ap, subst, arith, ⊎_elim}
use Rattle.std.proofs.Math.ListN.{set}
use Rattle.std.proofs.lemmas.Grind.{get_or-set_at}
use Rattle.std.proofs.lemmas.List.{get_or-set_other, get_or_default, length-set}
use Rattle.std.proofs.lemmas.Bool.Decides.{leb_tells}
use Rattle.acq_lines.specs.Handled.{Resumes}
use Rattle.mdf_log.proofs.parts.resume_all.Goals as goal

-- one more of a list was put in the place of what it was
one_more : {A : Type 0} (R : A → A → Type 0) (old now : List A) (i : ℕ) (was new : A) → i < length now → was ≡ get_or now i was
    → ((k : ℕ) (d : A) → k < i → R (get_or old k d) (get_or now k d)) → ((k : ℕ) (d : A) → i ≤ k → get_or now k d ≡ get_or old k d) → R was new
    → (k : ℕ) (d : A) → k < i + 1 → R (get_or old k d) (get_or (set now i new) k d)
one_more {A} R old now i was new within is done left one k d less = ⊎_elim
    (λ here.
    let same : k ≡ i = omega (arith, here.1, less) in
    let old_is : was ≡ get_or old k d =
    is ∙ get_or_default now i was d within ∙ ap (λ (j : ℕ). get_or now j d) (sym same) ∙ left k d here.1 in
    subst (λ (x : A). R x (get_or (set now i new) k d)) old_is (subst (R was) (sym (get_or-set_at now i k new d same within)) one))
    (λ before. subst (R (get_or old k d)) (sym (get_or-set_other now i k new d (omega (arith, before.1)))) (done k d before.1))
    (leb_tells i k)

pub loop-source-preserved : goal.loop-source-preserved
loop-source-preserved g c =
    let so_far = c.loop-source.invariant in
    record {
      count = length-set c.loop-source.feeds.items c.loop-source.source c.resume.new.self ∙ so_far.count;
      done = one_more (Resumes g.K.Sink) c.args.feeds.now.items c.loop-source.feeds.items c.loop-source.source c.index_mut.result.now c.resume.new.self
          (omega (arith, c.loop-source-test.true, so_far.count)) c.index_mut.ensures.value so_far.done so_far.left c.resume.ensures;
      left = λ source d past.
          get_or-set_other c.loop-source.feeds.items c.loop-source.source source c.resume.new.self d (omega (arith, past)) ∙ so_far.left source d (omega (arith, past));
    }

pub returns : goal.returns
returns g c = record {
  count = c.loop-source.invariant.count;
  resumed = λ source d less. c.loop-source.invariant.done source d (omega (arith, less, c.loop-source-test.false, c.loop-source.invariant.count));
}
