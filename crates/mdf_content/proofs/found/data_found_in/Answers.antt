use Rattle.std.proofs.Common.{◌∙◌, arith, rules}
use Rattle.std.proofs.lemmas.Result.{err_from_is_err_and}
use Rattle.mdf_content.specs.Kept.{data_kept}
use Rattle.mdf_content.proofs.Causes.{cause_after}
use Rattle.mdf_content.proofs.found.data_found_in.Goals as goal

pub returns-in_err-layouts_in-clause-reads : goal.returns-in_err-layouts_in-clause-reads
unfolding data_kept
returns-in_err-layouts_in-clause-reads g c = record {
  found = search rules;
  plain = search rules;
  same = c.in_err-layouts_in.ensures.reads.same;
  size = c.in_err-layouts_in.ensures.reads.size;
  cause =
      let p = err_from_is_err_and c.from_residual.result c.from_residual.ensures.1 in
      rw (p.1, p.2) (cause_after _ _ _ _ _ (omega arith) c.in_err-layouts_in.ensures.reads.cause);
}

pub returns-in_err-view-clause-reads : goal.returns-in_err-view-clause-reads
unfolding data_kept
returns-in_err-view-clause-reads g c = record {
  found = search rules;
  plain = search rules;
  same = c.in_err-view.ensures.reads.same ∙ c.in_ok-layouts_in.ensures.reads.same;
  size = c.in_err-view.ensures.reads.size ∙ c.in_ok-layouts_in.ensures.reads.size;
  cause =
      let p = err_from_is_err_and c.from_residual-in_err-view.result c.from_residual-in_err-view.ensures.1 in
      rw (p.1, p.2) (cause_after _ _ _ _ _ (omega (arith, c.in_ok-layouts_in.ensures.reads.cause.later)) c.in_err-view.ensures.reads.cause);
}

pub returns-in_err-lists-clause-reads : goal.returns-in_err-lists-clause-reads
unfolding data_kept
returns-in_err-lists-clause-reads g c = record {
  found = search rules;
  plain = search rules;
  same = c.in_err-lists.ensures.reads.same ∙ c.in_ok-view.ensures.reads.same ∙ c.in_ok-layouts_in.ensures.reads.same;
  size = c.in_err-lists.ensures.reads.size ∙ c.in_ok-view.ensures.reads.size ∙ c.in_ok-layouts_in.ensures.reads.size;
  cause =
      let p = err_from_is_err_and c.from_residual-in_err-lists.result c.from_residual-in_err-lists.ensures.1 in
      rw (p.1, p.2) (cause_after _ _ _ _ _ (omega (arith, c.in_ok-view.ensures.reads.cause.later, c.in_ok-layouts_in.ensures.reads.cause.later)) c.in_err-lists.ensures.reads.cause);
}

pub returns-in_err-next-clause-reads : goal.returns-in_err-next-clause-reads
unfolding data_kept
returns-in_err-next-clause-reads g c = record {
  found = search rules;
  plain = search rules;
  same = c.in_err-next.ensures.reads.same ∙ c.in_ok-lists.ensures.reads.same ∙ c.in_ok-view.ensures.reads.same ∙ c.in_ok-layouts_in.ensures.reads.same;
  size = c.in_err-next.ensures.reads.size ∙ c.in_ok-lists.ensures.reads.size ∙ c.in_ok-view.ensures.reads.size ∙ c.in_ok-layouts_in.ensures.reads.size;
  cause =
      let p = err_from_is_err_and c.from_residual-in_err-next.result c.from_residual-in_err-next.ensures.1 in
      rw (p.1, p.2) (cause_after _ _ _ _ _ (omega (arith, c.in_ok-lists.ensures.reads.cause.later, c.in_ok-view.ensures.reads.cause.later, c.in_ok-layouts_in.ensures.reads.cause.later)) c.in_err-next.ensures.reads.cause);
}

pub returns-in_err-found-clause-reads : goal.returns-in_err-found-clause-reads
unfolding data_kept
returns-in_err-found-clause-reads g c = record {
  found = search rules;
  plain = search rules;
  same = c.in_err-found.ensures.reads.same ∙ c.in_ok-next.ensures.reads.same ∙ c.in_ok-lists.ensures.reads.same ∙ c.in_ok-view.ensures.reads.same ∙ c.in_ok-layouts_in.ensures.reads.same;
  size = c.in_err-found.ensures.reads.size ∙ c.in_ok-next.ensures.reads.size ∙ c.in_ok-lists.ensures.reads.size ∙ c.in_ok-view.ensures.reads.size ∙ c.in_ok-layouts_in.ensures.reads.size;
  cause =
      let p = err_from_is_err_and c.from_residual-in_err-found.result c.from_residual-in_err-found.ensures.1 in
      rw (p.1, p.2) (cause_after _ _ _ _ _ (omega (arith, c.in_ok-next.ensures.reads.cause.later, c.in_ok-lists.ensures.reads.cause.later, c.in_ok-view.ensures.reads.cause.later, c.in_ok-layouts_in.ensures.reads.cause.later)) c.in_err-found.ensures.reads.cause);
}

pub returns-clause-reads : goal.returns-clause-reads
unfolding data_kept
returns-clause-reads g c = record {
  found = search rules;
  plain = tt;
  same = c.in_ok-found.ensures.reads.same ∙ c.in_ok-next.ensures.reads.same ∙ c.in_ok-lists.ensures.reads.same ∙ c.in_ok-view.ensures.reads.same ∙ c.in_ok-layouts_in.ensures.reads.same;
  size = c.in_ok-found.ensures.reads.size ∙ c.in_ok-next.ensures.reads.size ∙ c.in_ok-lists.ensures.reads.size ∙ c.in_ok-view.ensures.reads.size ∙ c.in_ok-layouts_in.ensures.reads.size;
  cause = record {
    later = omega (arith, c.in_ok-found.ensures.reads.cause.later, c.in_ok-next.ensures.reads.cause.later, c.in_ok-lists.ensures.reads.cause.later, c.in_ok-view.ensures.reads.cause.later, c.in_ok-layouts_in.ensures.reads.cause.later);
    reason = tt;
  };
}
