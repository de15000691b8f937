use Rattle.std.proofs.Common.{sym, ◌∙◌, ap, subst, arith, rules}
use Rattle.mdf_block.specs.Refusal.{Fails}
use Rattle.mdf_head.specs.Ident.{identify}
use Rattle.mdf_content.specs.Fault.{read_refusal}
use Rattle.mdf_model.proofs.Fronts.{too_short, front_is, told_length, fails_refuses}
use Rattle.mdf_block.proofs.Readers.{says_of}
use Rattle.mdf_model.proofs.identity.identity_in.Goals as goal

pub returns-then-len-lt64 : goal.returns-then-len-lt64
returns-then-len-lt64 g c = record {
  reads = says_of (search rules) (λ f told.
      let span = c.args.span.now in
      let same = told_length (g.P.Span.bytes span) (g.P.Span.size span) f (g.met.P.Span.whole span) told in
      too_short f (omega (arith, same, c.len.ensures, c.if-len-lt64.true)));
}

pub returns-in-Err : goal.returns-in-Err
returns-in-Err g c = record {
  reads = says_of (search rules) (λ f told.
      let span = c.args.span.now in
      let same = told_length (g.P.Span.bytes span) (g.P.Span.size span) f (g.met.P.Span.whole span) told in
      let front = ap identify (c.in_ok-fill.ensures.filled f told) ∙ front_is f (omega (arith, same, c.len.ensures, c.if-len-lt64.false)) in
      let refusal = read_refusal c.in-Err.fault in
      fails_refuses refusal (identify f) c.in-Err.ensures.plain (subst (Fails refusal) front c.in-Err.ensures.exact));
}

pub returns-in-Ok : goal.returns-in-Ok
returns-in-Ok g c = record {
  reads = says_of (search rules) (λ f told.
      let span = c.args.span.now in
      let same = told_length (g.P.Span.bytes span) (g.P.Span.size span) f (g.met.P.Span.whole span) told in
      let front = ap identify (c.in_ok-fill.ensures.filled f told) ∙ front_is f (omega (arith, same, c.len.ensures, c.if-len-lt64.false)) in
      sym front ∙ c.in-Ok.ensures.exact);
}
