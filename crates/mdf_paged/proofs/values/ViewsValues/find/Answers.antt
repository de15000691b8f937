use Rattle.std.proofs.Common.{◌≡◌, sym, subst, arith}
use Rattle.std.specs.Prelude.{IfOk}
use Rattle.mdf_layout.specs.Values.{Finder}
use Rattle.mdf_paged.proofs.Placed.{finder_there}
use Rattle.mdf_paged.proofs.values.ViewsValues.find.Goals as goal

pub returns-clause-found : goal.returns-clause-found
returns-clause-found g c = λ f told.
    subst (λ (find : Finder). IfOk c.value_in.result (λ value. value ≡ find c.args.offset))
    (sym (finder_there f c.args.self.now.streams.now c.args.stream c.index-self-stream.result (omega (arith, c.if-stream-self.false))))
    (c.value_in.ensures.value f told)
