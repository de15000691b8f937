use Rattle.std.proofs.Common.{◌-◌, ap, arith, length, length-append, subst, refl}
use Rattle.mdf_layout.specs.Chunked.{joined, Seals}
use Rattle.mdf_layout.proofs.Sealing.{seals_more, some_more}
use Rattle.mdf_layout.proofs.samples.Samples.seal.Goals as goal

pub returns-clause-ok : goal.returns-clause-ok
returns-clause-ok c =
    let inside = c.self.inside in
    let n = c.args.upto - c.len-sealed.result in
    subst (λ a. Seals a.chunks a.items c.args.upto c.take_in.new.self) c.self.view_is
    (seals_more inside.chunks inside.tail.items n c.args.upto c.take_in.new.self
    (omega (arith, c.len-sealed.ensures, c.requires.behind, ap (λ a. length (joined a.chunks)) c.self.view_is)) c.in_ok-take_in.ensures.ok)

pub returns-clause-sealed : goal.returns-clause-sealed
returns-clause-sealed c =
    let inside = c.self.inside in
    let n = c.args.upto - c.len-sealed.result in
    record {
      some = some_more inside.chunks inside.tail.items n c.take_in.new.self (omega (arith, c.len-sealed.ensures, c.requires.behind, ap (λ a. length (joined a.chunks)) c.self.view_is))
          (omega (arith, c.requires.within, ap (λ a. length a.items) c.self.view_is, length-append (joined inside.chunks) inside.tail.items, c.len-sealed.ensures)) c.in_ok-take_in.ensures.ok c.self.invariant.2;
      begins = (c.take_in.new.samples.items, refl);
    }
