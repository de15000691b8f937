use Rattle.std.proofs.Common.{◌∙◌, None, Some, ap, arith, refl, replicate, subst}
use Rattle.std.specs.Prelude.{ℕ}
use Rattle.acq_run.specs.Ran.{seen_by}
use Rattle.mdf_command.specs.declared.fault.Fault.TheVariants.{Memory}
use Rattle.mdf_record.specs.Recorded.{Closes}
use Rattle.mdf_record.proofs.feeds.give_up.Goals as goal

pub add_none-requires-clause-room : goal.add_none-requires-clause-room
add_none-requires-clause-room g c = omega (arith, c.requires.room, c.len.ensures, c.args.feeds.ok.0)

pub returns : goal.returns
returns g c = record {
  gives_up = record {
    accepted = c.add_none.new.accepted;
    zero = c.add_none.ensures ∙ ap (λ (n : ℕ). replicate n 0) (omega (arith, c.len.ensures, c.args.feeds.ok.0));
    closes = subst (λ seen. Closes g.C.Disk c.args.book c.add_none.new.accepted None (Some Memory) seen c.close.result) (c.by-seen.ensures ∙ ap seen_by c.new-none.ensures.items)
        c.close.ensures.closes;
    same = refl;
    none = c.new.ensures.items;
  };
}
