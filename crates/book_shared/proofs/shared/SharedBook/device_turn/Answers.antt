use Rattle.std.proofs.Common.{◌<◌, ◌∙◌, ap, inr, length, sym, subst}
use Rattle.std.specs.Option.{option_copied}
use Rattle.book_shared.specs.Plays.{Here}
use Rattle.book_shared.specs.Rounds.{wanted}
use Rattle.book_shared.proofs.Devices.{wanted_mine}
use Rattle.book_shared.proofs.Takings.{seized_now}
use Rattle.book_shared.proofs.shared.SharedBook.device_turn.Goals as goal

pub returns-clause-seized : goal.returns-clause-seized
returns-clause-seized g c =
    seized_now (wanted c.args.seat.now.me.0 (option_copied c.args.due)) c.args.seat.now.me c.seize_device.new.seat.me
    c.seize.new.seat.me c.seize_device.ensures.seized c.requires.may.empty.no_turn c.seize.ensures.took

pub seize-requires : goal.seize-requires
seize-requires g c = record {
  may = record {
    table_is = c.seize_device.ensures.table ∙ c.requires.may.empty.table_is;
    some_source = subst (λ (x : Here g.row.D.Denot g.row.V.Denot). 0 < length x.0.mine) (sym c.seize_device.ensures.seized) (subst (λ mine. 0 < length mine) (sym (wanted_mine c.args.seat.now.me.0 (option_copied c.args.due))) c.requires.may.some_source);
    tells = inr (ap (λ (x : Here g.row.D.Denot g.row.V.Denot). x.0.device) c.seize_device.ensures.seized);
  };
}
