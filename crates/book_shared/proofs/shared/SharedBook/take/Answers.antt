use Rattle.std.proofs.Common.{◌+◌, sym, subst}
use Rattle.atomic_table.specs.Table.{step}
use Rattle.book_shared.specs.Plays.{Takes}
use Rattle.book_shared.specs.Turns.{TellsBy, said_of}
use Rattle.book_shared.proofs.shared.SharedBook.take.Goals as goal

pub returns-in-None-clause-takes : goal.returns-in-None-clause-takes
returns-in-None-clause-takes g c =
    subst (λ t. Takes (step 2 0 c.args.word (c.args.word + 1) (said_of t)) c.args.seat.now.me c.take_calm.result c.take_calm.new.seat.me) (sym c.in-None.is) c.take_calm.ensures.takes

pub returns-in-Some-clause-takes : goal.returns-in-Some-clause-takes
returns-in-Some-clause-takes g c =
    subst (λ t. Takes (step 2 0 c.args.word (c.args.word + 1) (said_of t)) c.args.seat.now.me c.take_told.result c.take_told.new.seat.me) (sym c.in-Some.is) c.take_told.ensures.takes

pub take_calm-requires-clause-may : goal.take_calm-requires-clause-may
take_calm-requires-clause-may g c = record {
  table_is = c.requires.may.table_is;
  some_source = c.requires.may.some_source;
  tells = subst (TellsBy c.args.seat.now.me.0) c.in-None.is c.requires.may.tells;
}

pub take_told-requires-clause-may : goal.take_told-requires-clause-may
take_told-requires-clause-may g c = record {
  table_is = c.requires.may.table_is;
  some_source = c.requires.may.some_source;
  tells = subst (TellsBy c.args.seat.now.me.0) c.in-Some.is c.requires.may.tells;
}
