use Rattle.std.proofs.Common.{length, sym, arith}
use Rattle.mdf_data.specs.Table.{find}
use Rattle.mdf_data.proofs.Groups.{table_more, group_none}
use Rattle.mdf_data.proofs.table.table_of.Goals as goal

pub loop-k-init : goal.loop-k-init
loop-k-init c = record {
  within = omega arith;
  rest = λ id. rw (c.in_ok-table.ensures id) (sym (group_none c.args.known.now id (length c.args.known.now) (omega arith)));
}

pub loop-k-preserved : goal.loop-k-preserved
loop-k-preserved c =
    record {
      within = omega arith;
      rest =
          table_more c.args.known.now (find c.loop-k.table) (find c.insert.new.self) c.loop-k.k _ (omega arith) c.loop-k.invariant.within
          c.loop-k.invariant.rest c.in_ok-insert.ensures.there c.in_ok-insert.ensures.others;
    }
