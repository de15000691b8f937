use Rattle.std.proofs.Common.{length, sym, arith}
use Rattle.std.specs.BTreeMap.{get}
use Rattle.std.specs.Ordering.{nat_cmp}
use Rattle.mdf_content.proofs.Tables.{values_none, table_more}
use Rattle.mdf_content.proofs.values.values_table.Goals as goal

pub loop-k-init : goal.loop-k-init
loop-k-init c = record {
  within = omega arith;
  rest = λ at. rw c.new-table.ensures.empty (sym (values_none c.args.groups.now at (length c.args.groups.now) (omega arith)));
}

pub loop-k-preserved : goal.loop-k-preserved
loop-k-preserved c = record {
  within = omega arith;
  rest =
      table_more c.args.groups.now (get nat_cmp c.loop-k.table) (get nat_cmp c.add_group.new.table) c.loop-k.k c.index-groups-k.result
      (omega (arith, c.loop-k-test.true)) c.loop-k.invariant.within c.index-groups-k.is c.loop-k.invariant.rest c.in_ok-add_group.ensures;
}
