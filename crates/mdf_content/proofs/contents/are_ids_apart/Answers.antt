use Rattle.std.proofs.Common.{◌-◌, get_or, length, sym, ◌∙◌, ap, arith}
use Rattle.std.proofs.lemmas.Bool.{not-true, not-false}
use Rattle.std.specs.Ordering.{nat_cmp}
use Rattle.std.specs.BTreeSet.{contains}
use Rattle.mdf_content.proofs.Strictness.{any_none, apart_none, ids_more, apart_more, apart_ends}
use Rattle.mdf_content.proofs.contents.are_ids_apart.Goals as goal

pub loop-k-init : goal.loop-k-init
loop-k-init c =
    let groups = c.args.groups.now in
    record {
      within = omega arith;
      ids = λ id. rw c.new-ids.ensures.empty (sym (any_none groups (length groups) id (omega arith)));
      apart = apart_none groups (length groups) (omega arith);
    }

pub returns-then-not-new : goal.returns-then-not-new
returns-then-not-new c =
    let loop = c.loop-k in
    let groups = c.args.groups.now in
    let group = get_or groups (loop.k - 1) c.index-groups-k.result in
    let before = contains nat_cmp loop.ids group.id in
    sym
    (apart_ends groups before loop.k group (omega (arith, c.loop-k-test.true)) loop.invariant.within (ap (get_or groups (loop.k - 1)) c.index-groups-k.is)
    (loop.invariant.ids group.id) loop.invariant.apart (not-false before (sym c.in_ok-new.ensures.new ∙ c.if-not-new.true)))

pub loop-k-preserved : goal.loop-k-preserved
loop-k-preserved c =
    let loop = c.loop-k in
    let groups = c.args.groups.now in
    let group = get_or groups (loop.k - 1) c.index-groups-k.result in
    let before = contains nat_cmp loop.ids group.id in
    let is = ap (get_or groups (loop.k - 1)) c.index-groups-k.is in
    record {
      within = omega (arith, loop.invariant.within);
      ids =
          ids_more groups (contains nat_cmp loop.ids) (contains nat_cmp c.add_id.new.ids) loop.k group (omega (arith, c.loop-k-test.true))
          loop.invariant.within is loop.invariant.ids c.in_ok-new.ensures.added;
      apart =
          apart_more groups before loop.k group (omega (arith, c.loop-k-test.true)) loop.invariant.within is (loop.invariant.ids group.id)
          loop.invariant.apart (not-true before (sym c.in_ok-new.ensures.new ∙ c.if-not-new.false));
    }
