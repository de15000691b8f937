use Rattle.std.proofs.Common.{arith, refl}
use Rattle.mdf_record.proofs.Recording.{fresh_begun}
use Rattle.mdf_record.proofs.Recovering.{none_recovered}
use Rattle.mdf_rotate.proofs.part.unused.Goals as goal

pub returns-clause-unused : goal.returns-clause-unused
returns-clause-unused g c =
    let out = c.args.out in
    let met = g.met.C.Disk in
    record {
      same = refl;
      history = c.empty.ensures.items;
      marks = c.empty-2.ensures;
      begun = λ head. fresh_begun head (g.C.Disk.story out) (g.C.Disk.content out) (g.C.Disk.moment out) (met.agrees out) (met.unattached out (met.unasked out c.requires));
    }

pub returns-clause-recovered : goal.returns-clause-recovered
returns-clause-recovered g c =
    let out = c.args.out in
    let met = g.met.C.Disk in
    rw (c.empty.ensures.items, c.empty-2.ensures) (record {
      marks_recover = λ n mark within. absurd (omega (arith, within));
      start_recovers = none_recovered (g.C.Disk.story out) (g.C.Disk.moment out)
          (λ head. fresh_begun head (g.C.Disk.story out) (g.C.Disk.content out) (g.C.Disk.moment out) (met.agrees out) (met.unattached out (met.unasked out c.requires)));
    })
