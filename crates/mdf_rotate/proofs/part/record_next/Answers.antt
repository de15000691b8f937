use Rattle.std.proofs.Common.{inl, inr, refl}
use Rattle.mdf_disk.specs.State.{state_of}
use Rattle.mdf_record.specs.Record.{outcome}
use Rattle.mdf_rotate.specs.Words.{part_name}
use Rattle.mdf_rotate.proofs.Said.{said_of}
use Rattle.mdf_rotate.proofs.part.record_next.Goals as goal

pub returns-in-Ok : goal.returns-in-Ok
returns-in-Ok g c =
    let cut = c.in-Ok.ensures in
    let part = c.part_of.ensures in
    let recorded = c.record_script-recorded.result in
    rw (part.out, part.history, part.marks) (record {
      comes = inr (record {
        part = c.in-Ok.script;
        rest = c.in-Ok.rest;
        is_part = cut.part;
        is_script = cut.script;
        end = recorded.end;
        comes = said_of c.in-Ok.script c.in-Ok.name (part_name c.args.output.now c.args.number) cut.name c.args.means.now.now_ns (state_of g.C.Disk c.args.out)
            (outcome g.C.Disk recorded.out recorded.history.items recorded.marks.items) recorded.end c.record_script-recorded.ensures.comes;
        next_is = part.course;
      });
      untouched = c.record_script-recorded.ensures.untouched;
      recovered = c.record_script-recorded.ensures.recovered;
    })

pub returns-in-Err : goal.returns-in-Err
returns-in-Err g c = record {
  comes = inl (c.unused.ensures.unused, refl);
  untouched = λ none. c.unused.ensures.out;
  recovered = c.unused.ensures.recovered;
}
