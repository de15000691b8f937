use Rattle.mdf_run.proofs.recording.record.Goals as goal

pub returns-in-Source-clause-ends : goal.returns-in-Source-clause-ends
returns-in-Source-clause-ends g c =
    let r = c.record_source.ensures in
    rw c.in-Source.is (record {
      ends = r.ends;
      keeps = r.keeps;
      recovered = r.recovered;
      durable = r.durable;
      caused = record { usage = r.usage; source = r.source_fault; device = r.device_fault; sink = r.sink_fault };
    })
