use Rattle.mdf_record.proofs.law.what_is_recoverable_is_finalizable.Goals as goal

pub returns : goal.returns
returns c = λ file is.
    let read = c.what_is_recovered_is_read.ensures file is.found is.recovery is.within in
    record { readable = record { found = read.0; is_read = read.1 }; short = is.short }
