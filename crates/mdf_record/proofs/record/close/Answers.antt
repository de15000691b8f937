use Rattle.mdf_record.proofs.record.close.Goals as goal

pub returns : goal.returns
returns g c =
    let book = c.close-out.ensures in
    record {
      closes = record {
        end_is = rw (c.history_len-samples.ensures, c.last_mark-durable.ensures);
        disk = book.disk;
        history = book.history;
        marks = book.marks;
        kept = book.kept;
        within = book.within;
        cause = c.stopped-stopped.ensures.cause;
        asked_is = book.asked;
        told = book.told;
        holds = book.content;
      };
    }
