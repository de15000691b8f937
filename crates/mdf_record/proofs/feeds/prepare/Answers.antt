use Rattle.mdf_record.proofs.feeds.prepare.Goals as goal

pub returns : goal.returns
returns g c = record {
  prepared = record {
    none = c.in_ok-accepted.ensures.none;
    room = c.in_ok-accepted.ensures.room;
    shown = c.in_ok-view.ensures.shown;
    handed = c.in_ok-view.ensures.handed;
    which = c.in_ok-view.ensures.which;
    count = c.in_ok-view.ensures.count;
    watch = c.in_ok-view.ensures.watch;
  };
}
