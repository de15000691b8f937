use Rattle.std.proofs.Common.{◌∙◌, inl, refl, sym}
use Rattle.mdf_port.specs.State.{sink_state}
use Rattle.acq_lines.specs.Spot.{fixed, spot}
use Rattle.acq_lines.proofs.Goings.{given, none_said, none_told, served, silent, told_on}
use Rattle.acq_lines.proofs.feed.LineFeed.tell.Goals as goal

pub returns-in_default : goal.returns-in_default
returns-in_default g c =
    let feed = c.args.self.now in (
      served g.K.Sink feed _ _ refl
          (none_told (fixed feed) (spot g.K.Sink feed) c.take.new.self (sym c.take.ensures.value ∙ c.in_default.is) c.take.ensures.after) c.requires.running c.requires.running refl,
      record { told = c.take.ensures.after; running = c.requires.running },
      inl (none_said (fixed feed) (spot g.K.Sink feed) _ refl refl),
      λ wants calm. (refl, wants),
    )

pub returns-then-not-self : goal.returns-then-not-self
returns-then-not-self g c =
    let feed = c.args.self.now in
    let told = c.give_durable.new.sink in (
      served g.K.Sink feed _ _ refl
          (told_on (fixed feed) (spot g.K.Sink feed) c.in-Some.count c.take.new.self c.is_err-self.result (sink_state g.K.Sink told)
          (sym c.take.ensures.value ∙ c.in-Some.is) c.take.ensures.after
          (given feed.number c.in-Some.count (sink_state g.K.Sink feed.told) (sink_state g.K.Sink told) c.give_durable.result feed.deaf c.is_err-self.result
          c.if-not-self.true c.is_err-self.ensures.value c.give_durable.ensures)) c.requires.running c.requires.running refl,
      record { told = c.take.ensures.after; running = c.requires.running },
      inl (none_said (fixed feed) (spot g.K.Sink feed) _ refl refl),
      λ wants calm. (refl, wants),
    )

pub returns-else-not-self : goal.returns-else-not-self
returns-else-not-self g c =
    let feed = c.args.self.now in
    let told = sink_state g.K.Sink feed.told in (
      served g.K.Sink feed _ _ refl
          (told_on (fixed feed) (spot g.K.Sink feed) c.in-Some.count c.take.new.self feed.deaf told (sym c.take.ensures.value ∙ c.in-Some.is) c.take.ensures.after
          (silent feed.number c.in-Some.count told feed.deaf c.if-not-self.false)) c.requires.running c.requires.running refl,
      record { told = c.take.ensures.after; running = c.requires.running },
      inl (none_said (fixed feed) (spot g.K.Sink feed) _ refl refl),
      λ wants calm. (refl, wants),
    )
