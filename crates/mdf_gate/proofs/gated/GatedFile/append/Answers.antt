use Rattle.std.proofs.Common.{◌≡◌, ◌+◌, ◌<◌, ◌^◌, ◌++◌, [], ◌∷◌, ℕ, length, true, false, Ok, refl, ap, sym, subst, ◌∙◌, arith, List}
use Rattle.mdf_num.specs.declared.failure.Failed.{Failed}
use Rattle.mdf_disk.specs.Crash.{Adds}
use Rattle.mdf_gate.specs.Written.{payload_of, room_of}
use Rattle.mdf_gate.specs.Gated.{Gated, Buffered, RestsOn}
use Rattle.mdf_gate.specs.Images.{OpensEither, head_of}
use Rattle.mdf_gate.specs.Appended.{IsCutShort}
use Rattle.mdf_gate.proofs.Appends.{rests_on_after, form_on_after, adds_after, head_stays, kept_of, staged_after}
use Rattle.mdf_gate.proofs.Stages.{on_err}
use Rattle.mdf_gate.proofs.gated.GatedFile.append.Given as given
use Rattle.mdf_gate.proofs.gated.GatedFile.append.Goals as goal
use Rattle.mdf_gate.proofs.gated.GatedFile.append.Goals.{After-write}

-- while the block is written, no file joins but those with the blocks, or with the block too
adds : (g : given.Over) (c : After-write g) (blocks : List (List ℕ))
    → RestsOn (g.D.Disk.content c.self.inside.disk) (g.D.Disk.story c.self.inside.disk) c.self.inside.first blocks c.self.inside.place
    → Adds (g.D.Disk.story c.self.inside.disk) (g.D.Disk.story c.write.new.disk)
    (OpensEither (head_of (g.D.Disk.story c.self.inside.disk) c.self.inside.first) blocks c.args.block.now.bytes (c.self.inside.place + room_of c.self.inside.form (length c.args.block.now.bytes)))
adds g c blocks rests =
    let file = c.self.inside in
    let body = c.args.block.now.bytes in
    let going : file.failed ≡ false = ap (λ (s : Gated _). s.failed) c.self.view_is ∙ c.requires.going in
    let small : file.place + length body + 88 < 2 ^ 64 = omega (arith, c.requires.short, ap (λ (s : Gated _). s.place) c.self.view_is) in
    adds_after (g.D.Disk.story file.disk) (g.D.Disk.story c.write.new.disk) (g.D.Disk.content file.disk) _ file.first blocks file.place file.form file.offset body
    (g.met.D.Disk.agrees file.disk) rests (c.self.invariant.1.form_is going) c.self.invariant.1.on_eight small c.write.ensures.goes_on.told c.write.ensures.any_moment

-- the head stays
head_is : (g : given.Over) (c : After-write g)
    → head_of (g.D.Disk.story c.write.new.disk) c.self.inside.first ≡ head_of (g.D.Disk.story c.self.inside.disk) c.self.inside.first
head_is g c =
    let file = c.self.inside in
    let going : file.failed ≡ false = ap (λ (s : Gated _). s.failed) c.self.view_is ∙ c.requires.going in
    let rests = c.self.invariant.1.rests going in
    head_stays (g.D.Disk.story file.disk) (g.D.Disk.story c.write.new.disk) (g.D.Disk.content file.disk) (g.D.Disk.content c.write.new.disk) _ _ file.first rests.0 file.place _ c.args.block.now.bytes
    (g.met.D.Disk.agrees file.disk) (g.met.D.Disk.agrees c.write.new.disk) c.write.ensures.goes_on.moment rests.1 c.write.ensures.goes_on.told (adds g c rests.0 rests.1)

pub returns-in_err-write-clause-any_moment : goal.returns-in_err-write-clause-any_moment
returns-in_err-write-clause-any_moment g c = rw (← c.self.view_is) (adds g (goal.at.returns-in_err-write-clause-any_moment g c).After-write)

pub invariant_of-self-2 : goal.invariant_of-self-2
invariant_of-self-2 g c =
    let file = c.self.inside in
    let body = c.args.block.now.bytes in
    let place = ap (λ (s : Gated _). s.place) c.self.view_is in
    let small : file.place + length body + 88 < 2 ^ 64 = omega (arith, c.requires.short, place) in
    let going : file.failed ≡ false = ap (λ (s : Gated _). s.failed) c.self.view_is ∙ c.requires.going in
    let rests = c.self.invariant.1.rests going in
    let count : c.len.result ≡ length body = c.len.ensures.len ∙ ap (λ (b : Buffered). length b.bytes) c.in_ok-write.ensures.same in
    let room : c.room_of.result ≡ room_of file.form (length body) = c.room_of.ensures.room ∙ ap (room_of file.form) count in (
      c.write.ensures.goes_on.attached ∙ c.self.invariant.0,
      record {
        behind = omega (arith, c.self.invariant.1.behind);
        filled = omega (arith, c.self.invariant.1.filled, count, c.room_of.ensures.more);
        on_eight = omega (arith, c.self.invariant.1.on_eight, c.room_of.ensures.on_eight);
        small = omega (arith, c.requires.short, place, count, c.room_of.ensures.few);
        later = omega (arith, c.self.invariant.1.later, c.write.ensures.cause.later);
        cause = λ failed. absurd (cc failed);
        form_is = λ still. form_on_after Failed (Ok tt) (g.D.Disk.story file.disk) (g.D.Disk.content file.disk) (g.D.Disk.content c.write.new.disk) file.first rests.0
            file.place file.form file.offset body rests.1 (c.self.invariant.1.form_is going) c.in_ok-write.ensures.ok.content;
        rests = λ still. (
          rests.0 ++ body ∷ [],
          subst (λ (n : ℕ). RestsOn (g.D.Disk.content c.write.new.disk) (g.D.Disk.story c.write.new.disk) file.first (rests.0 ++ body ∷ []) (file.place + n)) (sym room)
              (rests_on_after Failed (Ok tt) (g.D.Disk.story file.disk) (g.D.Disk.story c.write.new.disk) (g.D.Disk.content file.disk) (g.D.Disk.content c.write.new.disk) _ file.first rests.0
              file.place file.form file.offset body (g.met.D.Disk.agrees file.disk) rests.1 (c.self.invariant.1.form_is going) c.self.invariant.1.on_eight small
              c.write.ensures.goes_on.told_content c.write.ensures.goes_on.told c.in_ok-write.ensures.ok.kept),
        );
      },
    )

pub returns-in_err-write-clause-goes_on : goal.returns-in_err-write-clause-goes_on
returns-in_err-write-clause-goes_on g c = rw (← c.self.view_is) (record {
  disk = c.write.ensures.goes_on;
  form = refl;
  first = refl;
  start = refl;
  faults = refl;
  head = head_is g (goal.at.returns-in_err-write-clause-goes_on g c).After-write;
  few = c.write.ensures.few;
})

pub returns-clause-goes_on : goal.returns-clause-goes_on
returns-clause-goes_on g c = rw (← c.self.view_is) (record {
  disk = c.write.ensures.goes_on;
  form = refl;
  first = refl;
  start = refl;
  faults = refl;
  head = head_is g (goal.at.returns-clause-goes_on g c).After-write;
  few = c.write.ensures.few;
})

pub returns-clause-any_moment : goal.returns-clause-any_moment
returns-clause-any_moment g c = rw (← c.self.view_is) (adds g (goal.at.returns-clause-any_moment g c).After-write)

pub returns-clause-ok : goal.returns-clause-ok
returns-clause-ok g c = rw (← c.self.view_is) (
    let file = c.self.inside in
    let body = c.args.block.now.bytes in
    let going : file.failed ≡ false = ap (λ (s : Gated _). s.failed) c.self.view_is ∙ c.requires.going in
    let small : file.place + length body + 88 < 2 ^ 64 = omega (arith, c.requires.short, ap (λ (s : Gated _). s.place) c.self.view_is) in
    let long : length c.write.new.self.bytes ≡ length body = ap (λ (b : Buffered). length b.bytes) c.in_ok-write.ensures.same in
    let count : c.len.result ≡ length body = c.len.ensures.len ∙ long in
    let added : c.from.result ≡ length body = c.from.ensures ∙ c.len-2.ensures.len ∙ long in
    let room : c.room_of.result ≡ room_of file.form (length body) = c.room_of.ensures.room ∙ ap (room_of file.form) count in
    record {
      going = refl;
      place = ap (λ (n : ℕ). file.place + n) room;
      offset = ap (λ (n : ℕ). file.offset + n) added;
      content = c.in_ok-write.ensures.ok.content;
      rests = λ blocks rests.
          subst (λ (n : ℕ). RestsOn (g.D.Disk.content c.write.new.disk) (g.D.Disk.story c.write.new.disk) file.first (blocks ++ body ∷ []) (file.place + n)) (sym room)
          (rests_on_after Failed (Ok tt) (g.D.Disk.story file.disk) (g.D.Disk.story c.write.new.disk) (g.D.Disk.content file.disk) (g.D.Disk.content c.write.new.disk) _ file.first blocks
          file.place file.form file.offset body (g.met.D.Disk.agrees file.disk) rests (c.self.invariant.1.form_is going) c.self.invariant.1.on_eight small
          c.write.ensures.goes_on.told_content c.write.ensures.goes_on.told c.in_ok-write.ensures.ok.kept);
      calls = c.in_ok-write.ensures.ok.calls;
      empty = c.clear.ensures.bytes;
    })

pub returns-in_err-write-clause-err : goal.returns-in_err-write-clause-err
returns-in_err-write-clause-err g c = rw (← c.self.view_is) (
    let file = c.self.inside in
    let body = c.args.block.now.bytes in
    let story = g.D.Disk.story in
    let content = g.D.Disk.content file.disk in
    let agrees = g.met.D.Disk.agrees file.disk in
    let going : file.failed ≡ false = ap (λ (s : Gated _). s.failed) c.self.view_is ∙ c.requires.going in
    let rests = c.self.invariant.1.rests going in
    let kept = kept_of content (story file.disk) _ file.first rests.0 file.place agrees rests.1 in
    let old : Gated g.row.D.Denot = record {
      disk = file.disk;
      form = file.form;
      first = file.first;
      place = file.place;
      offset = file.offset;
      start = file.start;
      faults = file.faults;
      failed = file.failed;
    } in
    let new : Gated g.row.D.Denot = record old { disk = c.write.new.disk; failed = true } in
    let cut : IsCutShort g.D.Disk old new c.args.block.now c.write.new.self = record {
      failed = refl;
      place = refl;
      kept = ap (λ (b : Buffered). b.bytes) c.write.ensures.same;
      staged = staged_after (story file.disk) (story c.write.new.disk) content _ file.first rests.0 file.place (payload_of file.form file.place file.offset body)
          agrees rests.1 c.in_err-write.ensures.err.staged;
      in_flight = c.in_err-write.ensures.err.in_flight kept.0 kept.1;
    } in
    on_err _ _ cut)
