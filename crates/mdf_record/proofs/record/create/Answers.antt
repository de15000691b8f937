use Rattle.std.proofs.Common.{◌∙◌, ◌≡◌, ◌++◌, ◌∷◌, [], ap, inr, length, subst, sym, Some, arith}
use Rattle.std.specs.Prelude.{IfSome, is_some}
use Rattle.mdf_disk.specs.Crash.{Adds}
use Rattle.mdf_disk.specs.declared.role.Role.TheVariants.{Create}
use Rattle.mdf_disk.proofs.Crash.{adds_none}
use Rattle.mdf_gate.specs.Images.{IsBegun, head_of}
use Rattle.mdf_spell.specs.Recording.{head_file}
use Rattle.mdf_record.specs.Created.{IsNotCreated}
use Rattle.mdf_command.specs.declared.fault.Fault.TheVariants as fault
use Rattle.mdf_record.proofs.Recording.{begun_since, was_asked}
use Rattle.mdf_record.proofs.Recovering.{begun_recovered, none_recovered, not_created, one_moment}
use Rattle.mdf_record.proofs.record.create.Given as given
use Rattle.mdf_record.proofs.record.create.Goals as goal
use Rattle.mdf_record.proofs.record.create.Goals.{After-head_for}

-- where memory is wanting, the disk is as it was
unmade : (g : given.Over) (c : After-head_for g)
    → IsNotCreated g.C.Disk c.args.name.now (head_file c.args.form c.args.now_ns c.args.rows.now) c.args.out c.args.out fault.Memory
unmade g c =
    let laws = g.met.C.Disk in
    not_created g.C.Disk c.args.name.now (head_file c.args.form c.args.now_ns c.args.rows.now) c.args.out c.requires.asked (laws.agrees c.args.out) (laws.unattached c.args.out (laws.unasked c.args.out c.requires.asked))

pub returns-in_default-clause-refused : goal.returns-in_default-clause-refused
returns-in_default-clause-refused g c = unmade g (goal.at.returns-in_default-clause-refused g c).After-head_for

pub returns-in_default-copy-clause-refused : goal.returns-in_default-copy-clause-refused
returns-in_default-copy-clause-refused g c = unmade g (goal.at.returns-in_default-copy-clause-refused g c).After-head_for

-- where the disk was not attached, a crash leaves no MDF file
pub returns-in_default-attach-clause-refused : goal.returns-in_default-attach-clause-refused
returns-in_default-attach-clause-refused g c =
    let disk = g.C.Disk in
    let laws = g.met.C.Disk in
    let out = c.args.out in
    let made = c.attach.new.self in
    let head = head_file c.args.form c.args.now_ns c.args.rows.now in
    let asked = c.attach.ensures.asked ∙ ap (λ n. Some (n, Create)) c.in-Ok-copy.ensures in
    record {
      unmade = record {
        asked_is = inr asked;
        begun = begun_since head (disk.story out) (disk.story made) (disk.story made) (disk.content out) (disk.moment out)
            (laws.agrees out) (laws.unattached out (laws.unasked out c.requires.asked)) c.attach.ensures.story (adds_none (disk.story made) (IsBegun head));
        comes = c.in_default-attach.ensures.cause.failed;
      };
      untouched = λ none. absurd (was_asked _ _ asked none);
      recovers = none_recovered (disk.story made) (disk.moment out) (λ head. begun_since head (disk.story out) (disk.story made) (disk.story made) (disk.content out) (disk.moment out)
          (laws.agrees out) (laws.unattached out (laws.unasked out c.requires.asked)) c.attach.ensures.story (adds_none (disk.story made) (IsBegun head)));
    }

-- the file is begun at the moment of the disk before it was attached, where the disk tells its story
pub returns-in-Ok-made-clause-created : goal.returns-in-Ok-made-clause-created
returns-in-Ok-made-clause-created g c =
    let disk = g.C.Disk in
    let laws = g.met.C.Disk in
    let out = c.args.out in
    let made = c.attach.new.self in
    let file = c.in-Ok-made.file in
    let gated = c.in-Ok-made.ensures in
    let begins = gated.created in
    let head_is = c.as_slice.ensures ∙ c.in-Ok.ensures.head in
    record {
      created = record {
        going = begins.going;
        rests = begins.rests;
        short = omega (arith, begins.place, ap length c.as_slice.ensures, c.in-Ok.ensures.short);
        begun = begins.begun;
      };
      head = subst (λ h. IfSome (disk.story file.disk) (λ _. head_of (disk.story file.disk) file.first ≡ h)) head_is begins.head;
      asked = gated.goes_on.asked ∙ c.attach.ensures.asked ∙ ap (λ n. Some (n, Create)) c.in-Ok-copy.ensures;
      made = record {
        attached = begins.attached;
        content = subst (λ h. IfSome (disk.content file.disk) (λ file. file ≡ h ++ 0 ∷ [])) head_is begins.content;
      };
      begun = begun_since (head_file c.args.form c.args.now_ns c.args.rows.now) (disk.story out) (disk.story made) (disk.story file.disk) (disk.content out) (disk.moment out)
          (laws.agrees out) (laws.unattached out (laws.unasked out c.requires.asked)) c.attach.ensures.story
          (subst (λ h. Adds (disk.story made) (disk.story file.disk) (IsBegun h)) head_is gated.any_moment);
      told = gated.goes_on.told ∙ ap is_some c.attach.ensures.story;
      start = subst (λ n. IfSome (disk.story out) (λ _. n ≡ disk.moment out)) (sym begins.start)
          (one_moment (disk.story out) (disk.story made) (disk.content out) (disk.content made) (disk.moment out) (disk.moment made) (laws.agrees out) (laws.agrees made)
          c.attach.ensures.story);
      faults = omega (arith, c.attach.ensures.cause.later, begins.faults);
      readable = c.in-Ok.ensures.readable;
    }

pub returns-in-Err-clause-refused : goal.returns-in-Err-clause-refused
returns-in-Err-clause-refused g c =
    let disk = g.C.Disk in
    let laws = g.met.C.Disk in
    let out = c.args.out in
    let made = c.attach.new.self in
    let after = c.in-Err.out in
    let asked = c.in-Err.ensures.goes_on.asked ∙ c.attach.ensures.asked ∙ ap (λ n. Some (n, Create)) c.in-Ok-copy.ensures in
    let begun = begun_since (head_file c.args.form c.args.now_ns c.args.rows.now) (disk.story out) (disk.story made) (disk.story after) (disk.content out) (disk.moment out)
    (laws.agrees out) (laws.unattached out (laws.unasked out c.requires.asked)) c.attach.ensures.story
    (subst (λ h. Adds (disk.story made) (disk.story after) (IsBegun h)) (c.as_slice.ensures ∙ c.in-Ok.ensures.head) c.in-Err.ensures.any_moment) in
    record {
      unmade = record { asked_is = inr asked; begun = begun; comes = omega (arith, c.attach.ensures.cause.later, c.in-Err.ensures.cause.failed) };
      untouched = λ none. absurd (was_asked _ _ asked none);
      recovers = begun_recovered c.what_is_carried_is_recovered.ensures (disk.story after) (disk.moment out) c.args.form c.args.now_ns c.args.rows.now c.requires.rows c.in-Ok.ensures.readable begun;
    }
