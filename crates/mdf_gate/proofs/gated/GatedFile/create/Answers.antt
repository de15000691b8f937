use Rattle.std.proofs.Common.{◌≡◌, ◌%◌, ◌++◌, [], ◌∷◌, ℕ, length, refl, sym, subst, ◌∙◌, arith}
use Rattle.std.specs.Prelude.{IfSome}
use Rattle.mdf_disk.specs.Crash.{HoldsSince}
use Rattle.mdf_format.specs.Form.{form_of}
use Rattle.mdf_gate.specs.Images.{IsBegun, head_of}
use Rattle.mdf_gate.proofs.Begun.{begun_holds, begun_since, kept_form, kept_head}
use Rattle.mdf_gate.proofs.Resting.{head_rests}
use Rattle.mdf_gate.proofs.Appends.{kept_rests}
use Rattle.mdf_gate.proofs.gated.GatedFile.create.Goals as goal

pub invariant_of-result : goal.invariant_of-result
invariant_of-result g c =
    let head = c.args.head.now in
    let disk = c.write_head.new.disk in
    let on_eight : length head % 8 ≡ 0 = subst (λ n. n % 8 ≡ 0) c.requires.head.ends c.requires.head.recording.place.on_eight in (
      c.in-Ok.ensures.goes_on.attached ∙ c.requires.attached,
      record {
        behind = omega arith;
        filled = omega arith;
        on_eight = on_eight;
        small = omega (arith, c.requires.short);
        later = omega (arith, c.faults-faults.ensures, c.in-Ok.ensures.cause.later);
        cause = λ failed. absurd (cc failed);
        form_is = λ going. subst (λ form. IfSome (g.D.Disk.content disk) (λ file. form_of file ≡ form)) (sym c.form_of.ensures)
            (kept_form head (g.D.Disk.content disk) (g.D.Disk.story disk) c.requires.head c.in-Ok.ensures.ok);
        rests = λ going. (
          [],
          kept_rests (g.D.Disk.content disk) (g.D.Disk.story disk) (length head) [] (length head) (head ++ 0 ∷ []) c.in-Ok.ensures.ok (head_rests head c.requires.head),
        );
      },
    )

pub returns-clause-created : goal.returns-clause-created
returns-clause-created g c =
    let disk = c.write_head.new.disk in
    let content = g.D.Disk.content disk in
    let story = g.D.Disk.story disk in
    let head = c.args.head.now in
    let kept = c.in-Ok.ensures.ok in record {
      attached = c.in-Ok.ensures.goes_on.attached ∙ c.requires.attached;
      form = c.form_of.ensures;
      first = refl;
      place = refl;
      offset = refl;
      start = c.moment-start.ensures;
      faults = c.faults-faults.ensures;
      going = refl;
      rests = kept_rests content story (length head) [] (length head) (head ++ 0 ∷ []) kept (head_rests head c.requires.head);
      content = kept.whole;
      head = kept_head head content story kept;
      begun = subst (λ (t : ℕ). HoldsSince story t (IsBegun (head_of story (length head)))) (sym c.moment-start.ensures)
          (begun_since head story _ (length head) (kept_head head content story kept)
          (begun_holds head (g.D.Disk.story c.args.disk) story (g.D.Disk.content c.args.disk) _ (g.met.D.Disk.agrees c.args.disk) c.requires.blank.kept c.write_head.ensures.any_moment));
    }
