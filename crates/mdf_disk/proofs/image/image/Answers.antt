use Rattle.std.proofs.Common.{◌≡◌, ◌+◌, ◌<◌, length, take, get_or, sym, ◌∙◌, ap, arith, length-take}
use Rattle.std.proofs.lemmas.List.{get_or_default, get_or-take}
use Rattle.mdf_disk.specs.Tape.{story_of, told_by, inside, content_after}
use Rattle.mdf_disk.specs.Image.{image_of, image_begun, image_ended}
use Rattle.mdf_disk.specs.declared.call.Call.TheVariants.{Attach}
use Rattle.mdf_disk.proofs.Tapes.{story_of-more}
use Rattle.mdf_disk.proofs.Steps.{image_inside_is, content_after_is, image_after_is}
use Rattle.mdf_disk.proofs.image.image.Goals as goal

pub loop-call-preserved : goal.loop-call-preserved
loop-call-preserved c =
    let pick = c.args.pick in
    let calls = c.args.calls.now in
    let k = c.loop-call.call-index in
    let call = c.call-item.result in
    let before = story_of (take k calls) in
    let below : k < c.args.k = omega (arith, c.loop-call-test.true, length-take c.args.k calls) in
    let within : k < length calls = omega (arith, c.requires, below) in
    let here : get_or calls k call ≡ call = sym (c.call-item.is ∙ get_or-take c.args.k calls k call below) in
    let pushed : story_of (take (k + 1) calls) ≡ told_by before call = story_of-more calls k call within ∙ ap (told_by before) here in
    let content : c.perform.new.content.items ≡ (told_by before call).now.content =
    c.in_ok-perform.ensures.ok ∙ ap (content_after call) c.loop-call.invariant.content_is ∙ content_after_is call before in
    let begun : c.begin.new.image.items ≡ image_of pick (inside call before.now) =
    c.in_ok-begin.ensures ∙ ap (image_begun pick call) c.loop-call.invariant.image_is ∙ image_inside_is pick call before.now in
    record {
      content_is = content ∙ ap (λ s. s.now.content) (sym pushed);
      image_is = c.in_ok-end.ensures
          ∙ ap (λ content. image_ended call content c.begin.new.image.items) (c.deref.ensures.value ∙ content)
          ∙ ap (image_ended call (told_by before call).now.content) begun
          ∙ image_after_is pick call before
          ∙ ap (λ s. image_of pick s.now) (sym pushed);
    }

pub returns : goal.returns
returns c =
    let pick = c.args.pick in
    let calls = c.args.calls.now in
    let k = c.args.k in
    let call = c.index-calls-k.result in
    let before = story_of (take k calls) in
    let at : c.loop-call.call-index ≡ k = omega (arith, c.requires, c.loop-call-test.false, c.loop-call.auto.call-index-end, length-take k calls) in
    c.in_ok-begin-2.ensures
    ∙ ap (image_begun pick call) (c.loop-call.invariant.image_is ∙ ap (λ n. image_of pick (story_of (take n calls)).now) at)
    ∙ image_inside_is pick call before.now
    ∙ ap (λ call. image_of pick (inside call before.now)) (c.index-calls-k.is ∙ get_or_default calls k call Attach c.requires)
