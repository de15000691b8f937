use Rattle.std.proofs.Common.{◌≡◌, ◌∙◌, arith, length-append}
use Rattle.std.proofs.lemmas.List.Elements.{All-push}
use Rattle.book_view.specs.Names.{code_of}
use Rattle.book_view.specs.declared.reader.LiveReader.{LiveReader}
use Rattle.book_view.proofs.live.readers_of.Goals as goal

pub loop-preserved : goal.loop-preserved
loop-preserved c =
    let before = c.loop.invariant in
    let made = c.reader_of.ensures in
    let front = c.args.front.now.seen in
    rw c.in_ok-push.ensures.items (record {
      kept = (made.kept.0 ∙ before.kept.0, made.kept.1 ∙ before.kept.1, made.kept.2 ∙ before.kept.2);
      named = made.named ∙ before.named;
      count = omega (arith, length-append c.loop.made.items, before.count);
      made = All-push (λ (reader : LiveReader). reader ≡ record { samples = front.log; which = code_of front.book; refusals = 0; views = 0 })
          c.loop.made.items c.in_ok-reader.reader before.made c.in_ok-reader.ensures.made;
    })
