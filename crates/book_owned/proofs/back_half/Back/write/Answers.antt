use Rattle.std.proofs.Common.{◌≡◌, ◌+◌, ◌<◌, refl, sym, subst, take, arith}
use Rattle.book_owned.specs.BackHalf.{BackKeeps, FileHolds}
use Rattle.book_owned.proofs.Backs.{back_keeps, back_holds, back_marked}
use Rattle.book_owned.proofs.Turning.{rises_told, told_on}
use Rattle.book_owned.proofs.back_half.Back.write.Goals as goal

pub returns-in_default-clause-keeps : goal.returns-in_default-clause-keeps
returns-in_default-clause-keeps g c = λ layouts most samples marks from keeps holds handed few.
    let file = c.self.inside.file in
    let before = subst (λ f. BackKeeps g.D.Disk layouts f (take c.args.through samples) marks) (sym c.self.view_is) keeps in
    let held = subst (λ f. FileHolds g.D.Disk layouts most f (take from samples)) (sym c.self.view_is) holds in
    back_keeps g.D.Disk layouts most file c.append.new.self c.args.block samples from c.args.through c.requires.some handed held
    marks few before c.append.ensures.goes_on.disk.told c.append.ensures.any_moment c.append.ensures.goes_on.disk.moment c.append.ensures.goes_on.head c.append.ensures.goes_on.start

pub returns-clause-keeps : goal.returns-clause-keeps
returns-clause-keeps g c = λ layouts most samples marks from keeps holds handed few.
    let file = c.self.inside.file in
    let before = subst (λ f. BackKeeps g.D.Disk layouts f (take c.args.through samples) marks) (sym c.self.view_is) keeps in
    let held = subst (λ f. FileHolds g.D.Disk layouts most f (take from samples)) (sym c.self.view_is) holds in
    let story = g.D.Disk.story file.disk in
    let earlier = g.D.Disk.moment file.disk in
    let now = g.D.Disk.moment c.append.new.self.disk in
    let rises = told_on story story (now ≡ earlier + 4) (earlier < now) refl (λ four. omega (arith, four)) c.in-Ok.ensures.ok.calls in (
      back_keeps g.D.Disk layouts most file c.append.new.self c.args.block samples from c.args.through c.requires.some handed held
          marks few before c.append.ensures.goes_on.disk.told c.append.ensures.any_moment c.append.ensures.goes_on.disk.moment c.append.ensures.goes_on.head c.append.ensures.goes_on.start,
      back_marked g.D.Disk layouts most file c.append.new.self c.args.block samples from c.args.through c.requires.some handed held
          marks few before c.append.ensures.goes_on.disk.told c.append.ensures.any_moment c.append.ensures.goes_on.disk.moment c.append.ensures.goes_on.head c.append.ensures.goes_on.start
          c.in-Ok.ensures.ok.going c.in-Ok.ensures.ok.place c.in-Ok.ensures.ok.rests
          (record { moment = c.moment.result; through = c.args.through }) c.moment.ensures.moment refl
          (rises_told _ _ c.append.ensures.goes_on.disk.told (earlier < now) rises) c.moment.ensures.leaves,
      back_holds g.D.Disk layouts most file c.append.new.self c.args.block samples from c.args.through c.requires.some handed held
          marks few before c.append.ensures.goes_on.disk.told c.append.ensures.any_moment c.append.ensures.goes_on.disk.moment c.append.ensures.goes_on.head c.append.ensures.goes_on.start
          c.in-Ok.ensures.ok.going c.in-Ok.ensures.ok.place c.in-Ok.ensures.ok.rests,
    )
