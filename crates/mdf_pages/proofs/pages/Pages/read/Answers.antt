use Rattle.std.proofs.Common.{◌≡◌, ◌<◌, ℕ, List, Option, false, length, take, sym, ◌∙◌, ap, subst, arith}
use Rattle.std.proofs.lemmas.List.{take_all, length-take}
use Rattle.mdf_num.specs.Span.{IsTold}
use Rattle.mdf_pages.specs.Page.{ArePages, StillKept, is_kept}
use Rattle.mdf_pages.proofs.Held.{pages_taken, none_taken, pages_after, still_after}
use Rattle.mdf_pages.proofs.pages.Pages.read.Goals as goal

pub put-requires : goal.put-requires
put-requires g c =
    subst (λ (kept : List (ℕ × List ℕ)). is_kept c.args.page kept ≡ false) (sym c.take_room-room.ensures)
    (none_taken c.args.page 255 c.args.self.now.cache c.requires.absent)

pub invariant_of-self : goal.invariant_of-self
invariant_of-self g c =
    let now = c.args.self.now in
    let same = sym c.read_page.ensures.ends.only_read.content in
    let fewer = c.take_room-room.ensures in
    record {
      attached = c.read_page.ensures.ends.only_read.attached ∙ now.attached;
      sized = subst (λ (told : Option (List ℕ)). IsTold told now.size) same now.sized;
      pages = subst (λ (told : Option (List ℕ)). ArePages told now.size c.take_room-room.new.self) same
          (subst (ArePages (g.D.Disk.content now.disk) now.size) (sym fewer) (pages_taken (g.D.Disk.content now.disk) now.size now.cache now.pages));
      few = omega (arith, ap (λ (kept : List (ℕ × List ℕ)). length kept) fewer, length-take 255 now.cache);
    }

pub invariant_of-self-2 : goal.invariant_of-self-2
invariant_of-self-2 g c =
    let now = c.args.self.now in
    let same = sym c.read_page.ensures.ends.only_read.content in
    let less = c.take_room-room.new.self in
    let pages = subst (ArePages (g.D.Disk.content now.disk) now.size) (sym c.take_room-room.ensures)
    (pages_taken (g.D.Disk.content now.disk) now.size now.cache now.pages) in
    record {
      attached = c.read_page.ensures.ends.only_read.attached ∙ now.attached;
      sized = subst (λ (told : Option (List ℕ)). IsTold told now.size) same now.sized;
      pages = subst (λ (told : Option (List ℕ)). ArePages told now.size c.put.new.self) same
          (pages_after c.put.result (g.D.Disk.content now.disk) now.size c.args.page c.in_ok-bytes.bytes less c.put.new.self
          c.put.ensures.ok c.put.ensures.err pages c.in_ok-bytes.ensures.page);
      few = c.put.ensures.few;
    }

pub returns-clause-stays : goal.returns-clause-stays
returns-clause-stays g c = λ few.
    let kept = c.args.self.now.cache in
    let less = c.take_room-room.new.self in
    let same : less ≡ kept = c.take_room-room.ensures ∙ take_all 255 kept (omega (arith, few)) in
    subst (λ (old : List (ℕ × List ℕ)). StillKept old c.put.new.self) same
    (still_after c.put.result c.args.page c.in_ok-bytes.bytes less c.put.new.self c.put.ensures.ok c.put.ensures.err
    (subst (λ (old : List (ℕ × List ℕ)). length old < 256) (sym same) few))
