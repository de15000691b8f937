use Rattle.std.proofs.Common.{◌≡◌, ◌+◌, ◌-◌, ◌/◌, ◌<◌, ℕ, List, Some, true, length, ◌∙◌, sym, ap, subst, arith, inl, inr}
use Rattle.std.proofs.lemmas.List.{take_all}
use borrow.Rule.Slice.PartMut.{put_mid, same_len_mid}
use Rattle.mdf_format.specs.Number.{bytes_at}
use Rattle.mdf_disk.proofs.Goes.{read_further}
use Rattle.mdf_pages.specs.Page.{StillKept, is_kept}
use Rattle.mdf_pages.proofs.Fronts.{front_more}
use Rattle.mdf_pages.proofs.Held.{first_is_kept}
use Rattle.mdf_pages.proofs.pages.PagesSpan.fill.Goals as goal

pub loop-done-preserved : goal.loop-done-preserved
loop-done-preserved g c =
    let loop = c.loop-done in
    let long : length (put_mid loop.done (length loop.buf - loop.done) loop.buf c.front.new.buf) ≡ length loop.buf =
    same_len_mid loop.done (length loop.buf - loop.done) loop.buf c.front.new.buf c.front.auto.buf in
    record {
      within = omega (arith, long, c.in_ok-done.ensures.most);
      filled = λ file told.
          front_more file loop.buf c.front.new.buf c.args.at loop.done c.in_ok-done.field-0 (omega arith)
          (omega (arith, c.front.auto.buf, c.in_ok-done.ensures.most)) (loop.invariant.filled file told)
          (c.in_ok-done.ensures.filled file (loop.invariant.only_read.content ∙ told));
      first = λ some. c.in_ok-done.ensures.first ∙ ap (λ (place : ℕ). Some ((place - 1) / 65536)) (omega arith);
      kept = λ all. c.front.ensures.kept (loop.invariant.held all (c.args.at + loop.done) (omega arith) (omega arith)) ∙ loop.invariant.kept all;
      held = λ all place low high.
          c.front.ensures.others (loop.invariant.held all (c.args.at + loop.done) (omega arith) (omega arith)) (place / 65536)
          (loop.invariant.held all place low high);
      stays = λ one few.
          let n = c.in_ok-done.field-0 in
          let new = c.front.new.self.cache in
          let place : (c.args.at + loop.done) / 65536 ≡ c.args.at / 65536 = omega (arith, one) in
          let last : (c.args.at + loop.done + n - 1) / 65536 ≡ c.args.at / 65536 = omega (arith, one, c.in_ok-done.ensures.some, c.in_ok-done.ensures.most) in
          let here = subst (λ (page : ℕ). is_kept page new ≡ true) last (first_is_kept new _ c.in_ok-done.ensures.first) in
          inr (
            here,
            elim (loop.invariant.stays one few) [
              | inl start ↦
                  subst (λ (kept : List (ℕ × List ℕ)). StillKept kept new) start.1
                  (c.in_ok-done.ensures.stays (subst (λ (kept : List (ℕ × List ℕ)). length kept < 256) (sym start.1) few))
              | inr later ↦ λ other there.
                  c.front.ensures.others (subst (λ (page : ℕ). is_kept page loop.self.cache ≡ true) (sym place) later.0) other (later.1 other there)
            ],
          );
      size = c.front.ensures.size ∙ loop.invariant.size;
      calm = c.in_ok-done.ensures.ends.calm ∙ loop.invariant.calm;
      only_read = read_further g.D.Disk c.args.self.now.disk loop.self.disk c.front.new.self.disk loop.invariant.only_read c.front.ensures.ends.only_read;
    }

pub returns-clause-filled : goal.returns-clause-filled
returns-clause-filled g c = λ file told.
    let loop = c.loop-done in
    let all : loop.done ≡ length c.args.buf.now = omega (arith, loop.auto.buf) in
    sym (take_all loop.done loop.buf (omega (arith, loop.auto.buf)))
    ∙ loop.invariant.filled file told
    ∙ ap (λ (count : ℕ). bytes_at count file c.args.at) all

pub returns-clause-first : goal.returns-clause-first
returns-clause-first g c = λ some.
    let loop = c.loop-done in
    let all : loop.done ≡ length c.args.buf.now = omega (arith, loop.auto.buf) in
    loop.invariant.first (omega (arith, some)) ∙ ap (λ (count : ℕ). Some ((c.args.at + count - 1) / 65536)) all

pub returns-clause-stays : goal.returns-clause-stays
returns-clause-stays g c = λ one few.
    elim (c.loop-done.invariant.stays one few) [
      | inl start ↦ subst (λ (kept : List (ℕ × List ℕ)). StillKept c.args.self.now.cache kept) (sym start.1) (λ other there. there)
      | inr later ↦ later.1
    ]
