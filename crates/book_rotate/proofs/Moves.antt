-- A task that was moved into a part.
use Rattle.std.proofs.Common.{◌≡◌, ◌+◌, ◌≤◌, ◌<◌, ℕ, List, [], ◌∷◌, ◌++◌, length, get_or, sym, ◌∙◌, ap, subst, inl, inr, arith, append_assoc}
use Rattle.std.specs.Prelude.{◌/◌}
use Rattle.mdf_layout.specs.Layout.{Layout}
use Rattle.mdf_layout.specs.Record.{cost_of}
use Rattle.acq_script.specs.Plan.{TaskFits}
use Rattle.acq_script.specs.declared.script.Plan.{Plan}
use Rattle.acq_script.specs.declared.script.Task.{Task}
use Rattle.acq_script.specs.declared.script.Task.TheVariants as task
use Rattle.book_rotate.specs.Part.{IsNextOrNone, task_cost, tasks_cost}
use Rattle.book_rotate.specs.Fill.{HasShare, IsMoved, ShareFits, tasks_of}
use Rattle.book_rotate.specs.declared.fill.Share.{Share}
use Rattle.book_rotate.proofs.Costs.{tasks_cost-more}
use Rattle.book_rotate.proofs.Parts.{all_later}

pub moved_tasks : (old new : Share) → IsMoved old new → tasks_of new ≡ tasks_of old
moved_tasks old new moved =
    ap (λ p. p ++ new.left.items) moved.part_is ∙ append_assoc old.part.items (moved.next ∷ []) new.left.items ∙ ap (λ l. old.part.items ++ l) (sym moved.left_is)

pub moved_cost : (layouts : List Layout) (old new : Share) (moved : IsMoved old new)
    → tasks_cost layouts new.part.items ≡ tasks_cost layouts old.part.items + task_cost layouts moved.next
moved_cost layouts old new moved = ap (tasks_cost layouts) moved.part_is ∙ tasks_cost-more layouts old.part.items moved.next

-- with its next sample a source has its share
with_next : (plan : Plan) (share part : ℕ) (t : Task) (later : List Task) → IsNextOrNone (λ sample. share ≤ part + cost_of plan.shapes sample) (t ∷ later)
    → share ≤ part + task_cost plan.shapes t
with_next plan share part (task.Sample sample) later fact = fact
with_next plan share part task.Flush later fact = absurd fact

pub moved_share : (plan : Plan) (old new : Share) → IsMoved old new → HasShare plan old → HasShare plan new
moved_share plan old new moved (inl big) = inl (omega (arith, big, moved_cost plan.shapes old new moved))
moved_share plan old new moved (inr next) =
    inl (omega (
      arith,
      moved_cost plan.shapes old new moved,
      with_next plan (plan.session / plan.sources) (tasks_cost plan.shapes old.part.items) moved.next new.left.items
          (subst (IsNextOrNone (λ sample. plan.session / plan.sources ≤ tasks_cost plan.shapes old.part.items + cost_of plan.shapes sample)) moved.left_is next),
    ))

pub next_fits : (plan : Plan) (share : Share) (t : Task) → ShareFits plan share → 0 < length share.left.items → t ≡ get_or share.left.items 0 t → TaskFits plan t
next_fits plan share t fits some is = subst (TaskFits plan) (sym is) (all_later (TaskFits plan) share.part.items share.left.items fits 0 t some)

-- the next task has no room: it is a sample, since a flush costs nothing
pub no_room : (layouts : List Layout) (held limit : ℕ) (tasks : List Task) (t : Task) → 0 < length tasks → t ≡ get_or tasks 0 t → held ≤ limit → limit < held + task_cost layouts t
    → IsNextOrNone (λ sample. limit < held + cost_of layouts sample) tasks
no_room layouts held limit [] t some is below over = absurd (omega (arith, some))
no_room layouts held limit (task.Sample sample ∷ tasks) t some is below over = omega (arith, ap (task_cost layouts) is, over)
no_room layouts held limit (task.Flush ∷ tasks) t some is below over = absurd (omega (arith, ap (task_cost layouts) is, below, over))
