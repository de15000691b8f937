-- What a part takes of the sources' tasks, while it is filled.
use Rattle.std.specs.Prelude.{ℕ, ◌≡◌, ◌+◌, ◌/◌, ◌≤◌, ◌⊎◌, List, [], ◌∷◌, ◌++◌, map, All}
use Rattle.mdf_layout.specs.Record.{cost_of}
use Rattle.acq_script.specs.Plan.{TaskFits}
use Rattle.acq_script.specs.declared.script.Plan.{Plan}
use Rattle.acq_script.specs.declared.script.Task.{Task}
use Rattle.book_rotate.specs.Part.{IsNextOrNone, tasks_cost}
use Rattle.book_rotate.specs.declared.fill.Share.{Share}

-- of each source what the part took, what is left, and both
abbrev pub parts_in : List Share → List (List Task)
parts_in shares = map (λ share. share.part.items) shares

abbrev pub left_in : List Share → List (List Task)
left_in shares = map (λ share. share.left.items) shares

abbrev pub tasks_of : Share → List Task
tasks_of share = share.part.items ++ share.left.items

abbrev pub tasks_in : List Share → List (List Task)
tasks_in shares = map tasks_of shares

-- the part took nothing of a source yet
abbrev pub HasNone : Share → Type 0
HasNone share = share.part.items ≡ []

-- the next task of a source was moved into the part
pub record IsMoved (old new : Share) : Type 0 where
  pub next : Task
  pub left_is : old.left.items ≡ next ∷ new.left.items
  pub part_is : new.part.items ≡ old.part.items ++ next ∷ []

-- all tasks of a source fit the plan
abbrev pub ShareFits : Plan → Share → Type 0
ShareFits plan share = All (TaskFits plan) (tasks_of share)

-- the source has its share in the part, or would have it with its next sample
abbrev pub HasShare : Plan → Share → Type 0
HasShare plan share = (plan.session / plan.sources ≤ tasks_cost plan.shapes share.part.items)
    ⊎ IsNextOrNone (λ sample. plan.session / plan.sources ≤ tasks_cost plan.shapes share.part.items + cost_of plan.shapes sample) share.left.items

-- each source has its share, or has nothing yet and is allowed as much
abbrev pub MayShare : Plan → List Share → ℕ → ℕ → ℕ → Type 0
MayShare plan shares cost limit step =
    (All HasNone shares × (cost + step ≤ limit) × (plan.session / plan.sources ≤ step)) ⊎ All (HasShare plan) shares
