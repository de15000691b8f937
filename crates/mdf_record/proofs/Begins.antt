-- The plan of a script is one that a book can begin with, and what is so of those who look from then on.
use Rattle.std.proofs.Common.{◌≡◌, ℕ, suc, List, [], Bool, Option, Some, None, All, sym, subst}
use Rattle.std.specs.Option.{ForSome}
use Rattle.std.proofs.lemmas.List.Elements.{All-weaker}
use Rattle.mdf_layout.specs.Written.{AreApart}
use Rattle.mdf_layout.specs.Layout.{Layout}
use Rattle.mdf_layout.specs.Stored.{IsStored}
use Rattle.mdf_layout.specs.declared.sample.Sample.{Sample}
use Rattle.book_owned.specs.Begun.{IsAdmissible}
use Rattle.book_view.specs.Known.{Note}
use Rattle.acq_run.specs.Watching.{Watches}
use Rattle.acq_run.specs.declared.watcher.Watcher.{Watcher}
use Rattle.acq_script.specs.Plan.{IsGroup, IsPlan}
use Rattle.acq_script.specs.declared.script.Plan.{Plan}
use Rattle.mdf_command.specs.declared.fault.Fault.{Fault}
use Rattle.mdf_record.specs.Finish.{NoteComes}

admissible : (plan : Plan) → IsPlan plan → IsAdmissible plan.shapes plan.block plan.session
admissible plan is = record {
  groups = is.few_groups;
  fields = is.fields;
  variable = is.variable;
  disjoint = All-weaker IsGroup (λ layout. AreApart layout.rows) (λ layout group. group.apart) plan.shapes is.groups;
  stored = All-weaker IsGroup (λ layout. All IsStored layout.rows) (λ layout group. group.stored) plan.shapes is.groups;
  some = is.limits.block_low;
  block = is.limits.block_high;
  session = is.limits.session_high;
}

-- so it is of what was taken of it
pub admissible_for : (plan : Plan) → IsPlan plan → (shapes : List Layout) (block session : ℕ) → shapes ≡ plan.shapes → block ≡ plan.block → session ≡ plan.session
    → IsAdmissible shapes block session
admissible_for plan is shapes block session shapes_are block_is session_is = rw (shapes_are, block_is, session_is) (admissible plan is)

-- watchers of a view that is of this number
pub are_watched : (watchers : List Watcher) (which which' : ℕ) → which' ≡ which → All (λ watcher. Watches watcher which []) watchers
    → All (λ watcher. Watches watcher which' []) watchers
are_watched watchers which which' same watch = subst (λ n. All (λ watcher. Watches watcher n []) watchers) (sym same) watch

-- the note of the last flush is of the view of the book that was begun
pub note_of : (problem : Option Fault) (live : Bool) (which which' : ℕ) (history : List Sample) (last : Option Note) → which' ≡ which
    → NoteComes problem live which' history last → ForSome last (λ note. suc note.which ≡ which)
note_of None live which which' history None same comes n is = absurd (cc is)
note_of None live which which' history (Some note) same comes n is = cc (is, comes.1.1, same)
note_of (Some problem) live which which' history last same comes n is = absurd (cc (is, comes))
