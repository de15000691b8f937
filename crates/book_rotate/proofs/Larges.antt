-- The first sample for which a session has no room.
use Rattle.std.proofs.Common.{◌≡◌, ◌≤◌, ◌<◌, ℕ, suc, List, [], ◌∷◌, ◌++◌, length, take, drop, get_or, All, refl, sym, ◌∙◌, ap, subst, arith, append_assoc}
use Rattle.std.proofs.Math.Seq.{take-suc, drop-cons}
use Rattle.std.proofs.lemmas.List.{take-append-drop}
use Rattle.std.proofs.lemmas.List.Elements.{All-append, All-nil, All-cons}
use Rattle.std.proofs.lemmas.Grind.{flat_map-append}
use Rattle.mdf_layout.specs.declared.sample.Sample.{Sample}
use Rattle.acq_script.specs.Tasks.{samples_of}
use Rattle.acq_script.specs.declared.script.Plan.{Plan}
use Rattle.acq_script.specs.declared.script.Task.{Task}
use Rattle.acq_script.specs.declared.script.Task.TheVariants as task
use Rattle.book_rotate.specs.Begin.{HasRoom, IsFirstLargeIn, all_samples}
use Rattle.book_rotate.specs.Part.{task_cost}
use Rattle.book_rotate.proofs.Costs.{samples_of-append}

-- one task more, for which a session has room
pub room_for_one : (plan : Plan) (t : Task) → task_cost plan.shapes t ≤ plan.session → All (HasRoom plan) (samples_of (t ∷ []))
room_for_one plan (task.Sample sample) room = All-cons (HasRoom plan) sample [] room (All-nil (HasRoom plan))
room_for_one plan task.Flush room = All-nil (HasRoom plan)

pub room_for_more : (plan : Plan) (tasks : List Task) (i : ℕ) (d : Task) → i < length tasks → All (HasRoom plan) (samples_of (take i tasks))
    → task_cost plan.shapes (get_or tasks i d) ≤ plan.session → All (HasRoom plan) (samples_of (take (suc i) tasks))
room_for_more plan tasks i d within before room =
    subst (All (HasRoom plan)) (sym (ap samples_of (take-suc tasks i d within) ∙ samples_of-append (take i tasks) (get_or tasks i d ∷ [])))
    (All-append (HasRoom plan) (samples_of (take i tasks)) (samples_of (get_or tasks i d ∷ [])) before (room_for_one plan (get_or tasks i d) room))

-- a task for which it has none is a sample
pub large_with : (plan : Plan) (first : List Sample) (t : Task) (later : List Task) → All (HasRoom plan) first → plan.session < task_cost plan.shapes t
    → IsFirstLargeIn plan (first ++ samples_of (t ∷ later)) (task_cost plan.shapes t)
large_with plan first (task.Sample sample) later room over = record {
  before = first;
  sample = sample;
  later = samples_of later;
  samples_are = refl;
  room = room;
  size_is = refl;
  over = over;
}
large_with plan first task.Flush later room over = absurd (omega (arith, over))

pub large_at : (plan : Plan) (tasks : List Task) (i : ℕ) (d : Task) → i < length tasks → All (HasRoom plan) (samples_of (take i tasks))
    → plan.session < task_cost plan.shapes (get_or tasks i d) → IsFirstLargeIn plan (samples_of tasks) (task_cost plan.shapes (get_or tasks i d))
large_at plan tasks i d within before over =
    let parts : samples_of tasks ≡ samples_of (take i tasks) ++ samples_of (get_or tasks i d ∷ drop (suc i) tasks) =
    ap samples_of (sym (take-append-drop i tasks) ∙ ap (λ ts. take i tasks ++ ts) (drop-cons tasks i d within))
    ∙ samples_of-append (take i tasks) (get_or tasks i d ∷ drop (suc i) tasks) in
    subst (λ samples. IsFirstLargeIn plan samples (task_cost plan.shapes (get_or tasks i d))) (sym parts)
    (large_with plan (samples_of (take i tasks)) (get_or tasks i d) (drop (suc i) tasks) before over)

-- the same of lists
pub room_for_list : (plan : Plan) (lists : List (List Task)) (i : ℕ) (d : List Task) → i < length lists → All (HasRoom plan) (all_samples (take i lists))
    → All (HasRoom plan) (samples_of (get_or lists i d)) → All (HasRoom plan) (all_samples (take (suc i) lists))
room_for_list plan lists i d within before room =
    subst (All (HasRoom plan)) (sym (ap all_samples (take-suc lists i d within) ∙ flat_map-append samples_of (take i lists) (get_or lists i d ∷ [])))
    (All-append (HasRoom plan) (all_samples (take i lists)) (all_samples (get_or lists i d ∷ [])) before
    (All-append (HasRoom plan) (samples_of (get_or lists i d)) [] room (All-nil (HasRoom plan))))

pub large_behind : (plan : Plan) (first : List Sample) (samples later : List Sample) (size : ℕ) → All (HasRoom plan) first → IsFirstLargeIn plan samples size
    → IsFirstLargeIn plan (first ++ (samples ++ later)) size
large_behind plan first samples later size room large = record {
  before = first ++ large.before;
  sample = large.sample;
  later = large.later ++ later;
  samples_are = ap (λ s. first ++ (s ++ later)) large.samples_are ∙ ap (λ s. first ++ s) (append_assoc large.before (large.sample ∷ large.later) later)
      ∙ sym (append_assoc first large.before (large.sample ∷ (large.later ++ later)));
  room = All-append (HasRoom plan) first large.before room large.room;
  size_is = large.size_is;
  over = large.over;
}

pub large_in_list : (plan : Plan) (lists : List (List Task)) (i : ℕ) (d : List Task) (size : ℕ) → i < length lists → All (HasRoom plan) (all_samples (take i lists))
    → IsFirstLargeIn plan (samples_of (get_or lists i d)) size → IsFirstLargeIn plan (all_samples lists) size
large_in_list plan lists i d size within before large =
    let parts : all_samples lists ≡ all_samples (take i lists) ++ all_samples (get_or lists i d ∷ drop (suc i) lists) =
    ap all_samples (sym (take-append-drop i lists) ∙ ap (λ ts. take i lists ++ ts) (drop-cons lists i d within))
    ∙ flat_map-append samples_of (take i lists) (get_or lists i d ∷ drop (suc i) lists) in
    subst (λ samples. IsFirstLargeIn plan samples size) (sym parts)
    (large_behind plan (all_samples (take i lists)) (samples_of (get_or lists i d)) (all_samples (drop (suc i) lists)) size before large)
