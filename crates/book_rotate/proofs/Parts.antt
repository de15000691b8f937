-- What a part took, and what is left behind it.
use Rattle.std.proofs.Common.{◌≡◌, ◌+◌, ◌≤◌, ◌<◌, ℕ, zero, suc, List, [], ◌∷◌, ◌++◌, length, get_or, All, refl, sym, ◌∙◌, ap, subst, inl, inr, arith}
use Rattle.std.specs.Prelude.{◌/◌}
use Rattle.std.specs.List.{zip}
use Rattle.std.proofs.lemmas.List.{length-map}
use Rattle.std.proofs.lemmas.List.Elements.{All-append, All-cons, All-head, All-nil, All-tail}
use Rattle.mdf_layout.specs.Record.{cost_of}
use Rattle.acq_script.specs.Plan.{IsPlan, IsTaskOf, TaskFits}
use Rattle.acq_script.specs.Stage.{IsScript}
use Rattle.acq_script.specs.Tasks.{samples_of}
use Rattle.acq_script.specs.declared.script.Plan.{Plan}
use Rattle.acq_script.specs.declared.script.Script.{Script}
use Rattle.acq_script.specs.declared.script.Task.{Task}
use Rattle.acq_script.specs.declared.script.Task.TheVariants as task
use Rattle.book_rotate.specs.Fill.{HasShare, left_in, parts_in, tasks_in, tasks_of}
use Rattle.book_rotate.specs.Begin.{HasRoom, IsRotatable, all_samples}
use Rattle.book_rotate.specs.Part.{HasNoRoom, IsNextOrNone, IsPart, behind, lists_cost, part_plan, tasks_cost}
use Rattle.book_rotate.specs.declared.fill.Share.{Share}
use Rattle.book_rotate.proofs.Costs.{samples_of-append}

-- the parts with what is left behind them are all tasks
pub behind_of : (shares : List Share) → behind (parts_in shares) (left_in shares) ≡ tasks_in shares
behind_of [] = refl
behind_of (share ∷ shares) = ap (λ lists. tasks_of share ∷ lists) (behind_of shares)

-- what a source's share comes to
abbrev pub IsFair : Plan → List Task × List Task → Type 0
IsFair plan source = IsNextOrNone (λ sample. plan.session / plan.sources ≤ tasks_cost plan.shapes source.0 + cost_of plan.shapes sample) source.1

fair_one : (plan : Plan) (cost share : ℕ) (part : List Task) (left : List Task) → share ≤ tasks_cost plan.shapes part → IsNextOrNone (HasNoRoom plan cost) left
    → IsNextOrNone (λ sample. share ≤ tasks_cost plan.shapes part + cost_of plan.shapes sample) left
fair_one plan cost share part [] big none = tt
fair_one plan cost share part (task.Sample sample ∷ left) big none = omega (arith, big)
fair_one plan cost share part (task.Flush ∷ left) big none = absurd none

fair_of : (plan : Plan) (cost : ℕ) (share : Share) → HasShare plan share → IsNextOrNone (HasNoRoom plan cost) share.left.items → IsFair plan (share.part.items, share.left.items)
fair_of plan cost share (inl big) none = fair_one plan cost (plan.session / plan.sources) share.part.items share.left.items big none
fair_of plan cost share (inr next) none = next

pub all_fair : (plan : Plan) (cost : ℕ) (shares : List Share) → All (HasShare plan) shares → All (IsNextOrNone (HasNoRoom plan cost)) (left_in shares)
    → All (IsFair plan) (zip (parts_in shares) (left_in shares))
all_fair plan cost [] have full = All-nil (IsFair plan)
all_fair plan cost (share ∷ shares) have full =
    All-cons (IsFair plan) (share.part.items, share.left.items) (zip (parts_in shares) (left_in shares))
    (fair_of plan cost share (All-head (HasShare plan) share shares have) (All-head (IsNextOrNone (HasNoRoom plan cost)) share.left.items (left_in shares) full))
    (all_fair plan cost shares (All-tail (HasShare plan) share shares have) (All-tail (IsNextOrNone (HasNoRoom plan cost)) share.left.items (left_in shares) full))

-- what is so of all of a source's tasks is so of those of its part, and of those that are left
pub all_first : {X : Type 0} (P : X → Type 0) (xs ys : List X) → All P (xs ++ ys) → All P xs
all_first P [] ys all = All-nil P
all_first P (x ∷ xs) ys all = All-cons P x xs (All-head P x (xs ++ ys) all) (all_first P xs ys (All-tail P x (xs ++ ys) all))

pub all_later : {X : Type 0} (P : X → Type 0) (xs ys : List X) → All P (xs ++ ys) → All P ys
all_later P [] ys all = all
all_later P (x ∷ xs) ys all = all_later P xs ys (All-tail P x (xs ++ ys) all)

-- so source by source, where what is so of a task depends on its source
abbrev pub OfEach : (ℕ → Task → Type 0) → ℕ → List (List Task) → Type 0
OfEach P source lists = (s : ℕ) (d : List Task) → s < length lists → All (P (source + s)) (get_or lists s d)

later_each : (P : ℕ → Task → Type 0) (source : ℕ) (tasks : List Task) (lists : List (List Task)) → OfEach P source (tasks ∷ lists) → OfEach P (suc source) lists
later_each P source tasks lists each s d within = subst (λ n. All (P n) (get_or lists s d)) (omega arith) (each (suc s) d (omega (arith, within)))

first_each : (P : ℕ → Task → Type 0) (source : ℕ) (tasks : List Task) (lists : List (List Task)) → OfEach P source (tasks ∷ lists) → All (P source) tasks
first_each P source tasks lists each = subst (λ n. All (P n) tasks) (omega arith) (each 0 tasks (omega arith))

pub of_parts : (P : ℕ → Task → Type 0) (source : ℕ) (shares : List Share) → OfEach P source (tasks_in shares) → OfEach P source (parts_in shares)
of_parts P source [] each s d within = absurd (omega (arith, within))
of_parts P source (share ∷ shares) each zero d within =
    subst (λ n. All (P n) share.part.items) (omega arith)
    (all_first (P source) share.part.items share.left.items (first_each P source (tasks_of share) (tasks_in shares) each))
of_parts P source (share ∷ shares) each (suc s) d within =
    subst (λ n. All (P n) (get_or (parts_in shares) s d)) (omega arith)
    (of_parts P (suc source) shares (later_each P source (tasks_of share) (tasks_in shares) each) s d (omega (arith, within)))

pub of_left : (P : ℕ → Task → Type 0) (source : ℕ) (shares : List Share) → OfEach P source (tasks_in shares) → OfEach P source (left_in shares)
of_left P source [] each s d within = absurd (omega (arith, within))
of_left P source (share ∷ shares) each zero d within =
    subst (λ n. All (P n) share.left.items) (omega arith)
    (all_later (P source) share.part.items share.left.items (first_each P source (tasks_of share) (tasks_in shares) each))
of_left P source (share ∷ shares) each (suc s) d within =
    subst (λ n. All (P n) (get_or (left_in shares) s d)) (omega arith)
    (of_left P (suc source) shares (later_each P source (tasks_of share) (tasks_in shares) each) s d (omega (arith, within)))

-- a session that has room for all samples has room for those that are left
pub room_left : (plan : Plan) (shares : List Share) → All (HasRoom plan) (all_samples (tasks_in shares)) → All (HasRoom plan) (all_samples (left_in shares))
room_left plan [] all = all
room_left plan (share ∷ shares) all =
    All-append (HasRoom plan) (samples_of share.left.items) (all_samples (left_in shares))
    (all_later (HasRoom plan) (samples_of share.part.items) (samples_of share.left.items)
    (subst (All (HasRoom plan)) (samples_of-append share.part.items share.left.items)
    (all_first (HasRoom plan) (samples_of (tasks_of share)) (all_samples (tasks_in shares)) all)))
    (room_left plan shares (all_later (HasRoom plan) (samples_of (tasks_of share)) (all_samples (tasks_in shares)) all))

-- the plan of a part is one
plan_of_part : (plan : Plan) → IsPlan plan → IsPlan (part_plan plan)
plan_of_part plan is = record {
  planned = is.planned;
  shapes = is.shapes;
  groups = is.groups;
  few_groups = is.few_groups;
  fields = is.fields;
  variable = is.variable;
  owners = is.owners;
  owned = is.owned;
  some_sources = is.some_sources;
  few_sources = is.few_sources;
  limits = is.limits;
}

-- of what a script says, the part and what is left are scripts
module _ (plan : Plan) (lists : List (List Task)) (shares : List Share) (same : tasks_in shares ≡ lists) (script : IsScript (record { plan = plan; lists = lists })) where
  fit_each : OfEach (λ source. TaskFits plan) 0 (tasks_in shares)
  fit_each = subst (OfEach (λ source. TaskFits plan) 0) (sym same) script.fit

  own_each : OfEach (IsTaskOf plan) 0 (tasks_in shares)
  own_each s d within =
      subst (λ n. All (IsTaskOf plan n) (get_or (tasks_in shares) s d)) (omega arith)
      (subst (λ ls. s < length ls → All (IsTaskOf plan s) (get_or ls s d)) (sym same) (script.own s d) within)

  count : length shares ≡ length lists
  count = sym (length-map shares tasks_of) ∙ ap length same

  pub part_is_script : IsScript (record { plan = part_plan plan; lists = parts_in shares })
  part_is_script = record {
    plan = plan_of_part plan script.plan;
    lists = length-map shares (λ share. share.part.items) ∙ count ∙ script.lists;
    fit = of_parts (λ source. TaskFits plan) 0 shares fit_each;
    own = λ s d within. subst (λ n. All (IsTaskOf plan n) (get_or (parts_in shares) s d)) (omega arith) (of_parts (IsTaskOf plan) 0 shares own_each s d within);
  }

  pub left_is_script : IsScript (record { plan = plan; lists = left_in shares })
  left_is_script = record {
    plan = script.plan;
    lists = length-map shares (λ share. share.left.items) ∙ count ∙ script.lists;
    fit = of_left (λ source. TaskFits plan) 0 shares fit_each;
    own = λ s d within. subst (λ n. All (IsTaskOf plan n) (get_or (left_in shares) s d)) (omega arith) (of_left (IsTaskOf plan) 0 shares own_each s d within);
  }

  pub left_is_rotatable : All (HasRoom plan) (all_samples lists) → IsRotatable (record { plan = plan; lists = left_in shares })
  left_is_rotatable room = record {
    script_is = left_is_script;
    room = room_left plan shares (subst (λ ls. All (HasRoom plan) (all_samples ls)) (sym same) room);
  }

  pub part_is : lists_cost plan.shapes (parts_in shares) ≤ plan.session → All (IsNextOrNone (HasNoRoom plan (lists_cost plan.shapes (parts_in shares)))) (left_in shares)
      → All (HasShare plan) shares
      → IsPart (record { plan = plan; lists = lists }) (record { plan = part_plan plan; lists = parts_in shares }) (record { plan = plan; lists = left_in shares })
  part_is within full fair = record {
    plan_is = refl;
    same_plan = refl;
    count = length-map shares (λ share. share.part.items) ∙ count;
    same_count = length-map shares (λ share. share.left.items) ∙ count;
    cut = behind_of shares ∙ same;
    within = within;
    full = full;
    fair = all_fair plan (lists_cost plan.shapes (parts_in shares)) shares fair full;
  }

  -- the same in other words for the script, the part and what is left
  pub part_of : (self : Script) (part : Plan) (parts lefts : List (List Task)) → record { plan = plan; lists = lists } ≡ self → part ≡ part_plan plan → parts ≡ parts_in shares
      → lefts ≡ left_in shares → lists_cost plan.shapes (parts_in shares) ≤ plan.session
      → All (IsNextOrNone (HasNoRoom plan (lists_cost plan.shapes (parts_in shares)))) (left_in shares) → All (HasShare plan) shares
      → IsPart self (record { plan = part; lists = parts }) (record { plan = plan; lists = lefts })
  part_of self part parts lefts self_is part_is_so parts_are lefts_are within full fair =
      subst (λ s. IsPart s (record { plan = part; lists = parts }) (record { plan = plan; lists = lefts })) self_is
      (subst (λ p. IsPart (record { plan = plan; lists = lists }) (record { plan = p; lists = parts }) (record { plan = plan; lists = lefts })) (sym part_is_so)
      (subst (λ ls. IsPart (record { plan = plan; lists = lists }) (record { plan = part_plan plan; lists = ls }) (record { plan = plan; lists = lefts })) (sym parts_are)
      (subst (λ ls. IsPart (record { plan = plan; lists = lists }) (record { plan = part_plan plan; lists = parts_in shares }) (record { plan = plan; lists = ls })) (sym lefts_are)
      (part_is within full fair))))

  pub script_of : (part : Plan) (parts : List (List Task)) → part ≡ part_plan plan → parts ≡ parts_in shares → IsScript (record { plan = part; lists = parts })
  script_of part parts part_is_so parts_are =
      subst (λ p. IsScript (record { plan = p; lists = parts })) (sym part_is_so)
      (subst (λ ls. IsScript (record { plan = part_plan plan; lists = ls })) (sym parts_are) part_is_script)

  pub left_of : (lefts : List (List Task)) → lefts ≡ left_in shares → All (HasRoom plan) (all_samples lists) → IsRotatable (record { plan = plan; lists = lefts })
  left_of lefts lefts_are room = subst (λ ls. IsRotatable (record { plan = plan; lists = ls })) (sym lefts_are) (left_is_rotatable room)
