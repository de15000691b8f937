-- How a part is filled, source by source.
use Rattle.std.proofs.Common.{◌≡◌, ◌+◌, ◌*◌, ◌≤◌, ◌<◌, ℕ, suc, List, [], ◌∷◌, ◌++◌, length, map, All, refl, sym, ◌∙◌, ap, subst, inl, inr, arith, append_assoc}
use Rattle.std.specs.Prelude.{◌/◌}
use Rattle.std.proofs.lemmas.List.Elements.{All-cons, All-head, All-map, All-nil, All-push, All-tail, All-weaker}
use Rattle.std.proofs.lemmas.List.{length-map, map-append}
use Rattle.std.proofs.lemmas.List.Sums.{sum_by-append, sum_by-cons}
use Rattle.std.proofs.Math.Nat.{div-mul-le_self, mul-suc}
use Rattle.mdf_layout.specs.Layout.{Layout}
use Rattle.mdf_layout.specs.Record.{cost_of}
use Rattle.mdf_layout.specs.declared.sample.Sample.{Sample}
use Rattle.acq_script.specs.Plan.{TaskFits}
use Rattle.acq_script.specs.Stage.{IsScript}
use Rattle.acq_script.specs.declared.script.Plan.{Plan}
use Rattle.acq_script.specs.declared.script.Task.{Task}
use Rattle.acq_script.specs.declared.script.Task.TheVariants as task
use Rattle.book_rotate.specs.Part.{HasNoRoom, IsNextOrNone, lists_cost, tasks_cost}
use Rattle.book_rotate.specs.Fill.{HasNone, HasShare, MayShare, ShareFits, left_in, parts_in, tasks_in, tasks_of}
use Rattle.book_rotate.specs.declared.fill.Share.{Share}

-- what is so of a next sample
pub next_weaker : (P Q : Sample → Type 0) → ((sample : Sample) → P sample → Q sample) → (tasks : List Task) → IsNextOrNone P tasks → IsNextOrNone Q tasks
next_weaker P Q weaker [] next = tt
next_weaker P Q weaker (task.Sample sample ∷ tasks) next = weaker sample next
next_weaker P Q weaker (task.Flush ∷ tasks) next = absurd next

-- what has no room behind a part has none behind a larger one
pub still_none : (plan : Plan) (cost more : ℕ) (lists : List (List Task)) → cost ≤ more → All (IsNextOrNone (HasNoRoom plan cost)) lists → All (IsNextOrNone (HasNoRoom plan more)) lists
still_none plan cost more lists larger none =
    All-weaker (IsNextOrNone (HasNoRoom plan cost)) (IsNextOrNone (HasNoRoom plan more))
    (λ tasks. next_weaker (HasNoRoom plan cost) (HasNoRoom plan more) (λ sample over. omega (arith, larger, over)) tasks) lists none

-- a source has its share when as much was allowed to it, and nothing more of it has room
pub share_taken : (plan : Plan) (new : Share) (held cost limit step : ℕ) → held + step ≤ limit → plan.session / plan.sources ≤ step
    → cost ≡ held + tasks_cost plan.shapes new.part.items → IsNextOrNone (λ sample. limit < cost + cost_of plan.shapes sample) new.left.items → HasShare plan new
share_taken plan new held cost limit step room least is next =
    inr (next_weaker (λ sample. limit < cost + cost_of plan.shapes sample)
    (λ sample. plan.session / plan.sources ≤ tasks_cost plan.shapes new.part.items + cost_of plan.shapes sample)
    (λ sample over. omega (arith, room, least, is, over)) new.left.items next)

-- a part that took nothing costs nothing
pub none_cost : (layouts : List Layout) (shares : List Share) → All HasNone shares → lists_cost layouts (parts_in shares) ≡ 0
none_cost layouts [] none = refl
none_cost layouts (share ∷ shares) none =
    omega (
      arith,
      sum_by-cons (tasks_cost layouts) share.part.items (parts_in shares),
      ap (tasks_cost layouts) (All-head HasNone share shares none),
      none_cost layouts shares (All-tail HasNone share shares none),
    )

-- what was moved fits as before
pub all_of_map : {X Y : Type 0} (P : X → Type 0) (f : Y → X) (ys : List Y) → All P (map f ys) → All (λ y. P (f y)) ys
all_of_map P f [] all = All-nil (λ y. P (f y))
all_of_map P f (y ∷ ys) all = All-cons (λ x. P (f x)) y ys (All-head P (f y) (map f ys) all) (all_of_map P f ys (All-tail P (f y) (map f ys) all))

pub fits_same : (plan : Plan) (old new : List Share) → tasks_in new ≡ tasks_in old → All (ShareFits plan) old → All (ShareFits plan) new
fits_same plan old new same fits =
    all_of_map (All (TaskFits plan)) tasks_of new (subst (All (All (TaskFits plan))) (sym same) (All-map (All (TaskFits plan)) tasks_of old fits))

pub script_fits : (plan : Plan) (lists : List (List Task)) (shares : List Share) → tasks_in shares ≡ lists → IsScript (record { plan = plan; lists = lists })
    → All (ShareFits plan) shares
script_fits plan lists shares same script =
    all_of_map (All (TaskFits plan)) tasks_of shares (subst (All (All (TaskFits plan))) (sym same) script.fit)

pub length_same : (old new : List Share) → tasks_in new ≡ tasks_in old → length new ≡ length old
length_same old new same = sym (length-map new tasks_of) ∙ ap length same ∙ length-map old tasks_of

-- the shares of all sources are together no more than a session
pub shares_fit : (session sources count : ℕ) → count ≡ sources → session / sources + session / sources * count ≤ session + session / sources
shares_fit session sources count same = omega (arith, ap (λ n. session / sources * n) same, div-mul-le_self session sources)

-- the limit of a source is within the session, and so is that of the next
pub limit_within : (limit step n session : ℕ) → limit + step * suc n ≤ session + step → limit ≤ session
limit_within limit step n session fits = omega (arith, mul-suc step n, fits)

pub limit_next : (limit step n session : ℕ) → limit + step * suc n ≤ session + step → limit + step + step * n ≤ session + step
limit_next limit step n session fits = omega (arith, mul-suc step n, fits)

-- one source more, of which tasks were moved
module _ (plan : Plan) (before after later rest : List Share) (old new : Share) (steps : rest ≡ old ∷ later) (grown : after ≡ before ++ new ∷ []) where
  pub tasks_more : (all : List (List Task)) → tasks_of new ≡ tasks_of old → tasks_in before ++ tasks_in rest ≡ all → tasks_in after ++ tasks_in later ≡ all
  tasks_more all same so_far =
      ap (λ shares. tasks_in shares ++ tasks_in later) grown ∙ ap (λ lists. lists ++ tasks_in later) (map-append tasks_of before (new ∷ []))
      ∙ append_assoc (tasks_in before) (tasks_of new ∷ []) (tasks_in later) ∙ ap (λ tasks. tasks_in before ++ tasks ∷ tasks_in later) same
      ∙ ap (λ shares. tasks_in before ++ tasks_in shares) (sym steps) ∙ so_far

  pub cost_more : (held cost : ℕ) → cost + tasks_cost plan.shapes old.part.items ≡ held + tasks_cost plan.shapes new.part.items
      → held ≡ lists_cost plan.shapes (parts_in before) + lists_cost plan.shapes (parts_in rest)
      → cost ≡ lists_cost plan.shapes (parts_in after) + lists_cost plan.shapes (parts_in later)
  cost_more held cost moved so_far =
      omega (
        arith,
        moved,
        so_far,
        ap (λ shares. lists_cost plan.shapes (parts_in shares)) grown,
        ap (lists_cost plan.shapes) (map-append (λ (share : Share). share.part.items) before (new ∷ [])),
        sum_by-append (tasks_cost plan.shapes) (parts_in before) (new.part.items ∷ []),
        sum_by-cons (tasks_cost plan.shapes) new.part.items [],
        ap (λ shares. lists_cost plan.shapes (parts_in shares)) steps,
        sum_by-cons (tasks_cost plan.shapes) old.part.items (parts_in later),
      )

  pub full_more : (held cost : ℕ) → held ≤ cost → All (IsNextOrNone (HasNoRoom plan held)) (left_in before) → IsNextOrNone (HasNoRoom plan cost) new.left.items
      → All (IsNextOrNone (HasNoRoom plan cost)) (left_in after)
  full_more held cost larger all one =
      subst (All (IsNextOrNone (HasNoRoom plan cost))) (sym (ap left_in grown ∙ map-append (λ (share : Share). share.left.items) before (new ∷ [])))
      (All-push (IsNextOrNone (HasNoRoom plan cost)) (left_in before) new.left.items (still_none plan held cost (left_in before) larger all) one)

  share_more : All (HasShare plan) before → HasShare plan new → All (HasShare plan) after
  share_more all one = subst (All (HasShare plan)) (sym grown) (All-push (HasShare plan) before new all one)

  pub fair_more : (held cost limit step : ℕ) → cost ≤ limit → cost + tasks_cost plan.shapes old.part.items ≡ held + tasks_cost plan.shapes new.part.items
      → IsNextOrNone (λ sample. limit < cost + cost_of plan.shapes sample) new.left.items → (HasShare plan old → HasShare plan new)
      → All (HasShare plan) before → MayShare plan rest held limit step → All (HasShare plan) after × MayShare plan later cost (limit + step) step
  fair_more held cost limit step within moved next keeps all (inl asked) =
      let none = subst (All HasNone) steps asked.0 in
      let had : tasks_cost plan.shapes old.part.items ≡ 0 = ap (tasks_cost plan.shapes) (All-head HasNone old later none) in (
        share_more all (share_taken plan new held cost limit step asked.1 asked.2 (omega (arith, moved, had)) next),
        inl (All-tail HasNone old later none, omega (arith, within), asked.2),
      )
  fair_more held cost limit step within moved next keeps all (inr have) =
      let shares = subst (All (HasShare plan)) steps have in
      (share_more all (keeps (All-head (HasShare plan) old later shares)), inr (All-tail (HasShare plan) old later shares))
