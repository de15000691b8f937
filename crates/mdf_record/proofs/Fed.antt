-- A recording of feeds is one of the script of what they handed in.
use Rattle.std.proofs.Common.{◌≡◌, ◌⊎◌, ⊎_elim, inl, inr, ℕ, suc, List, [], ◌∷◌, length, map, replicate, Some, None, refl, sym, ◌∙◌, ap, subst}
use Rattle.std.specs.Prelude.{◌<◌, Bool, MatchBool, is_some}
use Rattle.mdf_gate.specs.Gated.{Gated}
use Rattle.mdf_disk.specs.State.{state_of}
use Rattle.book_owned.specs.Members.{DiskOf}
use Rattle.book_owned.specs.declared.view.Shown.{Ghosts as ViewOf}
use Rattle.book_owned.specs.Account.{Account}
use Rattle.book_owned.specs.Begun.{HasBegun}
use Rattle.mdf_layout.specs.Layout.{Layout}
use Rattle.acq_run.specs.declared.feed.Fed.{Fed}
use Rattle.acq_run.specs.Ran.{AllHanded}
use Rattle.acq_run.specs.declared.audience.Audience.{Audience}
use Rattle.acq_run.specs.declared.work.Driven.{Driven}
use Rattle.acq_script.specs.Stage.{IsScript}
use Rattle.acq_script.specs.declared.script.Plan.{Plan}
use Rattle.acq_script.specs.declared.script.Script.{Script}
use Rattle.acq_script.specs.declared.script.Task.{Task}
use Rattle.mdf_command.specs.declared.fault.Fault.TheVariants as fault
use Rattle.mdf_record.specs.Feeding.{HandsTasks, HasNone, IsAnyTask, fed_by}
use Rattle.mdf_record.specs.Feeds.{AreIdle, GoOn, HaveFed, HaveTaken, IsClosedWith, IsReadyFor}
use Rattle.mdf_record.specs.Record.{Outcome, outcome}
use Rattle.mdf_record.specs.Recorded.{HasRun}
use Rattle.mdf_record.specs.Sources.{feds_of}
use Rattle.mdf_record.specs.Work.{IsUnrecorded, Works}
use Rattle.mdf_record.specs.declared.feeds.RecordedFeeds.{RecordedFeeds}
use Rattle.mdf_record.specs.declared.feeds.Setting.{Setting}
use Rattle.mdf_record.specs.declared.record.RecordEnd.{RecordEnd}
use Rattle.mdf_record.specs.declared.sources.TaskFeed.{TaskFeed}
use Rattle.mdf_record.proofs.Handing.{feeds_count, tasks_idle, tasks_may, tasks_on}
use Rattle.mdf_record.proofs.Idle.{idle_run}
use Rattle.mdf_record.proofs.Taking.{goes_on, have_taken, run_of}
use Rattle.mdf_record.proofs.Tasking.{is_handed}

-- a book that was begun over what was taken of a plan was begun over the plan
pub begun_for : {D N : Type 0} (tells : DiskOf D) (shows : ViewOf Audience N) (plan : Plan) (file : Gated D) (shapes : List Layout) (block session : ℕ) (view : Audience) (book : Account D Audience)
    → shapes ≡ plan.shapes → block ≡ plan.block → session ≡ plan.session → HasBegun tells shows file shapes block session view book
    → HasBegun tells shows file plan.shapes plan.block plan.session view book
begun_for tells shows plan file shapes block session view book shapes_are block_is session_is begun =
    subst (λ ls. HasBegun tells shows file ls plan.block plan.session view book) shapes_are
    (subst (λ n. HasBegun tells shows file shapes n plan.session view book) block_is
    (subst (λ n. HasBegun tells shows file shapes block n view book) session_is begun))

-- and is looked at as the plan says
pub which_for : (live live' : Bool) (which : ℕ) → live ≡ live' → MatchBool live (0 < which) (which ≡ 0) → MatchBool live' (0 < which) (which ≡ 0)
which_for live live' which same is = subst (λ l. MatchBool l (0 < which) (which ≡ 0)) same is

-- nothing was handed in
none_handed : {F : Type 0} (hands : F → List Fed → F → Type 0) → ((feed : F) → hands feed [] feed) → (feeds : List F) → AllHanded hands feeds (replicate (length feeds) []) feeds
none_handed hands none [] = tt
none_handed hands none (feed ∷ feeds) = (none feed, none_handed hands none feeds)

none_go_on : (n : ℕ) → GoOn (replicate n []) [] (replicate n [])
none_go_on ℕ.zero = tt
none_go_on (suc n) = (([], refl), none_go_on n)

module _ {D F : Type 0} (tells : DiskOf D) (hands : F → List Fed → F → Type 0) (waits : F → Fed → Type 0) (ends : F → Type 0) (hands_none : (feed : F) → hands feed [] feed)
    (plan : Plan) (setting : Setting) (file : Gated D) (feeds : List F) (ready : IsReadyFor hands plan setting feeds) where
  have_fed : (left : Outcome) (end : RecordEnd) (feeds' : List F) (all : List Driven) (handed : List (List Fed)) → AllHanded hands feeds handed feeds' → GoOn handed all handed
      → ((lists : List (List Task)) → IsScript (record { plan = plan; lists = lists }) → GoOn handed all (map feds_of lists)
      → HasRun tells (record { plan = plan; lists = lists }) file left end)
      → AreIdle left end feeds feeds' handed all ⊎ HaveTaken waits ends plan file.faults left end handed all feeds' → HaveFed tells hands waits ends plan file left end feeds feeds' all
  have_fed left end feeds' all handed fed itself runs did =
      let is = is_handed hands plan ready.is_plan feeds feeds' handed ready.count fed ready.may in
      record {
        script = record { plan = plan; lists = is.lists };
        plan_is = refl;
        is_script = is.is_script;
        handed = subst (λ hs. AllHanded hands feeds hs feeds') (sym is.feds_are) fed;
        run = runs is.lists is.is_script (subst (GoOn handed all) (sym is.feds_are) itself);
        whole = λ longer is_longer same on.
            let told : record { plan = plan; lists = longer.lists } ≡ longer = ap (λ (p : Plan). record { plan = p; lists = longer.lists }) (sym same) in
            subst (λ (s : Script). HasRun tells s file left end) told
            (runs longer.lists (subst IsScript (sym told) is_longer) (subst (λ hs. GoOn hs all (map feds_of longer.lists)) is.feds_are on));
        did = subst (λ hs. AreIdle left end feeds feeds' hs all ⊎ HaveTaken waits ends plan file.faults left end hs all feeds') (sym is.feds_are) did;
      }

  -- where no source worked
  idle_fed : (left : Outcome) (end : RecordEnd) (feeds' : List F) (all : List Driven) → feeds' ≡ feeds → all ≡ [] → left.history ≡ []
      → (IsClosedWith (λ problem. problem ≡ Some fault.Memory → ⊥) end → ⊥)
      → ((lists : List (List Task)) → length lists ≡ plan.sources → HasRun tells (record { plan = plan; lists = lists }) file left end)
      → HaveFed tells hands waits ends plan file left end feeds feeds' all
  idle_fed left end feeds' all same none empty short runs =
      let handed = replicate (length feeds) [] in
      have_fed left end feeds' all handed (subst (AllHanded hands feeds handed) (sym same) (none_handed hands hands_none feeds))
      (subst (λ ds. GoOn handed ds handed) (sym none) (none_go_on (length feeds)))
      (λ lists is_script on. runs lists is_script.lists)
      (inl (record { same = same; nothing = refl; none = none; empty = empty; short = short }))

  -- nothing was recorded
  pub unrecorded_fed : (result : RecordedFeeds D F) → IsUnrecorded file.disk feeds result
      → HaveFed tells hands waits ends plan file (outcome tells result.recorded.out result.recorded.history.items result.recorded.marks.items) result.recorded.end feeds result.feeds.items result.all.items
  unrecorded_fed result is =
      idle_fed (outcome tells result.recorded.out result.recorded.history.items result.recorded.marks.items) result.recorded.end result.feeds.items result.all.items is.same is.none is.history
      (subst (IsClosedWith (λ problem. problem ≡ Some fault.Memory → ⊥)) is.end_is)
      (λ lists count. record {
        comes = rw (is.end_is) (refl, ap (state_of tells) is.out_is, is.history, is.marks);
        asked_is = ap tells.asked is.out_is;
        told = ap (λ (out : D). is_some (tells.story out)) is.out_is;
      })

  -- a book was begun over the plan
  pub works_fed : {N : Type 0} (shows : ViewOf Audience N) (view : Audience) (begun : Account D Audience) (result : RecordedFeeds D F)
      → MatchBool plan.live (0 < shows.which view) (shows.which view ≡ 0) → HasBegun tells shows file plan.shapes plan.block plan.session view begun
      → Works tells hands waits ends plan.owners begun feeds plan.live result
      → HaveFed tells hands waits ends plan file (outcome tells result.recorded.out result.recorded.history.items result.recorded.marks.items) result.recorded.end feeds result.feeds.items result.all.items
  works_fed shows view begun result which_is begins (inl none) =
      idle_fed (outcome tells result.recorded.out result.recorded.history.items result.recorded.marks.items) result.recorded.end result.feeds.items result.all.items none.same none.none
      (none.closes.history ∙ begins.history) (λ other. subst (IsClosedWith (λ problem. problem ≡ Some fault.Memory → ⊥)) none.closes.end_is other refl)
      (λ lists count. idle_run tells shows (record { plan = plan; lists = lists }) file view begun none.accepted result.recorded begins
      (none.zero ∙ ap (λ (n : ℕ). replicate n 0) (ready.count ∙ sym count)) none.closes)
  works_fed shows view begun result which_is begins (inr worked) =
      have_fed (outcome tells result.recorded.out result.recorded.history.items result.recorded.marks.items) result.recorded.end result.feeds.items result.all.items worked.worked.handed
      worked.worked.fed (goes_on tells shows hands waits ends plan file view begun feeds result which_is begins ready.count worked)
      (run_of tells shows hands waits ends plan file view begun feeds result which_is begins ready.count worked)
      (inr (have_taken tells shows hands waits ends plan file view begun feeds result which_is begins ready.count worked))

-- what was left by what was taken of a plan, and who looks
pub works_for : {D F : Type 0} (tells : DiskOf D) (hands : F → List Fed → F → Type 0) (waits : F → Fed → Type 0) (ends : F → Type 0) (plan : Plan) (owners : List ℕ) (live : Bool)
    (begun : Account D Audience) (feeds : List F) (result : RecordedFeeds D F) → owners ≡ plan.owners → live ≡ plan.live
    → Works tells hands waits ends owners begun feeds live result → Works tells hands waits ends plan.owners begun feeds plan.live result
works_for tells hands waits ends plan owners live begun feeds result owners_are live_is works =
    subst (λ os. Works tells hands waits ends os begun feeds plan.live result) owners_are (subst (λ l. Works tells hands waits ends owners begun feeds l result) live_is works)

-- what was taken of the plan of a script is ready for it, with feeds of its tasks
pub script_ready : {G : Type 0} (script : Script) (setting : Setting) (feeds : List (TaskFeed G)) → IsScript script → fed_by feeds ≡ map feds_of script.lists
    → setting.shapes ≡ script.plan.shapes → setting.owners.now ≡ script.plan.owners → setting.block ≡ script.plan.block → setting.session ≡ script.plan.session
    → setting.live ≡ script.plan.live → IsReadyFor HandsTasks script.plan setting feeds
script_ready script setting feeds is are shapes owners block session live = record {
  is_plan = is.plan;
  shapes = shapes;
  owners = owners;
  block = block;
  session = session;
  live = live;
  count = feeds_count script feeds is are;
  may = tasks_may script feeds is are;
}

-- the feeds of a script that goes on from what they handed in
pub script_run : {C G : Type 0} (tells : DiskOf C) (script : Script) (file : Gated C) (left : Outcome) (end : RecordEnd) (feeds feeds' : List (TaskFeed G)) (all : List Driven) → IsScript script
    → fed_by feeds ≡ map feds_of script.lists → HaveFed tells HandsTasks IsAnyTask HasNone script.plan file left end feeds feeds' all → HasRun tells script file left end
script_run tells script file left end feeds feeds' all is are fed =
    let handed = map feds_of fed.script.lists in
    fed.whole script is refl (subst (GoOn handed all) are (⊎_elim
    (λ idle. subst (λ ds. GoOn handed ds (fed_by feeds)) (sym idle.none) (tasks_idle feeds feeds' handed fed.handed))
    (λ taken. tasks_on feeds feeds' handed all fed.handed taken.ended) fed.did))
