-- What the feed of a source's tasks hands in.
use Rattle.std.specs.Prelude.{List, [], ◌++◌, map}
use Rattle.acq_run.specs.Listed.{IsAny, IsBehind, IsEmpty, behind_more, behind_none}
use Rattle.acq_run.specs.declared.feed.Fed.{Fed}
use Rattle.mdf_record.specs.Sources.{feds_of}
use Rattle.mdf_record.specs.declared.sources.TaskFeed.{TaskFeed}

-- what it has left
abbrev pub left_in : {G : Type 0} → TaskFeed G → List Fed
left_in feed = feds_of feed.tasks.rest.items

-- what each of these feeds has left
abbrev pub fed_by : {G : Type 0} → List (TaskFeed G) → List (List Fed)
fed_by {G} feeds = map (λ (feed : TaskFeed G). left_in feed) feeds

-- from the one to the other it handed in the front of what it had
abbrev pub HandsTasks : {G : Type 0} → TaskFeed G → List Fed → TaskFeed G → Type 0
HandsTasks feed feds later = IsBehind (left_in feed) feds (left_in later)

-- of what it handed in last it says nothing
abbrev pub IsAnyTask : {G : Type 0} → TaskFeed G → Fed → Type 0
IsAnyTask feed task = IsAny (left_in feed) task

abbrev pub HasNone : {G : Type 0} → TaskFeed G → Type 0
HasNone feed = IsEmpty (left_in feed)

pub tasks_none : {G : Type 0} (feed : TaskFeed G) → HandsTasks feed [] feed
tasks_none feed = behind_none (left_in feed)

pub tasks_more : {G : Type 0} (first second third : TaskFeed G) (some more : List Fed) → HandsTasks first some second → HandsTasks second more third
    → HandsTasks first (some ++ more) third
tasks_more first second third some more one two = behind_more (left_in first) (left_in second) (left_in third) some more one two
