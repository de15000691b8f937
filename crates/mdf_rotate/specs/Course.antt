-- How a rotation goes on from one part to the next.
use Rattle.std.specs.Prelude.{◌≡◌, if◌then◌else◌, Some, None, Result, Ok, Err}
use Rattle.acq_script.specs.declared.script.Script.{Script}
use Rattle.book_rotate.specs.Begin.{AllHaveRoom, IsFirstLarge}
use Rattle.book_rotate.specs.Part.{is_done}
use Rattle.mdf_command.specs.declared.fault.Fault.TheVariants as fault
use Rattle.mdf_record.specs.declared.record.RecordEnd.{RecordEnd}
use Rattle.mdf_record.specs.declared.record.RecordEnd.TheVariants.{Refused, Closed}
use Rattle.mdf_rotate.specs.declared.course.RotateEnd.{RotateEnd}
use Rattle.mdf_rotate.specs.declared.course.RotateEnd.TheVariants.{Whole, Over, Faulted}

-- what is left of the script, or how the rotation has ended
abbrev pub Course : Type 0
Course = Result Script RotateEnd

-- a script is begun where a session has room for each of its samples, and memory is found
abbrev pub BeginComes : Script → Course → Type 0
BeginComes script (Ok left) = (left ≡ script) × AllHaveRoom script
BeginComes script (Err (Faulted (fault.SessionFull held size limit))) = (held ≡ 0) × IsFirstLarge script size limit
BeginComes script (Err (Faulted fault.Memory)) = AllHaveRoom script
BeginComes script (Err _) = ⊥

-- behind a part that was recorded whole: it ends where no task is left
abbrev pub goes_on : Script → Course
goes_on rest = if is_done rest.lists then Err Whole else Ok rest

-- behind a part that ended so: it goes on only where nothing went wrong
abbrev pub course_behind : RecordEnd → Script → Course
course_behind (Refused problem) rest = Err (Faulted problem)
course_behind (Closed accepted samples last live (Some problem) seen) rest = Err (Faulted problem)
course_behind (Closed accepted samples last live None seen) rest = goes_on rest

-- behind the last disk: what is left has no disk
abbrev pub end_of : Course → RotateEnd
end_of (Ok rest) = Over
end_of (Err end) = end
