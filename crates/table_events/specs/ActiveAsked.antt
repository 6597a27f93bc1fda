-- What the opening of an event whose job must be active, a move or a pull, hands on: where questions 11 to 14 and 17 are met what agreement hands on
-- and the job that the event names; and the removal of that job.
use Rattle.std.specs.Prelude.{ℕ, Result, Ok, Err}
use Rattle.model.specs.declared.Plan.{Plan}
use Rattle.events.specs.JobList.{jobs_of}
use Rattle.events.specs.declared.JobList.{JobList}
use Rattle.events.specs.declared.Answer.{Answer}
use Rattle.internals.specs.Internals.{found_in, active_answer, agreed}
use Rattle.internals.specs.declared.Agreed.{Agreed}
use Rattle.internals.specs.declared.Found.{Found}
use Rattle.internals.specs.declared.Change.{Change}
use Rattle.internals.specs.declared.Change.TheVariants.{Removed}
use Rattle.internals.specs.declared.StageAsked.{StageAsked}
use Rattle.table_events.specs.declared.Asked.{Asked}

-- the first refusal, and else both
abbrev pub both_asked : Result Agreed Answer → Result Found Answer → Result Asked Answer
both_asked (Ok g) (Ok f) = Ok (record { agreed = g; found = f })
both_asked (Ok g) (Err refusal) = Err refusal
both_asked (Err refusal) f = Err refusal

abbrev pub active_asked : Plan → JobList → ℕ → StageAsked → Result Asked Answer
active_asked p t n wanted = both_asked (agreed p t) (active_answer p.lengths (found_in n (jobs_of t)) n wanted)

abbrev pub removal_from : Result Asked Answer → Result Change Answer
removal_from (Ok a) = Ok (Removed a.found.at)
removal_from (Err refusal) = Err refusal
