-- A job list in the form in which an event asks it: its count, and three numbers for each of its 64 slots, the job's number, type and stage, one
-- slot behind the other, lent. And what an event then does to the list.
use Rattle.std.specs.Prelude.{ℕ, List, get_or, ◌≡◌, Result, Ok, Err, is_ok}
use Rattle.model.specs.Limits.{max_jobs}
use Rattle.model.specs.declared.Plan.{Plan}
use Rattle.model.specs.declared.Job.{Job}
use Rattle.events.specs.Events.{is_admitted, answer, list_outcome}
use Rattle.events.specs.declared.Event.{Event}
use Rattle.events.specs.declared.Answer.{Answer}
use Rattle.events.specs.declared.Answer.TheVariants.{Admitted}
use Rattle.events.specs.declared.JobList.{JobList}
use Rattle.events.specs.declared.ListOutcome.{ListOutcome}
use Rattle.plan_bytes.specs.Over.{entries_in}
use Rattle.internals.specs.Internals.{with_job, with_replaced, without_job}
use Rattle.internals.specs.declared.LentJobs.{LentJobs}
use Rattle.internals.specs.declared.Change.{Change}
use Rattle.internals.specs.declared.Change.TheVariants.{Added, Moved, Removed}

abbrev pub job_read : List ℕ → Job
job_read xs = record { number = get_or xs 0 0; kind = get_or xs 1 0; stage = get_or xs 2 0 }

abbrev pub jobs_laid : List ℕ → List Job
jobs_laid xs = entries_in job_read 3 max_jobs xs

abbrev pub list_over : ℕ → List ℕ → JobList
list_over count xs = record { count = count; jobs = jobs_laid xs }

-- the list that is lent
abbrev pub list_lent : LentJobs → JobList
list_lent l = list_over l.count l.numbers.now

-- the list after a change, and what an event that was judged so leads to
abbrev pub changed_by : JobList → Change → JobList
changed_by t (Added j) = with_job t j
changed_by t (Moved i j) = with_replaced t i j
changed_by t (Removed i) = without_job t i

abbrev pub applied : JobList → Result Change Answer → ListOutcome
applied t (Ok change) = record { answer = Admitted; list = changed_by t change }
applied t (Err refusal) = record { answer = refusal; list = t }

-- an event is judged so: what is done to the list is its outcome, and only a refusal does nothing
pub record Judges (p : Plan) (t : JobList) (e : Event) (r : Result Change Answer) : Type 0 where
  pub outcome : applied t r ≡ list_outcome p t e
  pub admitted : is_ok r ≡ is_admitted (answer p t e)
