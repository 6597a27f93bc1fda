-- The table of document 01 as a value: the list of active jobs in the order they were loaded, with zeros beyond them. In
-- these files t is such a list; the struct `Table`, which has the methods, holds one.
use Rattle.std.specs.Prelude.{ℕ, ◌-◌, ◌≤◌, ◌<◌, Bool, ◌&&◌, List, [], ◌++◌, ◌≡◌, length, take, drop, replicate, leb, eqb}
use Rattle.model.specs.Limits.{max_jobs}
use Rattle.model.specs.Numbers.{entry, each}
use Rattle.model.specs.Jobs.{no_job, Agreeing, agreeing}
use Rattle.model.specs.declared.Plan.{Plan}
use Rattle.model.specs.declared.Job.{Job}
use Rattle.events.specs.declared.JobList.{JobList}

abbrev pub jobs_of : JobList → List Job
jobs_of t = take t.count t.jobs

-- the job list that holds these jobs, in this order
unfoldable pub list_of : List Job → JobList
list_of js = record { count = length js; jobs = js ++ replicate (max_jobs - length js) no_job }

abbrev pub empty_list : JobList
empty_list = list_of []

-- the table agrees with the plan (document 01's term); a job list of the program always has its 64 slots
pub record Agrees (p : Plan) (t : JobList) : Type 0 where
  pub slots : length t.jobs ≡ max_jobs
  pub few : t.count ≤ max_jobs
  pub zeros : (i : ℕ) → t.count < i → entry t.jobs i no_job ≡ no_job
  pub jobs : Agreeing p (jobs_of t)

-- the same, computed
abbrev pub is_no_job : Job → Bool
is_no_job j = eqb j.number 0 && eqb j.kind 0 && eqb j.stage 0

unfoldable pub agrees : Plan → JobList → Bool
agrees p t = eqb (length t.jobs) max_jobs && leb t.count max_jobs && each is_no_job (drop t.count t.jobs) && agreeing p (jobs_of t)
