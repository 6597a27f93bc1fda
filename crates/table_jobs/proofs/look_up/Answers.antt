use Rattle.std.proofs.Common.{◌≡◌, ℕ, ◌<◌, length, get_or, min, sym, ◌∙◌, arith}
use Rattle.std.proofs.lemmas.List.{get_or-take}
use Rattle.model.specs.Limits.{max_jobs}
use Rattle.model.specs.Jobs.{no_job}
use Rattle.model.specs.declared.Job.{Job}
use Rattle.events.specs.JobList.{jobs_of}
use Rattle.internals.specs.JobNumbers.{jobs_laid, list_lent}
use Rattle.internals.specs.declared.LentJobs.{LentJobs}
use Rattle.internals.proofs.JobsLaid.{slots_laid}
use Rattle.internals.proofs.Positions.{found_start, found_here, found_later, found_none, jobs_there}
use Rattle.table_jobs.proofs.look_up.Goals as goal

-- as many jobs are looked at as there are
module _ (l : LentJobs) (n : ℕ) (bound : n ≡ min l.count max_jobs) where
  there : length (jobs_of (list_lent l)) ≡ n
  there = jobs_there (list_lent l) (slots_laid l.numbers.now) ∙ sym bound

  -- the job that is read is the one at this position
  module _ (i : ℕ) (low : i < n) (j : Job) (read : j ≡ get_or (jobs_laid l.numbers.now) i no_job) where
    within : i < length (jobs_of (list_lent l))
    within = omega (arith, there)

    job_there : get_or (jobs_of (list_lent l)) i no_job ≡ j
    job_there = get_or-take l.count (jobs_laid l.numbers.now) i no_job (omega (arith, bound)) ∙ sym read

pub loop-at-init : goal.loop-at-init
loop-at-init c = found_start c.args.number (jobs_of (list_lent c.args.jobs))

pub returns-then-job-number : goal.returns-then-job-number
returns-then-job-number c =
    let jobs = c.args.jobs in
    let low = within jobs _ c.min-at-end.ensures _ c.loop-at-test.true _ c.job_at-job.ensures in
    let read = job_there jobs _ c.min-at-end.ensures _ c.loop-at-test.true _ c.job_at-job.ensures in
    sym (c.loop-at.invariant ∙ found_here c.args.number (jobs_of (list_lent jobs)) c.loop-at.at _ low read c.if-job-number.true)

pub loop-at-preserved : goal.loop-at-preserved
loop-at-preserved c =
    let jobs = c.args.jobs in
    let low = within jobs _ c.min-at-end.ensures _ c.loop-at-test.true _ c.job_at-job.ensures in
    let read = job_there jobs _ c.min-at-end.ensures _ c.loop-at-test.true _ c.job_at-job.ensures in
    c.loop-at.invariant ∙ found_later c.args.number (jobs_of (list_lent jobs)) c.loop-at.at _ low read c.if-job-number.false

pub returns : goal.returns
returns c =
    let jobs = c.args.jobs in
    let long = there jobs _ c.min-at-end.ensures in
    sym (c.loop-at.invariant ∙ found_none c.args.number (jobs_of (list_lent jobs)) c.loop-at.at (omega (arith, c.loop-at-test.false, long)))
