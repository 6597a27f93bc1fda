use Rattle.std.proofs.Common.{ℕ, ◌+◌, ◌<◌, ◌≤◌, ◌≡◌, ◌&&◌, List, length, drop, get_or, Bool, refl, sym, ◌∙◌, arith}
use Rattle.std.proofs.Math.Seq.{get_or-take, length-take-le}
use Rattle.model.specs.Limits.{max_jobs}
use Rattle.model.specs.Numbers.{each}
use Rattle.model.specs.Jobs.{no_job, fits}
use Rattle.model.specs.declared.Job.{Job}
use Rattle.model.proofs.Search.{each_here, each_end}
use Rattle.events.specs.JobList.{jobs_of}
use Rattle.internals.specs.JobNumbers.{jobs_laid, list_over}
use Rattle.internals.proofs.JobsLaid.{slots_laid}
use Rattle.table_agreement.proofs.jobs_fit.Goals as goal

there : (count : ℕ) (jobs : List ℕ) → count ≤ max_jobs → length (jobs_of (list_over count jobs)) ≡ count
there count jobs h = length-take-le count (jobs_laid jobs) (omega (arith, slots_laid jobs))

-- at one job: what is said from it on is what it says, and what is said from the next on
fits_here : (fitting : Job → Bool) (count : ℕ) (jobs : List ℕ) (i : ℕ) (j : Job) (b : Bool) → count ≤ max_jobs → i < count
    → j ≡ get_or (jobs_laid jobs) i no_job → b ≡ fitting j
    → each fitting (drop i (jobs_of (list_over count jobs))) ≡ (b && each fitting (drop (i + 1) (jobs_of (list_over count jobs))))
fits_here fitting count jobs i j b few h read says =
    let here : get_or (jobs_of (list_over count jobs)) i no_job ≡ get_or (jobs_laid jobs) i no_job = get_or-take count (jobs_laid jobs) i no_job h in
    each_here fitting (jobs_of (list_over count jobs)) i no_job (omega (arith, there count jobs few)) ∙ rw (here ∙ sym read, sym says) refl

pub returns-then-not-job_fits : goal.returns-then-not-job_fits
returns-then-not-job_fits c =
    let a = c.args in
    sym (c.loop-i.invariant ∙ fits_here (fits a.types a.lengths.now) a.jobs.count a.jobs.numbers.now c.loop-i.i _ _ c.requires c.loop-i-test.true c.job_at-j.ensures c.if-not-job_fits.ensures)

pub loop-i-preserved : goal.loop-i-preserved
loop-i-preserved c =
    let a = c.args in
    c.loop-i.invariant ∙ fits_here (fits a.types a.lengths.now) a.jobs.count a.jobs.numbers.now c.loop-i.i _ _ c.requires c.loop-i-test.true c.job_at-j.ensures c.if-not-job_fits.ensures

pub returns : goal.returns
returns c =
    let a = c.args in
    let long = there a.jobs.count a.jobs.numbers.now c.requires in
    sym (c.loop-i.invariant ∙ each_end _ (jobs_of (list_over a.jobs.count a.jobs.numbers.now)) c.loop-i.i (omega arith))
