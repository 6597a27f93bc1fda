-- What the jobs from i on say is what all of them say.
use Rattle.std.proofs.Common.{◌-◌, ◌≡◌, drop}
use Rattle.model.specs.Numbers.{each}
use Rattle.model.specs.Jobs.{fits}
use Rattle.events.specs.JobList.{jobs_of}
use Rattle.internals.specs.JobNumbers.{list_over}
use Rattle.table_agreement.proofs.jobs_fit.Given as goal

abbrev pub invariant-loop-i : goal.invariant-loop-i
invariant-loop-i l =
    each (fits l.types l.lengths) (jobs_of (list_over l.jobs.count l.jobs.numbers.now))
    ≡ each (fits l.types l.lengths) (drop l.i (jobs_of (list_over l.jobs.count l.jobs.numbers.now)))

abbrev pub decreases-loop-i : goal.decreases-loop-i
decreases-loop-i l = l.jobs.count - l.i
