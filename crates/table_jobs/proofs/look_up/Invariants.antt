-- The search among all jobs goes on among those not yet passed.
use Rattle.std.proofs.Common.{◌≡◌, drop}
use Rattle.events.specs.JobList.{jobs_of}
use Rattle.internals.specs.Internals.{found_in}
use Rattle.internals.specs.JobNumbers.{list_lent}
use Rattle.internals.proofs.Positions.{found_from}
use Rattle.table_jobs.proofs.look_up.Given as goal

abbrev pub invariant-loop-at : goal.invariant-loop-at
invariant-loop-at l = found_in l.number (jobs_of (list_lent l.jobs)) ≡ found_from l.number l.at (drop l.at (jobs_of (list_lent l.jobs)))
