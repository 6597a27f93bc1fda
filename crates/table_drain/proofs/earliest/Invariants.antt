-- The search among all jobs goes on among those not yet passed.
use Rattle.std.proofs.Common.{◌≡◌, drop}
use Rattle.std.specs.List.{position_from}
use Rattle.events.specs.JobList.{jobs_of}
use Rattle.internals.specs.Internals.{movable, earliest_position}
use Rattle.plan_bytes.specs.Over.{plan_of}
use Rattle.table_drain.proofs.earliest.Given as goal

abbrev pub invariant-loop-i : goal.invariant-loop-i
invariant-loop-i l = earliest_position (plan_of l.plan) l.t ≡ position_from (movable (plan_of l.plan) l.t) l.i (drop l.i (jobs_of l.t))
