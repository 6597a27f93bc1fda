-- The sums are those over the jobs passed: each turn adds the stage of one more job, and no stage where it is at none.
use Rattle.internals.specs.JobNumbers.{list_over}
use Rattle.internals.proofs.SumsPass.{Passed}
use Rattle.plan_bytes.specs.Over.{plan_read}
use Rattle.table_sums.proofs.sums_of.Given as goal

abbrev pub invariant-loop-i : goal.invariant-loop-i
invariant-loop-i l = Passed (plan_read l.plan.frame.now l.plan.stages.now) (list_over l.jobs.count l.jobs.numbers.now) l.i l.sums
