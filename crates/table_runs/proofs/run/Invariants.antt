-- What is left to run from the table at hand, after the events admitted, is what was to run at the start.
use Rattle.std.proofs.Common.{◌≡◌, ◌≤◌, length}
use Rattle.plan_bytes.specs.Over.{plan_over}
use Rattle.table_runs.specs.Run.{events_of, ran}
use Rattle.table_runs.proofs.EventByEvent.{after_events}
use Rattle.table_runs.proofs.run.Given as goal

abbrev pub invariant-loop-letter : goal.invariant-loop-letter
invariant-loop-letter l =
    let left = l.letter-iterator in
    record {
      few : l.admitted ≤ length l.yielded;
      rest : ran (plan_over l.plan.frame.now l.plan.stages.now) l.initial.t (events_of l.letters l.jobs l.kinds)
          ≡ after_events l.admitted (ran (plan_over l.plan.frame.now l.plan.stages.now) l.t (events_of left.a.a.rest.now left.a.b.rest.now left.b.rest.now));
    }
