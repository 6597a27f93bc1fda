-- What is left to do from the table at hand, after the moves made, is what was to do at the start.
use Rattle.std.proofs.Common.{◌-◌, ◌≡◌, ◌≤◌}
use Rattle.model.specs.Soundness.{Sound}
use Rattle.events.specs.JobList.{Agrees}
use Rattle.events.specs.Drain.{drain_from}
use Rattle.internals.specs.Internals.{ceilings_of}
use Rattle.internals.proofs.DrainLoop.{after_moves}
use Rattle.plan_bytes.specs.Over.{plan_of}
use Rattle.table_drain.proofs.drain_from.Given as goal

abbrev pub invariant-loop-t : goal.invariant-loop-t
invariant-loop-t l =
    record {
      sound : Sound (plan_of l.plan);
      agrees : Agrees (plan_of l.plan) l.t;
      ceilings : l.ceilings ≡ ceilings_of (plan_of l.plan);
      within : l.moves ≤ l.budget;
      rest : drain_from (plan_of l.plan) l.budget l.initial.t
          ≡ after_moves l.moves (drain_from (plan_of l.plan) (l.budget - l.moves) l.t);
    }

abbrev pub decreases-loop-t : goal.decreases-loop-t
decreases-loop-t l = l.budget - l.moves
