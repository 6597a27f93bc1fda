-- The types passed are closed, one turn as proofs/TypeEnds says.
use Rattle.std.proofs.Common.{◌≡◌, length}
use Rattle.model.specs.Numbers.{at, sum_to}
use Rattle.plan_upstream.proofs.TypeEnds.{ClosedTo}
use Rattle.plan_upstream.proofs.ranks.closed.Given as goal

abbrev pub invariant-loop-kind : goal.invariant-loop-kind
invariant-loop-kind l =
    record {
      same : l.index ≡ sum_to l.kind (at l.lengths);
      full : length l.ranks ≡ 128;
      passed : ClosedTo l.lengths l.types l.fn.lowest l.kind l.ranks;
    }
