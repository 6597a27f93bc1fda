-- The types passed and what is left of the index together are the index.
use Rattle.std.proofs.Common.{◌+◌, ◌≡◌}
use Rattle.model.specs.Numbers.{at, sum_to}
use Rattle.plan_upstream.proofs.position.position_of.Given as goal

abbrev pub invariant-loop-kind : goal.invariant-loop-kind
invariant-loop-kind l = l.index ≡ sum_to l.kind (at l.lengths) + l.stage
