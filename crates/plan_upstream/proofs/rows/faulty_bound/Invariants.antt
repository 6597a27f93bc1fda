-- The bounds passed are in range.
use Rattle.std.proofs.Common.{◌≡◌, ℕ}
use Rattle.model.specs.Numbers.{at, in_range, lowest}
use Rattle.plan_upstream.proofs.rows.faulty_bound.Given as goal

abbrev pub invariant-loop-row : goal.invariant-loop-row
invariant-loop-row l = lowest l.row (λ (r : ℕ). in_range (at l.bound r) (at l.capacity r)) ≡ 0
