-- The sum so far is that of the units passed, and small; at the end all units are passed, as proofs/Beyond says.
use Rattle.std.proofs.Common.{◌*◌, ◌≡◌, ◌≤◌}
use Rattle.model.specs.Numbers.{at, sum_to}
use Rattle.plan_upstream_stage.proofs.one_unit.Given as goal

abbrev pub invariant-loop-i : goal.invariant-loop-i
invariant-loop-i l = record { same : l.sum ≡ sum_to l.i (at l.demand); small : l.sum ≤ 255 * l.i }
