-- The sum is that of the types passed.
use Rattle.std.proofs.Common.{◌≡◌, ◌*◌, ◌≤◌}
use Rattle.model.specs.Numbers.{at, sum_to}
use Rattle.plan_stages.proofs.stages_before.Given as goal

abbrev pub invariant-loop-i : goal.invariant-loop-i
invariant-loop-i l = record { same : l.sum ≡ sum_to l.i (at l.lengths); small : l.sum ≤ l.i * 255 }
