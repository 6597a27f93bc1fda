-- The flag says whether each of the first i is within its limit.
use Rattle.std.proofs.Common.{◌≡◌, leb}
use Rattle.model.specs.Numbers.{at, all_to}
use Rattle.plan_soundness.proofs.all_within.Given as goal

abbrev pub invariant-loop-i : goal.invariant-loop-i
invariant-loop-i l = l.ok ≡ all_to l.i (λ j. leb (at l.xs j) (at l.limit j))
