-- The flag says whether some of the first i is not 0.
use Rattle.std.proofs.Common.{◌≡◌, leb}
use Rattle.model.specs.Numbers.{at, some_to}
use Rattle.plan_soundness.proofs.some_positive.Given as goal

abbrev pub invariant-loop-i : goal.invariant-loop-i
invariant-loop-i l = l.some ≡ some_to l.i (λ j. leb 1 (at l.xs j))
