-- No entry passed is above its ceiling, so the one at which the loop is left is the lowest.
use Rattle.std.proofs.Common.{◌≡◌}
use Rattle.internals.specs.Internals.{lowest_after}
use Rattle.table_sums.proofs.lowest_above.Given as goal

abbrev pub invariant-loop-i : goal.invariant-loop-i
invariant-loop-i l = lowest_after l.i l.amounts l.old l.new l.ceilings ≡ 0
