-- What is kept is the greatest of the entries passed.
use Rattle.std.proofs.Common.{◌≡◌}
use Rattle.internals.specs.Internals.{greatest_after}
use Rattle.table_sums.proofs.worst_row.Given as goal

abbrev pub invariant-loop-i : goal.invariant-loop-i
invariant-loop-i l = greatest_after l.i l.sums l.old l.new l.bounds ≡ record { row = l.row; excess = l.excess }
