-- The numbers that are left differ exactly when all do, since those before differ from all after them.
use Rattle.std.proofs.Common.{◌≡◌, length}
use Rattle.model.specs.Jobs.{distinct}
use Rattle.table_agreement.proofs.all_distinct.Given as goal

abbrev pub invariant-loop-n : goal.invariant-loop-n
invariant-loop-n l = distinct l.ns ≡ distinct l.rest

abbrev pub decreases-loop-n : goal.decreases-loop-n
decreases-loop-n l = length l.rest
