-- The lowest so far is that of the demands passed; at the end all demands are passed, as proofs/Beyond says.
use Rattle.std.proofs.Common.{◌≡◌}
use Rattle.plan_upstream_stage.specs.Due.{lowest_rank}
use Rattle.plan_upstream_stage.proofs.lowest_rank.Given as goal

abbrev pub invariant-loop-i : goal.invariant-loop-i
invariant-loop-i l = l.lowest ≡ lowest_rank l.i l.demand l.rank
