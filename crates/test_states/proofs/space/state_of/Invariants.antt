-- Each job adds 100000 at most.
use Rattle.std.proofs.Common.{◌*◌, ◌≤◌}
use Rattle.test_states.proofs.space.state_of.Given as goal

abbrev pub invariant-loop-j : goal.invariant-loop-j
invariant-loop-j l = l.marking ≤ 100000 * l.j-index
