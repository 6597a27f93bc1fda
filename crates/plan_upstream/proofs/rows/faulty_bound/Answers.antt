use Rattle.std.proofs.Common.{ℕ, sym}
use Rattle.model.specs.Numbers.{at, in_range}
use Rattle.plan_upstream.proofs.RowSearch.{fault_here}
use Rattle.plan_upstream.proofs.rows.faulty_bound.Goals as goal

pub returns-then-not-right_bound : goal.returns-then-not-right_bound
returns-then-not-right_bound c =
    let a = c.args in
    fault_here (λ (r : ℕ). in_range (at a.bound.now r) (at a.capacity.now r)) a.n c.loop-row.row c.loop-row.invariant c.loop-row-test.true
    (sym c.if-not-right_bound.ensures)
