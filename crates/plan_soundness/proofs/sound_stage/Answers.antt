-- The answers of the tests together.
use Rattle.std.proofs.Common.{arith}
use Rattle.plan_soundness.proofs.StageTests.{stage_tests}
use Rattle.plan_soundness.proofs.sound_stage.Goals as goal

pub returns-then-zero_beyond : goal.returns-then-zero_beyond
returns-then-zero_beyond c =
    let a = c.args in
    let e = stage_tests a.resources a.rows a.capacity.now a.demand.now a.weight.now (λ i. omega (arith, c.type_inv.weight i)) in
    grind arith

pub returns-else-zero_beyond : goal.returns-else-zero_beyond
returns-else-zero_beyond c =
    let a = c.args in
    let e = stage_tests a.resources a.rows a.capacity.now a.demand.now a.weight.now (λ i. omega (arith, c.type_inv.weight i)) in
    grind arith
