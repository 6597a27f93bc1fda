-- The list handed back is put into a table.
use Rattle.plan_bytes.specs.Over.{plan_over}
use Rattle.admission.proofs.HandedBack.{drain_handed}
use Rattle.admission.proofs.Table.drain.Goals as goal

pub returns : goal.returns
returns c =
    let a = c.args in
    drain_handed (plan_over a.plan.frame.now a.plan.stages.now) a.self a.budget c.drain-drained.result c.drain-drained.ensures
