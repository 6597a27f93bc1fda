-- The row's excess, read where the stages stand that the event exchanges.
use Rattle.std.proofs.Common.{ap, ◌∙◌}
use Rattle.events.specs.declared.JobList.{JobList}
use Rattle.plan_bytes.specs.Over.{plan_over}
use Rattle.told_text.specs.EventMessage.{excess_after}
use Rattle.internals.specs.JobNumbers.{list_over}
use Rattle.internals.proofs.JobsLaid.{over_laid}
use Rattle.table_excess.proofs.RowWeights.{excess_read}
use Rattle.table_excess.proofs.excess_after.Goals as goal

pub returns : goal.returns
returns c =
    let a = c.args in
    let same = over_laid a.list c.laid-numbers.result c.laid-numbers.ensures in
    c.row_above.ensures
    ∙ excess_read a.plan.frame.now a.plan.stages.now a.row (list_over a.list.count c.laid-numbers.result) a.event c.sums_of-sums.ensures
    c.exchange_of-exchange.ensures c.weights_at-old.ensures c.weights_at-new.ensures
    ∙ ap (λ (t : JobList). excess_after (plan_over a.plan.frame.now a.plan.stages.now) t a.event a.row) same
